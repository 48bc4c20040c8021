-- What is put for the rows is the print-out of `counts`.
use Rattle.std.proofs.Common.{rules}
use Rattle.report.specs.Parts.{counts_out}
use Rattle.report.proofs.Answers.{counts_prints}
use Rattle.report.proofs.counts.Goals as goal

pub returns : goal.returns
returns c = c.print_out.ensures counts_out _ (λ b t n s k r b' p. search rules) (counts_prints c.args.revision c.args.file.now)
