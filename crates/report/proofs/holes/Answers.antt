-- What is put for the rows is the print-out of `holes`.
use Rattle.std.proofs.Common.{rules}
use Rattle.report.specs.Parts.{holes_out}
use Rattle.report.proofs.Answers.{holes_prints}
use Rattle.report.proofs.holes.Goals as goal

pub returns : goal.returns
returns c = c.print_out.ensures holes_out _ (λ b t n s k r b' p. search rules) (holes_prints c.args.revision c.args.file.now)
