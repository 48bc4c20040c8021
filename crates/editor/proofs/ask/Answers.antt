-- The line is one of the table's, and its state before and its new command are in range.
use Rattle.std.proofs.Common.{rules, arith}
use Rattle.laws.proofs.Sizes.{line_says}
use Rattle.laws.proofs.InRange.{said_ok}
use Rattle.editor.proofs.Tests.{before_found, line_found}
use Rattle.editor.proofs.ask.Goals as goal

pub overflow_sub-line : goal.overflow_sub-line
overflow_sub-line c = omega (arith, (line_says c.args.n c.args.line (search rules)).0)

pub overflow_sub-line-2 : goal.overflow_sub-line-2
overflow_sub-line-2 c = omega (arith, (line_says c.args.n c.args.line (search rules)).0)

pub ask_from-requires : goal.ask_from-requires
ask_from-requires c =
    let a = c.args in
    (line_found _ _ _ (search rules) (search rules), before_found a.table.now a.line _ (search rules), said_ok a.revision a.text.now _ (search rules))
