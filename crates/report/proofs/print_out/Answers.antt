-- The file was refused; or it was read, and then its last row is whole.
use mathlib.Core.Path.{sym, ◌∙◌}
use Rattle.report.proofs.Answers.{file_refused, some_lines, no_last, file_done}
use Rattle.report.proofs.print_out.Goals as goal

pub returns-in-Err : goal.returns-in-Err
returns-in-Err g c =
    λ out x puts s.
    file_refused s c.args.table.now c.args.text.now (sym c.blocks_fit.ensures ∙ c.if-not-blocks_fit.false) c.read-read.ensures _ c.in-Err.is c.put_refused.ensures

pub overflow_sub-n : goal.overflow_sub-n
overflow_sub-n g c = some_lines c.read-read.ensures _ c.in-Ok.is

pub returns-in_default : goal.returns-in_default
returns-in_default g c =
    λ out x puts s.
    absurd (no_last c.read-read.ensures _ c.in-Ok.is c.look.ensures c.in_default.is)

pub returns : goal.returns
returns g c =
    λ out x puts s.
    file_done s c.args.table.now c.args.text.now (sym c.blocks_fit.ensures ∙ c.if-not-blocks_fit.false) c.read-read.ensures _ c.in-Ok.is c.look.ensures _ c.in-Some.is (puts _ _ _ _ _ _ _ c.put.ensures)
