-- The text of the rows so far is written; one more line makes the text of one row more.
use Rattle.writer.proofs.Walk.{wrote_none, wrote_row}
use Rattle.writer.proofs.put_rows.Goals as goal

pub loop-i-init : goal.loop-i-init
loop-i-init c = wrote_none _

pub loop-i-preserved : goal.loop-i-preserved
loop-i-preserved c = wrote_row _ _ c.loop-i.invariant (rw c.untested_command.ensures at c.put_line-at.ensures)
