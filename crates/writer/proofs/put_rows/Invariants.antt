use Rattle.text.specs.Wrote.{Wrote}
use Rattle.writer.specs.Walk.{text_to}
use Rattle.writer.proofs.put_rows.Given as goal

abbrev pub invariant-loop-i : goal.invariant-loop-i
invariant-loop-i l = Wrote l.initial.text 0 (text_to l.table l.i) l.text l.at
