-- Five parts one after the other.
use Rattle.print.proofs.Tabs.{wrote_fields}
use Rattle.print.proofs.fields.put_hole.Goals as goal

pub returns : goal.returns
returns c =
    wrote_fields _ _ c.put_letter-letter_end.ensures
    (wrote_fields _ _ (rw c.from.ensures at c.put_number-tool_end.ensures) (wrote_fields _ _ c.put_point-start_end.ensures
    (wrote_fields _ _ c.put_point-end_end.ensures (rw c.from-2.ensures at c.put_number.ensures))))
