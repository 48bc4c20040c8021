-- Where negative a minus and then the size, else the size alone.
use Rattle.text.proofs.Signs.{coordinate_signed, minus_text, plain_text}
use Rattle.text.proofs.Wrote.{wrote_more}
use Rattle.millionths.proofs.put_coordinate.Goals.{then-x-lt0, else-x-lt0}
use Rattle.millionths.proofs.put_coordinate.Goals as goal

pub returns : goal.returns
returns c =
    elim c.if-x-lt0.branch [
      | then-x-lt0 w ↦
          rw (minus_text coordinate_signed _ c.ranges.x _ c.size.ensures w.if-x-lt0.true)
          (wrote_more w.put_byte-digits.ensures (rw (w.b-is, w.digits-is) at c.put_number.ensures))
      | else-x-lt0 w ↦ rw (plain_text coordinate_signed _ c.ranges.x _ c.size.ensures w.if-x-lt0.false) (rw (w.b-is, w.digits-is) at c.put_number.ensures)
    ]
