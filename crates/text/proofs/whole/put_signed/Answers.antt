-- Where negative a minus and then the size, else the size alone.
use Rattle.text.proofs.Signs.{decimal_signed, minus_text, plain_text}
use Rattle.text.proofs.Wrote.{wrote_more}
use mathlib.Core.Path.{◌∙◌}
use Rattle.text.proofs.whole.put_signed.Goals.{then-x-lt0, else-x-lt0}
use Rattle.text.proofs.whole.put_signed.Goals as goal

pub returns : goal.returns
returns c =
    let m = c.from.ensures ∙ c.size.ensures in
    elim c.if-x-lt0.branch [
      | then-x-lt0 w ↦ rw (minus_text decimal_signed _ c.ranges.x _ m w.if-x-lt0.true) (wrote_more w.put_byte-digits.ensures (rw (w.b-is, w.digits-is) at c.put_decimal.ensures))
      | else-x-lt0 w ↦ rw (plain_text decimal_signed _ c.ranges.x _ m w.if-x-lt0.false) (rw (w.b-is, w.digits-is) at c.put_decimal.ensures)
    ]
