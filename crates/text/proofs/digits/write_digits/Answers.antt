-- Where no digit is left, all are written.
use Rattle.text.proofs.LastDigits.{digits_wrote}
use Rattle.text.proofs.digits.write_digits.Goals as goal

pub returns : goal.returns
returns c = digits_wrote _ _ _ _ _ _ _ c.requires c.loop-left-test.false c.loop-left.invariant
