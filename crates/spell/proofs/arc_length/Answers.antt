-- The point, a letter and the radius.
use native.Mathlib.Omega.{arith}
use Rattle.spell.proofs.Lengths.{arc_length}
use Rattle.spell.proofs.arc_length.Goals as goal

pub returns : goal.returns
returns c = omega (arith, arc_length c.args.a)
