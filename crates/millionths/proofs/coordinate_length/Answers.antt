-- A minus before the size's text where the coordinate is negative.
use mathlib.Core.Path.{ap}
use native.Mathlib.Omega.{arith}
use lib.ListN.{length}
use Rattle.text.proofs.Signs.{coordinate_signed, minus_text, plain_text}
use Rattle.millionths.proofs.coordinate_length.Goals as goal

pub returns-then-x-lt0 : goal.returns-then-x-lt0
returns-then-x-lt0 c =
    omega (arith, ap length (minus_text coordinate_signed c.args.x c.ranges.x _ c.size.ensures c.if-x-lt0.true))

pub returns-else-x-lt0 : goal.returns-else-x-lt0
returns-else-x-lt0 c =
    omega (arith, ap length (plain_text coordinate_signed c.args.x c.ranges.x _ c.size.ensures c.if-x-lt0.false))
