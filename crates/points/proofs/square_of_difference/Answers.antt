-- The square of the size is the size of the square.
use mathlib.Core.Path.{sym}
use lib.IntN.{◌-ℤ◌}
use mir.Facts.{to_z-of_z}
use Rattle.points.specs.Points.{square_of_difference}
use Rattle.points.proofs.Signed.{square_abs, square_bound}
use Rattle.points.proofs.square_of_difference.Goals as goal

pub returns : goal.returns
unfolding square_of_difference
returns c = (
  rw (c.distance-d.ensures.0, to_z-of_z c.ranges.a, to_z-of_z c.ranges.b)
      (sym (square_abs (c.args.a -ℤ c.args.b))),
  square_bound c.distance-d.result 4294967295 c.distance-d.ensures.1,
)
