-- Four squares of the radius are the square of two radii, and u is added to those.
use mathlib.Core.Path.{◌≡◌, refl}
use Prim.Native.Nat.{ℕ, ◌+◌, ◌*◌, ◌≤◌, max}
use native.Mathlib.Omega.{arith}
use native.Mathlib.Nat.{mul-mul-mul_comm}
use Rattle.points.specs.declared.Point.{Point}
use Rattle.points.specs.declared.Arc.{Arc}
use Rattle.points.specs.Points.{square, last_unit}
use Rattle.points.proofs.Signed.{square_bound}
use Rattle.rules.specs.Obeys.{Possible}
use Rattle.demands.specs.MoreArcs.{PossibleBefore, Units, ArcLines, MoreArcs}
use Rattle.demands.proofs.BenchFile.{computing}

four_squares : (r u : ℕ) → 4 * (r * r) ≤ square (2 * r + u)
unfolding square
four_squares r u = omega (arith, mul-mul-mul_comm 2 r 2 r, square_bound (2 * r) (2 * r + u) (omega arith))

stays_possible : (s : Point) (a : Arc) → PossibleBefore s a → Possible s a
stays_possible s a w = record { apart = w.apart; near = omega (arith, w.near, four_squares a.radius (last_unit a.decimals)) }

units : Units
unfolding last_unit
units = record { up_to_three = λ d h. let e : max d 3 ≡ 3 = omega arith in rw e; four = refl; five = refl; six = refl }

arc_lines : ArcLines
unfolding computing
arc_lines = record {
  rounded = refl;
  one_less = refl;
  to_six = refl;
  one_less_of_six = refl;
  furthest = refl;
  too_far = refl;
  four_decimals = refl;
  zeros_read = refl;
  zeros_written = refl;
  point_read = refl;
  point_dropped = refl;
}

pub more_arcs : MoreArcs
more_arcs = record { stays_possible = stays_possible; units = units; lines = arc_lines }
