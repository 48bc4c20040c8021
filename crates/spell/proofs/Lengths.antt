-- How long lines are: each as long as its parts together.
use mathlib.Core.Path.{◌≡◌}
use mathlib.Core.List.{List, [], ◌∷◌, ◌++◌}
use Prim.Native.Nat.{ℕ, ◌+◌}
use native.Mathlib.Omega.{arith}
use lib.ListN.{length, length-append}
use Rattle.lists.specs.Words.{bytes}
use Rattle.points.specs.declared.Point.{Point}
use Rattle.points.specs.declared.Arc.{Arc}
use Rattle.rules.specs.Lines.{LF}
use Rattle.rules.specs.Writing.{number_text, radius_text, coordinate_text, tool_text, point_text, arc_text, with_lf}
use Rattle.text.proofs.LastDigits.{digits_length}

pub point_length : (p : Point) → length (point_text p) ≡ 2 + length (coordinate_text p.x) + length (coordinate_text p.y)
unfolding point_text
point_length p = omega (arith, length-append (coordinate_text p.x) (bytes "Y" ++ coordinate_text p.y))

pub arc_length : (a : Arc) → length (arc_text a) ≡ length (point_text a.to) + 1 + length (radius_text a.decimals a.radius)
unfolding arc_text
arc_length a = omega (arith, length-append (point_text a.to) (bytes "A" ++ radius_text a.decimals a.radius))

pub ended_length : (x : List ℕ) → length (with_lf x) ≡ 1 + length x
ended_length x = omega (arith, length-append x (LF ∷ []))

pub tool_length : (t : ℕ) → length (tool_text t) ≡ 2
unfolding tool_text
tool_length t = digits_length 2 t

pub declaration_length : (t d : ℕ) → length (with_lf (bytes "T" ++ (tool_text t ++ (bytes "C" ++ number_text d)))) ≡ 5 + length (number_text d)
declaration_length t d =
    omega (arith, ended_length (bytes "T" ++ (tool_text t ++ (bytes "C" ++ number_text d))), length-append (tool_text t) (bytes "C" ++ number_text d), tool_length t)
