-- Document 01, "The state, line by line": points, and the arc rule, as document 02's #104 has it.
use Rattle.std.specs.Prelude.{ℕ, ◌+◌, ◌-◌, ◌*◌, ◌^◌, max, ℤ, pos, negsuc, nat_abs, ◌-ℤ◌, ◌*ℤ◌, eqb, leb, Bool, false, not, ◌&&◌}
use Rattle.points.specs.declared.Point.{Point}
use Rattle.points.specs.declared.Arc.{Arc}

abbrev pub origin : Point
origin = record { x = pos 0; y = pos 0 }

-- ---- the arc rule: the ends differ, and the square of their distance is at most that of two radii and u, one unit of the
-- radius's last written place

unfoldable pub same_number : ℤ → ℤ → Bool
same_number (pos a) (pos b) = eqb a b
same_number (pos a) (negsuc b) = false
same_number (negsuc a) (pos b) = false
same_number (negsuc a) (negsuc b) = eqb a b

unfoldable pub same_point : Point → Point → Bool
same_point p q = same_number p.x q.x && same_number p.y q.y

unfoldable pub square_of_difference : ℤ → ℤ → ℕ
square_of_difference a b = nat_abs ((a -ℤ b) *ℤ (a -ℤ b))

unfoldable pub square_of_distance : Point → Point → ℕ
square_of_distance s e = square_of_difference e.x s.x + square_of_difference e.y s.y

unfoldable pub square : ℕ → ℕ
square n = n * n

-- one unit of the last of so many decimals, in millionths
abbrev pub place_of : ℕ → ℕ
place_of decimals = 10 ^ (6 - decimals)

-- u: fewer than three decimals count as three
unfoldable pub last_unit : ℕ → ℕ
last_unit decimals = place_of (max decimals 3)

unfoldable pub is_possible : Point → Arc → Bool
is_possible s a =
    not (same_point s a.to) && leb (square_of_distance s a.to) (square (2 * a.radius + last_unit a.decimals))
