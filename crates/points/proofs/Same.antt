-- The tests of equality are true exactly where the numbers and points are equal, and say what `==` says.
use mathlib.Core.Path.{◌≡◌, refl, ap}
use mathlib.Core.Bool.{true, false≢true}
use lib.IntN.{ℤ, pos, negsuc}
use borrow.Author.Tests.{eqb-true, eq-eqb}
use Rattle.std.specs.Prelude.{◌&&◌}
use Rattle.std.specs.Bool.{one_answer}
use Rattle.std.specs.Cmp.{signed_Decides}
use Rattle.std.specs.Ordering.{int_eq}
use Rattle.lists.proofs.Choice.{both}
use Rattle.points.specs.declared.Point.{Point}
use Rattle.points.specs.Points.{same_number, same_point}

-- ---- numbers

same_number_true : (a b : ℤ) → same_number a b ≡ true → a ≡ b
unfolding same_number
same_number_true (pos a) (pos b) e = ap pos (eqb-true a b e)
same_number_true (pos a) (negsuc b) e = absurd (false≢true e)
same_number_true (negsuc a) (pos b) e = absurd (false≢true e)
same_number_true (negsuc a) (negsuc b) e = ap negsuc (eqb-true a b e)

same_number_refl : (a : ℤ) → same_number a a ≡ true
unfolding same_number
same_number_refl (pos a) = eq-eqb a a refl
same_number_refl (negsuc a) = eq-eqb a a refl

pub same_number_iff : (a b : ℤ) → (same_number a b ≡ true → a ≡ b) × (a ≡ b → same_number a b ≡ true)
same_number_iff a b = (same_number_true a b, λ e. rw e (same_number_refl b))

-- what `==` says of two signed numbers
same_number_eq : (a b : ℤ) → int_eq a b ≡ same_number a b
same_number_eq a b = one_answer _ _ (signed_Decides a b) (same_number_iff a b)

-- ---- points

same_point_true : (p q : Point) → same_point p q ≡ true → p ≡ q
unfolding same_point
same_point_true p q e =
    let h = both (same_number p.x q.x) _ e in
    let x = same_number_true p.x q.x h.0 in
    let y = same_number_true p.y q.y h.1 in
    λ i. record { x = x i; y = y i }

same_point_refl : (p : Point) → same_point p p ≡ true
unfolding same_point
same_point_refl p = simp (same_number_refl p.x, same_number_refl p.y)

pub same_point_iff : (p q : Point) → (same_point p q ≡ true → p ≡ q) × (p ≡ q → same_point p q ≡ true)
same_point_iff p q = (same_point_true p q, λ e. rw e (same_point_refl q))

-- what `==` says of two points
pub same_point_eq : (p q : Point) → (int_eq p.x q.x && int_eq p.y q.y) ≡ same_point p q
unfolding same_point
same_point_eq p q = simp (same_number_eq p.x q.x, same_number_eq p.y q.y)
