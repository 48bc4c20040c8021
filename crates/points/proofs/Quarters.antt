-- Whether a sum is at most a square, without numbers of more than 64 bits: a quarter of the one is compared with a quarter of the other.
-- With q for s / 2 and e for s % 2 the square of s is 4 q (q + e) + e.
use Prim.Native.Nat.{ℕ, zero, suc, ◌+◌, ◌-◌, ◌*◌, ◌/◌, ◌%◌, ◌<◌, ◌≤◌}
use mathlib.Core.Path.{◌≡◌, sym, ap, ◌∙◌}
use mathlib.Core.Bool.{true}
use native.Mathlib.Omega.{arith}
use native.Mathlib.Nat.{add-mul, mul-add, mul-mul-mul_comm}
use native.Mathlib.Decide.{dec_le}
use lib.Dec.{leb}
use borrow.Author.Tests.{le-leb, lt-leb}
use Rattle.points.specs.Points.{square}
use Rattle.points.proofs.Signed.{square_bound}

square_parts : (q e : ℕ) → e ≤ 1 → square (2 * q + e) ≡ 4 * (q * (q + e)) + e
unfolding square
square_parts q zero h = omega (arith, mul-mul-mul_comm 2 q 2 q)
square_parts q (suc zero) h =
    omega (arith, add-mul (2 * q) 1 (2 * q + 1), mul-add (2 * q) (2 * q) 1, mul-add q q 1, mul-mul-mul_comm 2 q 2 q)
square_parts q (suc (suc e)) h = absurd (omega arith)

module _ (x y s : ℕ) where
  parts : square s ≡ 4 * (s / 2 * (s / 2 + s % 2)) + s % 2
  parts = let e : s ≡ 2 * (s / 2) + s % 2 = omega arith in ap square e ∙ square_parts (s / 2) (s % 2) (omega arith)

  pub sum_quarter : leb ((x + (3 - s % 2) + y) / 4) (s / 2 * (s / 2 + s % 2)) ≡ leb (x + y) (square s)
  sum_quarter = by (dec_le (x + y) (square s))
    where
      by : Dec (x + y ≤ square s) → leb ((x + (3 - s % 2) + y) / 4) (s / 2 * (s / 2 + s % 2)) ≡ leb (x + y) (square s)
      by (yes d) = le-leb ((x + (3 - s % 2) + y) / 4) (s / 2 * (s / 2 + s % 2)) (omega (arith, parts)) ∙ sym (le-leb (x + y) (square s) d)
      by (no d) =
          lt-leb ((x + (3 - s % 2) + y) / 4) (s / 2 * (s / 2 + s % 2)) (omega (arith, parts)) ∙ sym (lt-leb (x + y) (square s) (omega arith))

  -- two numbers of 64 bits
  pub sum_below : x < 18446744073709551616 → y < 18446744073709551616 → 4294967295 < s / 2 → true ≡ leb (x + y) (square s)
  unfolding square
  sum_below h k l = sym (le-leb (x + y) (square s) (omega (arith, square_bound 8589934592 s (omega arith))))
