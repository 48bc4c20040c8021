-- A capped number is in range exactly where the exact one is, and is the same: from 10^9 on both are out of range.
use mathlib.Core.Path.{◌≡◌, sym, ap, ◌∙◌}
use mathlib.Core.Bool.{false, and-false}
use Prim.Native.Nat.{ℕ, ◌-◌, ◌*◌, ◌^◌, ◌<◌, ◌≤◌}
use native.Mathlib.Omega.{arith}
use native.Mathlib.Nat.{le-mul_of_pos_right, one-le-pow}
use native.Mathlib.Decide.{dec_lt}
use borrow.Author.Tests.{lt-leb}
use lib.Dec.{leb}
use Rattle.std.specs.Prelude.{Err}
use Rattle.rules.specs.Refusals.{out_of_range}
use Rattle.rules.specs.Numbers.{max_places, max_number, Decimal, millionths, is_coordinate, is_size}
use Rattle.number.specs.declared.Written.{Written}
use Rattle.number.specs.Capped.{cap, HeldAs, decimal_of, coordinate_read, size_read}

over : (d : Decimal) → cap ≤ d.digits → leb (millionths d) max_number ≡ false
unfolding millionths
over d h =
    lt-leb (d.digits * 10 ^ (max_places - d.places)) max_number
    (omega (arith, le-mul_of_pos_right {m = 10 ^ (max_places - d.places)} d.digits (one-le-pow (max_places - d.places) 10 (omega arith))))

-- whatever is the same for all numbers from there on
exact : {A : Type 0} (f : Decimal → A) (out : A) → ((d : Decimal) → cap ≤ d.digits → f d ≡ out)
    → (w : Written) (d : Decimal) → HeldAs w d → f (decimal_of w) ≡ f d
exact f out same w d r = go (dec_lt d.digits cap)
  where
    go : Dec (d.digits < cap) → f (decimal_of w) ≡ f d
    go (yes h) =
        let e : w.digits ≡ d.digits = omega arith in
        ap f (λ i. record { negative = r.negative_is i; digits = e i; places = r.places_is i })
    go (no h) = same (decimal_of w) (omega arith) ∙ sym (same d (omega arith))

pub coordinate_exact : (c : ℕ) (w : Written) (d : Decimal) → HeldAs w d → coordinate_read c (decimal_of w) ≡ coordinate_read c d
unfolding coordinate_read is_coordinate
coordinate_exact c = exact (coordinate_read c) (Err (out_of_range c)) (λ d h. rw (over d h, and-false))

pub size_exact : (c : ℕ) (w : Written) (d : Decimal) → HeldAs w d → size_read c (decimal_of w) ≡ size_read c d
unfolding size_read is_size
size_exact c = exact (size_read c) (Err (out_of_range c)) (λ d h. rw (over d h, and-false, and-false))
