-- Numbers of millionths: with no decimals a number has no fraction, with any a point and its decimals; each is as long as its parts together.
-- Decimals are the first one, and then those of what is left, tenfold, one fewer; so are those of the shortest number.
use mathlib.Core.Path.{◌≡◌, refl, sym, ap, ap₂, ◌∙◌}
use mathlib.Core.Bool.{Bool, true, false, cond}
use mathlib.Core.List.{List, [], ◌∷◌, ◌++◌}
use Prim.Native.Nat.{ℕ, zero, suc, ◌+◌, ◌-◌, ◌*◌, ◌/◌, ◌%◌, ◌^◌, ◌<◌, ◌≤◌}
use native.Mathlib.Omega.{arith}
use native.Mathlib.Nat.{div-div-eq-div-mul}
use lib.Dec.{eqb}
use lib.ListN.{length, length-append}
use lib.Pow.{pow-add}
use borrow.Author.Tests.{eq-eqb, ne_eqb}
use Rattle.lists.specs.Words.{bytes}
use Rattle.points.specs.Points.{place_of}
use Rattle.rules.specs.Writing.{width_of, places_of, last_digits, whole_text, fraction_text}
use Rattle.text.proofs.LastDigits.{digits_length}

-- so many decimals of f millionths
abbrev pub decimals_in : ℕ → ℕ → List ℕ
decimals_in d f = last_digits d (f / place_of d)

pub no_decimals : (d f : ℕ) → d ≡ 0 → decimals_in d f ≡ []
unfolding last_digits
no_decimals d f h = rw h

pub no_fraction : (d f : ℕ) → d ≡ 0 → fraction_text d f ≡ []
unfolding fraction_text
no_fraction d f h = rw (eq-eqb d 0 h)

pub some_fraction : (d f : ℕ) → (d ≡ 0 → ⊥) → fraction_text d f ≡ bytes "." ++ decimals_in d f
unfolding fraction_text
some_fraction d f h = rw (ne_eqb d 0 h)

pub some_fraction_length : (d f : ℕ) → (d ≡ 0 → ⊥) → length (fraction_text d f) ≡ 1 + d
some_fraction_length d f h = omega (arith, ap length (some_fraction d f h), digits_length d (f / place_of d))

-- the digits before the point, and so many decimals
pub parts_length : (d v : ℕ) → length (whole_text v ++ fraction_text d (v % 1000000)) ≡ width_of (v / 1000000) + length (fraction_text d (v % 1000000))
parts_length d v = omega (arith, length-append (whole_text v) (fraction_text d (v % 1000000)), digits_length (width_of (v / 1000000)) (v / 1000000))

-- ---- the first decimal, and what is left after it, tenfold

abbrev left : ℕ → ℕ
left f = 10 * f % 1000000

tenfold_zero : (m n : ℕ) → m ≡ 10 * n → eqb m 0 ≡ eqb n 0
tenfold_zero m zero e = eq-eqb m 0 (omega arith)
tenfold_zero m (suc n) e = ne_eqb m 0 (λ z. omega arith) ∙ sym (ne_eqb (suc n) 0 (λ z. omega arith))

one_more_lem : (a b c d e : Bool) → let n : ℕ = cond a 0 (cond b 1 (cond c 2 (cond d 3 (cond e 4 5)))) in (cond a 1 (cond b 2 (cond c 3 (cond d 4 (cond e 5 6)))) ≡ suc n) × (n ≤ 5)
one_more_lem true b c d e = (refl, omega arith)
one_more_lem false true c d e = (refl, omega arith)
one_more_lem false false true d e = (refl, omega arith)
one_more_lem false false false true e = (refl, omega arith)
one_more_lem false false false false true = (refl, omega arith)
one_more_lem false false false false false = (refl, omega arith)

pub no_places : (f : ℕ) → f ≡ 0 → places_of f ≡ 0
unfolding places_of
no_places f h = rw h

-- of what is left the shortest number has one less
pub places_turn : (f : ℕ) → 0 < f → f < 1000000 → (places_of f ≡ suc (places_of (left f))) × (places_of (left f) ≤ 5)
unfolding places_of
places_turn f h k =
    rw (
      ne_eqb (f % 1000000) 0 (λ z. omega arith),
      tenfold_zero (left f % 1000000) (f % 100000) (omega arith),
      tenfold_zero (left f % 100000) (f % 10000) (omega arith),
      tenfold_zero (left f % 10000) (f % 1000) (omega arith),
      tenfold_zero (left f % 1000) (f % 100) (omega arith),
      tenfold_zero (left f % 100) (f % 10) (omega arith),
      eq-eqb (left f % 10) 0 (omega arith),
    )
    (one_more_lem (eqb (f % 100000) 0) (eqb (f % 10000) 0) (eqb (f % 1000) 0) (eqb (f % 100) 0) (eqb (f % 10) 0))

place : (m p k : ℕ) → m / 10 ^ p / 10 ^ k ≡ m / 10 ^ (p + k)
place m p k = div-div-eq-div-mul m (10 ^ p) (10 ^ k) ∙ ap (λ (n : ℕ). m / n) (sym (pow-add 10 p k))

-- and each of its digits stands a place higher
place_up : (f p : ℕ) → p < 5 → f / 10 ^ p % 10 ≡ left f / 10 ^ suc p % 10
place_up f zero h = omega arith
place_up f (suc zero) h = omega arith
place_up f (suc (suc zero)) h = omega arith
place_up f (suc (suc (suc zero))) h = omega arith
place_up f (suc (suc (suc (suc zero)))) h = omega arith
place_up f (suc (suc (suc (suc (suc p))))) h = absurd (omega arith)

digits_up : (f k p : ℕ) → k + p ≤ 5 → last_digits k (f / 10 ^ p) ≡ last_digits k (left f / 10 ^ suc p)
unfolding last_digits
digits_up f zero p h = refl
digits_up f (suc k) p h =
    let e : suc p + k ≡ suc (p + k) = omega arith in
    ap₂ (λ (d : ℕ) (l : List ℕ). (48 + d) ∷ l) (rw (place f p k, place (left f) (suc p) k, e) (place_up f (p + k) (omega arith))) (digits_up f k p (omega arith))

pub decimals_turn : {n d : ℕ} (f : ℕ) → n ≡ suc d → d ≤ 5 → decimals_in n f ≡ (48 + 10 * f / 1000000 % 10) ∷ decimals_in d (left f)
unfolding last_digits
decimals_turn {d = d} f h k =
    let e : 6 - suc d ≡ 5 - d = omega arith in
    let g : 6 - d ≡ suc (5 - d) = omega arith in
    let i : 5 - d + d ≡ 5 = omega arith in
    let j : f / 100000 ≡ 10 * f / 1000000 = omega arith in
    rw (h, e, g) (ap₂ (λ (c : ℕ) (l : List ℕ). (48 + c % 10) ∷ l) (place f (5 - d) d ∙ rw i j) (digits_up f d (5 - d) (omega arith)))
