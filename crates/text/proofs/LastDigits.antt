-- Digits dropped or written from the last to the first: each turn takes what ten leaves, and goes on with the tenth part.
use mathlib.Core.Path.{◌≡◌, refl, sym, ap, ap₂, ◌∙◌}
use mathlib.Core.List.{List, [], ◌∷◌, ◌++◌, append_assoc}
use Prim.Native.Nat.{ℕ, zero, suc, ◌+◌, ◌-◌, ◌/◌, ◌%◌, ◌^◌, ◌<◌, ◌≤◌}
use native.Mathlib.Omega.{arith}
use native.Mathlib.Nat.{div-div-eq-div-mul, pow-succ'}
use lib.ListN.{length, set, take, drop, length-append}
use lib.Seq.{append_snoc, drop-cons, drop-set-lt, get_or-set_same, lt-length-set, take-set-le, take-append-le}
use Rattle.lists.specs.Put.{put_at}
use Rattle.lists.proofs.Put.{put_none}
use Rattle.rules.specs.Writing.{last_digits}
use Rattle.text.specs.Wrote.{Wrote}
use Rattle.text.proofs.Wrote.{all_wrote}

pub digits_length : (k m : ℕ) → length (last_digits k m) ≡ k
unfolding last_digits
digits_length zero m = refl
digits_length (suc k) m = ap suc (digits_length k m)

-- the last digit is what ten leaves
pub digits_last : (k m : ℕ) → last_digits (suc k) m ≡ last_digits k (m / 10) ++ ((48 + m % 10) ∷ [])
unfolding last_digits
digits_last zero m = let e : m / 1 ≡ m = omega arith in rw e
digits_last (suc k) m =
    let e : m / 10 ^ suc k ≡ m / 10 / 10 ^ k = rw (pow-succ' 10 k) (sym (div-div-eq-div-mul m 10 (10 ^ k))) in
    ap₂ ◌∷◌ (ap (λ (n : ℕ). 48 + n % 10) e) (digits_last k m)

-- where there is room for k, the last of more is dropped
pub digits_drop : (k i j m : ℕ) {w : List ℕ} → j ≡ suc i → k ≤ i → take k (last_digits j m) ≡ w → take k (last_digits i (m / 10)) ≡ w
digits_drop k i j m f h e =
    sym (take-append-le k (last_digits i (m / 10)) ((48 + m % 10) ∷ []) (omega (arith, digits_length i (m / 10)))) ∙ ap (take k) (sym (digits_last i m)) ∙ rw f at e

-- the last element written first
put_last : (l : List ℕ) (p n d : ℕ) (xs : List ℕ) → length xs ≡ n → p + n < length l → put_at (set l (p + n) d) p xs ≡ put_at l p (xs ++ (d ∷ []))
put_last l p n d xs e h =
    let f : p + length (xs ++ (d ∷ [])) ≡ suc (p + n) = omega (arith, length-append xs (d ∷ [])) in
    rw (
      e,
      f,
      take-set-le p l (p + n) d (omega arith),
      drop-cons (set l (p + n) d) (p + n) 0 (lt-length-set l (p + n) d h),
      get_or-set_same l (p + n) d 0 h,
      drop-set-lt (suc (p + n)) l (p + n) d (omega arith),
    )
    (sym (ap (λ (z : List ℕ). z ++ drop (suc (p + n)) l) (sym (append_assoc (take p l) xs (d ∷ []))) ∙ append_snoc (take p l ++ xs) d (drop (suc (p + n)) l)))

-- a turn: the digits that are left, written on what is there, are the whole
pub digits_turn : (b w : List ℕ) (at j m : ℕ) → 0 < j → at + j ≤ length b → put_at b at (last_digits j m) ≡ w
    → put_at (set b (at + (j - 1)) (48 + m % 10)) at (last_digits (j - 1) (m / 10)) ≡ w
digits_turn b w at zero m h k e = absurd (omega arith)
digits_turn b w at (suc j) m h k e =
    let f : suc j - 1 ≡ j = omega arith in
    rw f (put_last b at j (48 + m % 10) (last_digits j (m / 10)) (digits_length j (m / 10)) (omega arith) ∙ ap (put_at b at) (sym (digits_last j m)) ∙ e)

-- where none is left, the whole is written
pub digits_wrote : (b w : List ℕ) (at k n j m : ℕ) → at + k ≤ length b → j ≤ 0 → put_at w at (last_digits j m) ≡ put_at b at (last_digits k n)
    → Wrote b at (last_digits k n) w (at + k)
unfolding last_digits
digits_wrote b w at k n zero m h i e = all_wrote (omega (arith, digits_length k n)) (sym (put_none w at) ∙ e) (omega (arith, digits_length k n))
digits_wrote b w at k n (suc j) m h i e = absurd (omega arith)
