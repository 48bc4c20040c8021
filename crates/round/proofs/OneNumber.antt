-- A number has one text with so many decimals: so many digits make a number in one way only, with no spare zero before them the number
-- itself says how many they are, and / and % by a million tell units and decimals apart. Without trailing zeros the decimals are the fewest.
use mathlib.Core.Path.{◌≡◌, refl, sym, ap, ap₂, subst, subst₂, ◌∙◌}
use mathlib.Core.Bool.{true, false}
use mathlib.Core.List.{List, [], ◌∷◌, ◌++◌, append-nil}
use Prim.Native.Nat.{ℕ, zero, suc, ◌+◌, ◌-◌, ◌*◌, ◌/◌, ◌%◌, ◌^◌, ◌<◌, ◌≤◌}
use native.Mathlib.Omega.{arith}
use native.Mathlib.Nat.{mod-lt, mod-eq_of_lt, mod-one, mul_assoc, mul-div_cancel, suc-mul, pow-suc, pow-succ', pow-le-pow_right, le-mul_of_pos_right, mul-lt-mul_of_pos_right, div-add-mod'}
use native.Mathlib.Decide.{dec_lt}
use borrow.Author.Tests.{ltb-true, ltb-false, eqb-true, eqb-false, eq-eqb, ne_eqb}
use lib.Arith.{digits_lt, digits_div, digits_mod}
use lib.Dec.{ltb, eqb}
use Rattle.lists.specs.Words.{bytes}
use Rattle.lists.proofs.Choice.{cond_all}
use Rattle.points.specs.Points.{place_of}
use Rattle.rules.specs.Numbers.{max_number, max_places}
use Rattle.rules.specs.Spelling.{Digits, no_digit, digit}
use Rattle.rules.specs.Writing.{last_digits, width_of, places_of, whole_text, fraction_text, number_text, radius_text}
use Rattle.rules.specs.Written.{NoSpareZero, alone, first, NoTrailingZero, last, more, WritesNumber, WritesRadius, whole, point}
use Rattle.round.proofs.Numbers.{value_more, Width, width_is, Places, places_is, place_some, unit_parts, decimals_fit, part_left, text_with, radius_text_lem, places_in, fewest_places}

-- ---- digits

digits_below : {ds : List ℕ} {k n : ℕ} → Digits ds k n → n < 10 ^ k
digits_below no_digit = omega arith
digits_below (digit {k = k} h w) = rw (pow-succ' 10 k) (digits_lt h (digits_below w))

same_digits : {a b : List ℕ} {k m n : ℕ} → Digits a k m → Digits b k n → m ≡ n → a ≡ b
same_digits no_digit no_digit e = refl
same_digits (digit {d = d} {k = k} _ w) (digit {d = c} _ v) e =
    let p = digits_below w in
    let q = digits_below v in
    ap₂ ◌∷◌ (ap (λ (x : ℕ). 48 + x) (sym (digits_div d p) ∙ ap (λ (x : ℕ). x / 10 ^ k) e ∙ digits_div c q))
    (same_digits w v (sym (digits_mod d p) ∙ ap (λ (x : ℕ). x % 10 ^ k) e ∙ digits_mod c q))

last_digits_lem : (k m : ℕ) → Digits (last_digits k m) k (m % 10 ^ k)
unfolding last_digits
last_digits_lem zero m = subst (Digits [] 0) (sym (mod-one m)) no_digit
last_digits_lem (suc k) m = subst (Digits (last_digits (suc k) m) (suc k)) (value_more k m) (digit (mod-lt (m / 10 ^ k) (omega arith)) (last_digits_lem k m))

pub digits_allowed : (k m : ℕ) → m < 10 ^ k → Digits (last_digits k m) k m
digits_allowed k m h = subst (Digits (last_digits k m) k) (mod-eq_of_lt h) (last_digits_lem k m)

pub digits_only : {ds : List ℕ} {k n : ℕ} → Digits ds k n → ds ≡ last_digits k n
digits_only {k = k} {n = n} w = same_digits w (last_digits_lem k n) (sym (mod-eq_of_lt (digits_below w)))

-- ---- whole units

some_digit : {ds : List ℕ} {k n : ℕ} → Digits ds k n → NoSpareZero ds → 0 < k
some_digit (digit _ _) s = omega arith
some_digit no_digit s = elim s [ ]

-- fewer digits do not hold the number
fewest : {ds : List ℕ} {k n j : ℕ} → Digits ds k n → NoSpareZero ds → 0 < j → n < 10 ^ j → k ≤ j
fewest no_digit s h g = elim s [ ]
fewest (digit _ no_digit) alone h g = h
fewest (digit {d = zero} _ _) (first z) h g = absurd (z refl)
fewest {j = j} (digit {d = suc d} {k = k} _ _) (first z) h g = go (dec_lt k j)
  where
    go : Dec (k < j) → k < j
    go (yes q) = q
    go (no q) = absurd (omega (arith, suc-mul d (10 ^ k), pow-le-pow_right {n = 10} (omega arith) {i = j} {j = k} (omega arith)))

abbrev units_text : ℕ → List ℕ
units_text w = last_digits (width_of w) w

-- less than 1,000 units
module _ (w : ℕ) (h : w < 1000) where
  wide : Width w (width_of w)
  wide = width_is w h

  units_digits : Digits (units_text w) (width_of w) w
  units_digits = digits_allowed (width_of w) w wide.holds

  units_begin : NoSpareZero (units_text w)
  unfolding width_of last_digits
  units_begin =
      cond_all (λ (k : ℕ). NoSpareZero (last_digits k w)) (ltb w 10) (λ _. alone)
      (λ p. cond_all (λ (k : ℕ). NoSpareZero (last_digits k w)) (ltb w 100)
      (λ q. first (λ e. omega (arith, ltb-false w 10 p, ltb-true w 100 q)))
      (λ q. first (λ e. omega (arith, ltb-false w 100 q))))

  units_only : {ds : List ℕ} {k : ℕ} → Digits ds k w → NoSpareZero ds → ds ≡ units_text w
  units_only {k = k} u s =
      let l = fewest u s wide.some wide.holds in
      let g = fewest units_digits units_begin (some_digit u s) (digits_below u) in
      let e : k ≡ width_of w = omega arith in
      digits_only u ∙ ap (λ (j : ℕ). last_digits j w) e

-- ---- decimals

one_more_zero : (n k : ℕ) → n * 10 ^ suc k ≡ n * 10 ^ k * 10
one_more_zero n k = ap (λ (x : ℕ). n * x) (pow-suc 10 k) ∙ sym (mul_assoc n (10 ^ k) 10)

last_digit : {fs : List ℕ} {j m : ℕ} → Digits fs j m → NoTrailingZero fs → m % 10 ≡ 0 → ⊥
last_digit no_digit t e = elim t [ ]
last_digit (digit h no_digit) (last z) e = z (omega arith)
last_digit (digit h no_digit) (more z) e = elim z [ ]
last_digit (digit {d = d} _ (digit {k = k} h w)) (more z) e = last_digit (digit h w) z (omega (arith, one_more_zero d k))

-- two numbers that do not end in 0 are the same with zeros behind them only where these are as many
same_zeros : (a b m n : ℕ) → (m % 10 ≡ 0 → ⊥) → (n % 10 ≡ 0 → ⊥) → m * 10 ^ a ≡ n * 10 ^ b → a ≡ b
same_zeros zero zero m n p q e = refl
same_zeros zero (suc b) m n p q e = absurd (p (omega (arith, one_more_zero n b)))
same_zeros (suc a) zero m n p q e = absurd (q (omega (arith, one_more_zero m a)))
same_zeros (suc a) (suc b) m n p q e = ap suc (same_zeros a b m n p q (omega (arith, one_more_zero m a, one_more_zero n b)))

no_trailing_zero : (k m : ℕ) → 0 < k → (m % 10 ≡ 0 → ⊥) → NoTrailingZero (last_digits k m)
unfolding last_digits
no_trailing_zero zero m h z = absurd (omega arith)
no_trailing_zero (suc zero) m h z = last (λ (e : 48 + m / 1 % 10 ≡ 48). z (omega arith))
no_trailing_zero (suc (suc k)) m h z = more (no_trailing_zero (suc k) m (omega arith) z)

-- the last of d decimals, if any, isn't 0
abbrev Ends : ℕ → ℕ → Type 0
Ends f d = 0 < d → f / place_of d % 10 ≡ 0 → ⊥

ends_at : (f d : ℕ) → eqb (f % place_of d) 0 ≡ true → eqb (f % 10 ^ suc (6 - d)) 0 ≡ false → Ends f d
ends_at f d t u h e =
    let p : ℕ = place_of d in
    eqb-false (f % 10 ^ suc (6 - d)) 0 u (sym (value_more (6 - d) f) ∙ ap (λ (x : ℕ). x * p + f % p) e ∙ omega (arith, eqb-true (f % p) 0 t))

places_end : (f : ℕ) → Ends f (places_of f)
unfolding places_of
places_end f =
    cond_all (Ends f) _ (λ t h e. omega arith)
    (λ u. cond_all (Ends f) _ (λ t. ends_at f 1 t u)
    (λ u. cond_all (Ends f) _ (λ t. ends_at f 2 t u)
    (λ u. cond_all (Ends f) _ (λ t. ends_at f 3 t u)
    (λ u. cond_all (Ends f) _ (λ t. ends_at f 4 t u)
    (λ u. cond_all (Ends f) _ (λ t. ends_at f 5 t u)
    (λ u. ends_at f 6 (eq-eqb (f % 1) 0 (mod-one f)) u))))))

-- ---- so many decimals

-- m in units of the last of j decimals, after n whole units
module _ {fs : List ℕ} {j m : ℕ} (u : Digits fs j m) (most : j ≤ max_places) where
  part_below : m * place_of j < 1000000
  part_below = omega (arith, mul-lt-mul_of_pos_right (digits_below u) (place_some j), unit_parts j most)

  units_of : (n : ℕ) → (n * 1000000 + m * place_of j) / 1000000 ≡ n
  units_of n = digits_div n part_below

  part_of : (n : ℕ) → (n * 1000000 + m * place_of j) % 1000000 ≡ m * place_of j
  part_of n = digits_mod n part_below

text_allowed : (d v : ℕ) → Places v d → v ≤ max_number → WritesRadius (text_with d v) v d
unfolding fraction_text
text_allowed zero v p h =
    let few : v / 1000000 < 1000 = omega arith in
    subst₂ (λ (x : List ℕ) (n : ℕ). WritesRadius x n 0) (sym (append-nil (whole_text v))) (omega (arith, p.exact))
    (whole (units_digits _ few) (units_begin _ few))
text_allowed (suc d) v p h =
    let few : v / 1000000 < 1000 = omega arith in
    let f : ℕ = v % 1000000 in
    let m : ℕ = f / place_of (suc d) in
    let e : v / 1000000 * 1000000 + m * place_of (suc d) ≡ v = omega (arith, div-add-mod' f (place_of (suc d)), part_left (suc d) p.most v, p.exact) in
    let digits = digits_allowed (suc d) m (decimals_fit (suc d) p.most f (mod-lt v (omega arith))) in
    rw (ne_eqb (suc d) 0 (λ z. omega arith))
    (subst (λ (n : ℕ). WritesRadius (whole_text v ++ (bytes "." ++ last_digits (suc d) m)) n (suc d)) e
    (point (units_digits _ few) (units_begin _ few) digits (omega arith) p.most))

text_only : {b : List ℕ} {v d : ℕ} → v ≤ max_number → WritesRadius b v d → b ≡ text_with d v
unfolding fraction_text
text_only h (whole {n = n} w s) =
    let e : n * 1000000 / 1000000 ≡ n = omega arith in
    rw (e, append-nil (units_text n)) (units_only n (omega arith) w s)
text_only h (point {n = n} {j = j} {m = m} w s u some most) =
    rw (units_of u most n, part_of u most n, ne_eqb j 0 (omega arith), mul-div_cancel m (place_some j))
    (ap₂ (λ (x y : List ℕ). x ++ (bytes "." ++ y)) (units_only n (omega arith) w s) (digits_only u))

few_places : {b : List ℕ} {v d : ℕ} → WritesRadius b v d → d ≤ max_places
few_places (whole _ _) = omega arith
few_places (point _ _ _ _ most) = most

pub radius_allowed : (d v : ℕ) → Places v d → v ≤ max_number → WritesRadius (radius_text d v) v d
radius_allowed d v p h = rw (radius_text_lem d v p.most) (text_allowed d v p h)

pub radius_only : {b : List ℕ} {v d : ℕ} → v ≤ max_number → WritesRadius b v d → b ≡ radius_text d v
radius_only {v = v} {d = d} h w = text_only h w ∙ sym (radius_text_lem d v (few_places w))

-- ---- a number without trailing zeros is one with the fewest decimals

some_decimal : {fs : List ℕ} {j m : ℕ} → Digits fs j m → NoTrailingZero fs → 0 < j
some_decimal (digit _ _) t = omega arith
some_decimal no_digit t = elim t [ ]

same_places : {fs : List ℕ} {j m : ℕ} → Digits fs j m → NoTrailingZero fs → j ≤ max_places → j ≡ places_of (m * place_of j)
same_places {j = j} {m = m} u t most = go (places_of f) (places_is f) (places_end f)
  where
    f : ℕ
    f = m * place_of j

    go : (d : ℕ) → Places f d → Ends f d → j ≡ d
    go zero p e = absurd (last_digit u t (omega (arith, p.exact, part_below u most, le-mul_of_pos_right m (place_some j))))
    go (suc d) p e =
        let w = div-add-mod' f (place_of (suc d)) in
        let same = same_zeros (6 - j) (6 - suc d) m (f / place_of (suc d)) (last_digit u t) (e (omega arith)) (omega (arith, p.exact)) in
        omega (arith, p.most)

writes_fewest : {b : List ℕ} {v : ℕ} → WritesNumber b v → WritesRadius b v (places_in v)
unfolding places_of
writes_fewest (whole {n = n} w s) = let e : n * 1000000 % 1000000 ≡ 0 = omega arith in rw e (whole w s)
writes_fewest (point {n = n} w s u t most) =
    subst (WritesRadius _ _) (same_places u t most ∙ ap places_of (sym (part_of u most n))) (point w s u (some_decimal u t) most)

writes_number : {b : List ℕ} {v d : ℕ} → d ≡ places_in v → WritesRadius b v d → WritesNumber b v
writes_number e (whole w s) = whole w s
writes_number e (point {n = n} {j = j} {m = m} w s u some most) =
    let f : ℕ = m * place_of j in
    let ends = subst (Ends f) (sym (e ∙ ap places_of (part_of u most n))) (places_end f) some in
    point w s u (subst NoTrailingZero (sym (digits_only u)) (no_trailing_zero j m some (rw (mul-div_cancel m (place_some j)) at ends))) most

pub number_allowed : (v : ℕ) → v ≤ max_number → WritesNumber (number_text v) v
unfolding number_text
number_allowed v h = writes_number refl (text_allowed (places_in v) v (fewest_places v) h)

pub number_only : {b : List ℕ} {v : ℕ} → v ≤ max_number → WritesNumber b v → b ≡ number_text v
unfolding number_text
number_only h w = text_only h (writes_fewest w)
