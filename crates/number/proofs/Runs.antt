-- Digits read from a place on: a turn at a time, with a value that is capped, and how far they go.
use mathlib.Core.Path.{◌≡◌, refl, sym, ap, ◌∙◌}
use mathlib.Core.Bool.{Bool, true, false, false≢true, and-true, and-false}
use mathlib.Core.List.{List, [], ◌∷◌}
use Prim.Native.Nat.{ℕ, suc, ◌+◌, ◌-◌, ◌*◌, ◌^◌, ◌<◌, ◌≤◌, min}
use Prim.Native.Char.{code}
use native.Mathlib.Omega.{arith}
use native.Mathlib.Nat.{le-mul_of_pos_right, one-le-pow, pow-le-pow_right, pow-succ', add-mul, mul_assoc, mul-le-mul_right}
use native.Mathlib.Numerals.{add-one}
use native.Mathlib.Decide.{dec_lt}
use borrow.Author.Tests.{le-leb, lt-leb, leb-true}
use lib.Dec.{eqb, leb}
use lib.ListN.{length, get_or, drop, drop_of_length-le, length-drop}
use lib.Seq.{drop-cons, drop-drop}
use Rattle.std.specs.Prelude.{Option, Some, None}
use Rattle.std.specs.Borrow.{Bor}
use Rattle.std.specs.Option.{UnwrapsOrElse}
use Rattle.std.specs.List.{PartBy}
use Rattle.std.proofs.lemmas.List.{take_rest}
use Rattle.lists.proofs.Choice.{cond_all, both}
use Rattle.lists.specs.Words.{starts_with}
use Rattle.rules.specs.Numbers.{max_tool, DigitRun, no_digits, one_more, is_digit, digits_of}
use Rattle.number.specs.declared.Run.{Run}
use Rattle.number.specs.Capped.{cap, pushed, held_run}

-- ---- the capped value

-- a number from 10^9 on stays there with more digits behind it
pub capped_more : (a p v : ℕ) → 0 < p → min (min a cap * p + v) cap ≡ min (a * p + v) cap
capped_more a p v h = go (dec_lt a cap)
  where
    go : Dec (a < cap) → min (min a cap * p + v) cap ≡ min (a * p + v) cap
    go (yes q) = let e : min a cap ≡ a = omega arith in rw e
    go (no q) = let e : min a cap ≡ cap = omega arith in rw e (omega (arith, le-mul_of_pos_right {m = p} a h, le-mul_of_pos_right {m = p} cap h))

pub pow_pos : (k : ℕ) → 0 < 10 ^ k
pow_pos k = one-le-pow k 10 (omega arith)

value_more : (c d k v : ℕ) → (c * 10 + d) * 10 ^ k + v ≡ c * 10 ^ suc k + (d * 10 ^ k + v)
value_more c d k v = rw (pow-succ' 10 k, add-mul (c * 10) d (10 ^ k), mul_assoc c 10 (10 ^ k)) (omega arith)

run_more : (at c d : ℕ) (w : DigitRun) → held_run (at + 1) (pushed c d) w ≡ held_run at c (one_more d w)
run_more at c d w =
    let e : at + 1 + w.count ≡ at + suc w.count = omega arith in
    let v : min (pushed c d * 10 ^ w.count + w.value) cap ≡ min (c * 10 ^ suc w.count + (d * 10 ^ w.count + w.value)) cap
    = capped_more (c * 10 + d) (10 ^ w.count) w.value (pow_pos w.count) ∙ ap (λ (z : ℕ). min z cap) (value_more c d w.count w.value) in
    λ i. record { value = v i; next = e i }

run_none : (at c : ℕ) (l : List ℕ) → c ≤ cap → record { value = c; next = at } ≡ held_run at c (no_digits l)
run_none at c l h =
    let e : at ≡ at + 0 = omega arith in
    let v : c ≡ min (c * 1 + 0) cap = omega arith in
    λ i. record { value = v i; next = e i }

-- ---- the loop

module _ (s : List ℕ) (i : ℕ) where
  digits_end : length s ≤ i → digits_of (drop i s) ≡ no_digits []
  unfolding digits_of
  digits_end h = rw (drop_of_length-le s h)

  module _ (h : i < length s) where
    digits_stop : is_digit (get_or s i 0) ≡ false → digits_of (drop i s) ≡ no_digits (get_or s i 0 ∷ drop (suc i) s)
    unfolding digits_of
    digits_stop e = rw (drop-cons s i 0 h, e)

    digits_turn : is_digit (get_or s i 0) ≡ true → digits_of (drop i s) ≡ one_more (get_or s i 0 - code "0") (digits_of (drop (i + 1) s))
    unfolding digits_of
    digits_turn e = rw (add-one i, drop-cons s i 0 h, e)

is_digit_lem : (b : ℕ) → code "0" ≤ b → b ≤ code "9" → is_digit b ≡ true
unfolding is_digit
is_digit_lem b p q = rw (le-leb (code "0") b p, le-leb b (code "9") q)

pub below_digits : (b : ℕ) → b < code "0" → is_digit b ≡ false
unfolding is_digit
below_digits b p = rw (lt-leb (code "0") b p)

pub above_digits : (b : ℕ) → code "9" < b → is_digit b ≡ false
unfolding is_digit
above_digits b p = rw (lt-leb b (code "9") p, and-false)

-- digits as they are held, with what the next ones ask
abbrev Held : List ℕ → ℕ → ℕ → Run → Type 0
Held s at from r = (r ≡ held_run at from (digits_of (drop at s))) × (r.value ≤ cap) × (at ≤ r.next)

-- the bytes from at on; past the end there are none
pub bytes_from : (s : List ℕ) (at : ℕ) (r : Option (Bor (List ℕ))) (l : Bor (List ℕ)) → PartBy (λ (x : Bor (List ℕ)). x.now) s at (length s) r
    → UnwrapsOrElse r (λ (x : Bor (List ℕ)). x.now ≡ []) l → l.now ≡ drop at s
bytes_from s at None l p e = e ∙ sym (drop_of_length-le s (omega (arith, p.0)))
bytes_from s at (Some x) l p e = ap (λ (z : Bor (List ℕ)). z.now) e ∙ p.0.2 ∙ take_rest s at

-- l are those bytes; the first k of them are in the run: with the digits after those behind it, it is the whole
abbrev pub Passed : List ℕ → ℕ → ℕ → List ℕ → ℕ → Run → Type 0
Passed s at from l k run =
    (l ≡ drop at s) × (run.next ≡ at + k) × (held_run run.next run.value (digits_of (drop k l)) ≡ held_run at from (digits_of (drop at s))) × (run.value ≤ cap)

pub run_start : (s : List ℕ) (at from : ℕ) {l : List ℕ} → from ≤ cap → l ≡ drop at s → Passed s at from l 0 (record { value = from; next = at })
run_start s at from h e = (e, omega arith, ap (λ (z : List ℕ). held_run at from (digits_of z)) e, h)

module _ (s : List ℕ) (at from : ℕ) {l : List ℕ} (k : ℕ) (run : Run) (g : Passed s at from l k run) where
  pub run_turn : (more : ℕ) → k < length l → code "0" ≤ get_or l k 0 → get_or l k 0 ≤ code "9" → (more ≡ pushed run.value (get_or l k 0 - code "0")) × (more ≤ cap)
      → Passed s at from l (k + 1) (record { value = more; next = run.next + 1 })
  run_turn more h p q e = (
    g.0,
    omega (arith, g.1),
    ap (λ (z : ℕ). held_run (run.next + 1) z (digits_of (drop (k + 1) l))) e.0
        ∙ run_more run.next run.value (get_or l k 0 - code "0") (digits_of (drop (k + 1) l))
        ∙ ap (held_run run.next run.value) (sym (digits_turn l k h (is_digit_lem (get_or l k 0) p q))) ∙ g.2,
    e.1,
  )

  pub run_stop : k < length l → is_digit (get_or l k 0) ≡ false → Held s at from run
  run_stop h e =
      (run_none run.next run.value (get_or l k 0 ∷ drop (suc k) l) g.3 ∙ ap (held_run run.next run.value) (sym (digits_stop l k h e)) ∙ g.2, g.3, omega (arith, g.1))

  pub run_end : length l ≤ k → Held s at from run
  run_end h = (run_none run.next run.value [] g.3 ∙ ap (held_run run.next run.value) (sym (digits_end l k h)) ∙ g.2, g.3, omega (arith, g.1))

pub ruleset turns = (below_digits, above_digits, bytes_from, run_start, run_turn, run_stop, run_end)

-- ---- how far the digits go, and how large they are

pub digits_rest : (l : List ℕ) → (digits_of l).rest ≡ drop (digits_of l).count l
unfolding digits_of
digits_rest [] = refl
digits_rest (b ∷ l) = cond_all (λ (w : DigitRun). w.rest ≡ drop w.count (b ∷ l)) (is_digit b) (λ _. digits_rest l) (λ _. refl)

digits_count : (l : List ℕ) → (digits_of l).count ≤ length l
unfolding digits_of
digits_count [] = omega arith
digits_count (b ∷ l) = cond_all (λ (w : DigitRun). w.count ≤ suc (length l)) (is_digit b) (λ _. omega (arith, digits_count l)) (λ _. omega arith)

digit_small : (b : ℕ) → is_digit b ≡ true → b - code "0" ≤ 9
unfolding is_digit
digit_small b e = omega (arith, leb-true b (code "9") (both (leb (code "0") b) (leb b (code "9")) e).1)

one_more_below : (d p v : ℕ) → d ≤ 9 → v < p → d * p + v < 10 * p
one_more_below d p v h k = omega (arith, mul-le-mul_right {m = d} {n = 9} p h)

digits_below : (l : List ℕ) → (digits_of l).value < 10 ^ (digits_of l).count
unfolding digits_of
digits_below [] = omega arith
digits_below (b ∷ l) =
    cond_all (λ (w : DigitRun). w.value < 10 ^ w.count) (is_digit b)
    (λ e. rw (pow-succ' 10 (digits_of l).count) (one_more_below (b - code "0") (10 ^ (digits_of l).count) (digits_of l).value (digit_small b e) (digits_below l)))
    (λ _. omega arith)

module _ (s : List ℕ) (at : ℕ) where
  rest_at : (digits_of (drop at s)).rest ≡ drop (at + (digits_of (drop at s)).count) s
  rest_at = digits_rest (drop at s) ∙ drop-drop (digits_of (drop at s)).count at s

  pub count_at : (digits_of (drop at s)).count ≤ length s - at
  count_at = omega (arith, digits_count (drop at s), length-drop at s)

  -- digits as they are held: where they end, and what is left there
  module _ (from : ℕ) {w : Run} (e : w ≡ held_run at from (digits_of (drop at s))) where
    pub run_next : w.next ≡ at + (digits_of (drop at s)).count
    run_next = ap (λ (r : Run). r.next) e

    pub run_rest : (digits_of (drop at s)).rest ≡ drop w.next s
    run_rest = rest_at ∙ ap (λ (z : ℕ). drop z s) (sym run_next)

    pub run_left : at ≤ length s → w.next ≡ length s - length (digits_of (drop at s)).rest
    run_left h = rw run_rest (omega (arith, run_next, count_at, length-drop w.next s))

-- two digits are a tool's number at most, and no cap is near
pub short_run : (l : List ℕ) (at : ℕ) (r : Run) → r ≡ held_run at 0 (digits_of l) → r.next ≤ at + 2 → (r.value ≡ (digits_of l).value) × (r.value ≤ max_tool)
short_run l at r e h =
    let n : r.next ≡ at + (digits_of l).count = ap (λ (z : Run). z.next) e in
    let v : r.value ≡ min (digits_of l).value cap = ap (λ (z : Run). z.value) e ∙ omega arith in
    let b : (digits_of l).value < 10 ^ 2 = omega (arith, digits_below l, pow-le-pow_right {n = 10} (omega arith) {i = (digits_of l).count} {j = 2} (omega arith)) in
    (omega arith, omega arith)

-- ---- one byte

module _ (s : List ℕ) (at b : ℕ) where
  pub stands_at : at < length s → eqb (get_or s at 0) b ≡ starts_with (drop at s) (b ∷ [])
  unfolding starts_with
  stands_at h = rw (drop-cons s at 0 h, and-true)

  pub stands_past : length s ≤ at → false ≡ starts_with (drop at s) (b ∷ [])
  unfolding starts_with
  stands_past h = rw (drop_of_length-le s h)

  pub stands_within : {t : Bool} → t ≡ starts_with (drop at s) (b ∷ []) → t ≡ true → at < length s
  stands_within st e = go (dec_lt at (length s))
    where
      go : Dec (at < length s) → at < length s
      go (yes h) = h
      go (no h) = absurd (false≢true (stands_past (omega arith) ∙ sym st ∙ e))
