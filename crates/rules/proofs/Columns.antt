-- Where a number's bytes end, and in which column what stands behind them begins. A number is digits, a point and a sign, and all these are
-- below the letters: a letter behind a number is found as if the number were not there.
use mathlib.Core.Path.{◌≡◌, refl, ap, ◌∙◌}
use mathlib.Core.Bool.{Bool, true, false}
use mathlib.Core.List.{List, [], ◌∷◌, ◌++◌}
use Prim.Native.Nat.{ℕ, zero, suc, ◌+◌, ◌-◌, ◌<◌, ◌≤◌}
use Prim.Native.Char.{code}
use native.Mathlib.Omega.{arith}
use borrow.Author.Tests.{leb-true, ne_eqb}
use lib.Dec.{leb, eqb}
use lib.ListN.{length, drop, length-append, length-drop}
use Rattle.lists.specs.Words.{bytes, starts_with}
use Rattle.lists.proofs.Choice.{cond_all, both}
use Rattle.lists.proofs.Words.{begins}
use Rattle.rules.specs.Numbers.{is_digit, DigitRun, digits_of, NumberRead, got, no_number, magnitude_of, unsigned_of, signed_of}
use Rattle.rules.specs.Commands.{Form, comment, m48, metric, inch, declare, percent, g05, g00, select, hit, m15, m16, g01, g02, g03, m30, Formed, is, no_form, column_after, meaning_of, on_form}

-- ---- bytes of numbers, and then the rest

pub data Tail : List ℕ → List ℕ → Type 0 where
  same : {l : List ℕ} → Tail l l
  later : {b : ℕ} {rest l : List ℕ} → b ≤ code "9" → Tail rest l → Tail rest (b ∷ l)

tail_tail : {a b c : List ℕ} → Tail a b → Tail b c → Tail a c
tail_tail p same = p
tail_tail p (later h q) = later h (tail_tail p q)

tail_length : {rest l : List ℕ} → Tail rest l → length rest ≤ length l
tail_length {l = l} same = omega arith
tail_length (later h p) = omega (arith, tail_length p)

-- where the rest begins, in bytes of which the first `at` are others
pub tail_at : {rest : List ℕ} (at : ℕ) (s : List ℕ) → Tail rest (drop at s) → drop (length s - length rest) s ≡ rest
tail_at at s t = go at s t
  where
    later_drop : (b : ℕ) (rest l : List ℕ) → length rest ≤ length l → drop (length l - length rest) l ≡ rest → drop (suc (length l) - length rest) (b ∷ l) ≡ rest
    later_drop b rest l h e = let n : suc (length l) - length rest ≡ suc (length l - length rest) = omega arith in rw n e

    whole : {rest l : List ℕ} → Tail rest l → drop (length l - length rest) l ≡ rest
    whole {l = l} same = let e : length l - length l ≡ 0 = omega arith in rw e
    whole (later {b = b} {rest = rest} {l = l} h p) = later_drop b rest l (tail_length p) (whole p)

    go : {rest : List ℕ} (at : ℕ) (s : List ℕ) → Tail rest (drop at s) → drop (length s - length rest) s ≡ rest
    go zero s t = whole t
    go (suc at) [] t = whole t
    go {rest} (suc at) (b ∷ s) t = later_drop b rest s (omega (arith, tail_length t, length-drop at s)) (go at s t)

-- the column of a letter behind them
tail_column : {rest l : List ℕ} → Tail rest l → (k c : ℕ) → code "9" < c → column_after k l c ≡ column_after (k + (length l - length rest)) rest c
unfolding column_after
tail_column {l = l} same k c h = let e : k + (length l - length l) ≡ k = omega arith in rw e
tail_column (later {b = b} {rest = rest} {l = l} p t) k c h =
    let e : suc k + (length l - length rest) ≡ k + (suc (length l) - length rest) = omega (arith, tail_length t) in
    rw (ne_eqb b c (omega arith)) (tail_column t (suc k) c h ∙ ap (λ (z : ℕ). column_after z rest c) e)

-- the same of bytes that are named, and of places in a line
pub past_bytes : (a : List ℕ) {rest : List ℕ} → Tail rest (a ++ rest) → (k c : ℕ) → code "9" < c → column_after k (a ++ rest) c ≡ column_after (k + length a) rest c
past_bytes a {rest} t k c h =
    let e : k + (length (a ++ rest) - length rest) ≡ k + length a = omega (arith, length-append a rest) in
    tail_column t k c h ∙ ap (λ (z : ℕ). column_after z rest c) e

pub past_place : (s : List ℕ) (at next c : ℕ) → Tail (drop next s) (drop at s) → at ≤ length s → next ≤ length s → code "9" < c
    → column_after at (drop at s) c ≡ column_after next (drop next s) c
past_place s at next c t p q h =
    let e : at + (length (drop at s) - length (drop next s)) ≡ next = omega (arith, tail_length t, length-drop at s, length-drop next s) in
    tail_column t at c h ∙ ap (λ (z : ℕ). column_after z (drop next s) c) e

-- ---- numbers

digit_low : (b : ℕ) → is_digit b ≡ true → b ≤ code "9"
unfolding is_digit
digit_low b e = leb-true b (code "9") (both (leb (code "0") b) (leb b (code "9")) e).1

pub digits_tail : (l : List ℕ) → Tail (digits_of l).rest l
unfolding digits_of
digits_tail [] = same
digits_tail (b ∷ l) = cond_all (λ (r : DigitRun). Tail r.rest (b ∷ l)) (is_digit b) (λ e. later (digit_low b e) (digits_tail l)) (λ _. same)

abbrev pub TailOf : List ℕ → NumberRead → Type 0
TailOf l (got d rest) = Tail rest l
TailOf l no_number = Unit {0}

later_of : (b : ℕ) (l : List ℕ) (r : NumberRead) → b ≤ code "9" → TailOf l r → TailOf (b ∷ l) r
later_of b l (got d rest) h t = later h t
later_of b l no_number h t = tt

magnitude_tail : (neg : Bool) (l : List ℕ) → TailOf l (magnitude_of neg l)
unfolding magnitude_of
magnitude_tail neg l =
    let w = digits_of l in
    let f = digits_of (drop 1 w.rest) in
    cond_all (TailOf l) (starts_with w.rest (bytes "."))
    (λ t. cond_all (TailOf l) (eqb (w.count + f.count) 0) (λ _. tt)
    (λ _. tail_tail (digits_tail (drop 1 w.rest))
    (tail_tail (begins w.rest (bytes ".") t (λ z. Tail (drop 1 w.rest) z) (later (omega arith) same)) (digits_tail l))))
    (λ _. cond_all (TailOf l) (eqb w.count 0) (λ _. tt) (λ _. digits_tail l))

pub unsigned_tail : (l : List ℕ) → TailOf l (unsigned_of l)
unfolding unsigned_of
unsigned_tail l = magnitude_tail false l

pub signed_tail : (l : List ℕ) → TailOf l (signed_of l)
unfolding signed_of
signed_tail l =
    cond_all (TailOf l) (starts_with l (bytes "-")) (signed (code "-") (omega arith) true)
    (λ _. cond_all (TailOf l) (starts_with l (bytes "+")) (signed (code "+") (omega arith) false) (λ _. magnitude_tail false l))
  where
    signed : (b : ℕ) → b ≤ code "9" → (neg : Bool) → starts_with l (b ∷ []) ≡ true → TailOf l (magnitude_of neg (drop 1 l))
    signed b h neg t =
        begins l (b ∷ []) t (λ z. TailOf z (magnitude_of neg (drop 1 l))) (later_of b (drop 1 l) (magnitude_of neg (drop 1 l)) h (magnitude_tail neg (drop 1 l)))

-- ---- a form means the same wherever its letters are found in the same columns

module _ (p q : ℕ → ℕ) (x : p (code "X") ≡ q (code "X")) (y : p (code "Y") ≡ q (code "Y")) (a : p (code "A") ≡ q (code "A")) (c : p (code "C") ≡ q (code "C")) where
  same_meaning : (f : Form) → meaning_of p f ≡ meaning_of q f
  unfolding meaning_of
  same_meaning comment = refl
  same_meaning m48 = refl
  same_meaning metric = refl
  same_meaning inch = refl
  same_meaning (declare t d) = rw c
  same_meaning percent = refl
  same_meaning g05 = refl
  same_meaning (g00 u v) = rw (x, y)
  same_meaning (select t) = refl
  same_meaning (hit u v) = rw (x, y)
  same_meaning m15 = refl
  same_meaning m16 = refl
  same_meaning (g01 u v) = rw (x, y)
  same_meaning (g02 u v r) = rw (x, y, a)
  same_meaning (g03 u v r) = rw (x, y, a)
  same_meaning m30 = refl

  pub same_columns : (f : Formed) → on_form p f ≡ on_form q f
  same_columns (is f) = same_meaning f
  same_columns no_form = refl
