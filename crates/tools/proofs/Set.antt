-- What the words of the declared set mean: a tool added is there, each other tool is as it was, and the words stay in their
-- range. Bit j of 2 ^ b is set only where j is b, and a bit of an or is the or of the bits.
use Prim.Native.Nat.{ℕ, zero, suc, ◌+◌, ◌-◌, ◌/◌, ◌%◌, ◌^◌, ◌<◌, ◌≤◌}
use mathlib.Core.Path.{◌≡◌, refl, sym, ap, ◌∙◌}
use mathlib.Core.Bool.{Bool, true, false, cond, ◌||◌}
use native.Mathlib.Omega.{arith}
use native.Mathlib.Nat.{div-eq_of_lt, mod-lt, one-mul}
use native.Mathlib.Decide.{ℕ_discrete, dec_le}
use lib.Dec.{eqb, lit<, lit≤}
use lib.Pow.{pow-lt, pow_pos, pow-add, shl-shr}
use lib.Bits.{bit_or, or_shr, or_mod, or_zero_r, or_lt, shifted_even}
use borrow.Author.Tests.{eq-eqb, ne_eqb}
use Rattle.tools.specs.declared.Tools.{Tools}
use Rattle.tools.specs.Set.{max_word}
use Rattle.tools.specs.Set.{no_tools}
use Rattle.tools.specs.Set.{bit_of, word_of, has, set_bit, insert}
use Rattle.tools.specs.Ranges.{ToolsOk}

-- ---- the bits of 2 ^ b

below : (b j : ℕ) → b < j → 2 ^ b / 2 ^ j % 2 ≡ 0
below b j h = rw (div-eq_of_lt (pow-lt h))

above : (b j : ℕ) → j < b → 2 ^ b / 2 ^ j % 2 ≡ 0
above b j h =
    let k = b - suc j in
    let e : b ≡ suc k + j = omega arith in
    rw (e, pow-add 2 (suc k) j, shl-shr (2 ^ suc k) j) (rw (one-mul (2 ^ suc k)) at (shifted_even 1 k))

pow_bit_other : (b j : ℕ) → (b ≡ j → ⊥) → 2 ^ b / 2 ^ j % 2 ≡ 0
pow_bit_other b j ne = by (dec_le b j)
  where
    by : Dec (b ≤ j) → 2 ^ b / 2 ^ j % 2 ≡ 0
    by (yes h) = below b j (omega arith)
    by (no h) = above b j (omega arith)

pow_bit_same : (b : ℕ) → 2 ^ b / 2 ^ b % 2 ≡ 1
pow_bit_same b = ap (λ (n : ℕ). n / 2 ^ b % 2) (sym (one-mul (2 ^ b))) ∙ ap (λ (n : ℕ). n % 2) (shl-shr 1 b)

-- ---- a word after bit b is set

or_one : (x : ℕ) → x < 2 → bit_or x 1 ≡ 1
or_one zero h = refl
or_one (suc zero) h = refl
or_one (suc (suc n)) h = absurd (omega arith)

or_bit : (w b j : ℕ) → bit_or w (2 ^ b) / 2 ^ j % 2 ≡ bit_or (w / 2 ^ j % 2) (2 ^ b / 2 ^ j % 2)
or_bit w b j = rw (or_shr w (2 ^ b) j) (or_mod (w / 2 ^ j) (2 ^ b / 2 ^ j) 1)

or_bit_other : (w b j : ℕ) → (b ≡ j → ⊥) → bit_or w (2 ^ b) / 2 ^ j % 2 ≡ w / 2 ^ j % 2
or_bit_other w b j ne = rw (or_bit w b j, pow_bit_other b j ne) (or_zero_r (w / 2 ^ j % 2))

bit_same : (w b : ℕ) → bit_of (bit_or w (2 ^ b)) b ≡ true
bit_same w b = rw (or_bit w b b, pow_bit_same b, or_one (w / 2 ^ b % 2) (mod-lt _ (lit< tt)))

bit_other : (w b j : ℕ) → (b ≡ j → ⊥) → bit_of (bit_or w (2 ^ b)) j ≡ bit_of w j
bit_other w b j ne = ap (λ (n : ℕ). eqb n 1) (or_bit_other w b j ne)

-- ---- a set after tool t is added

word_insert : (s : Tools) (t k : ℕ) → k < 4 → word_of (insert s t) k ≡ set_bit (word_of s k) k t
unfolding insert
word_insert s t zero h = refl
word_insert s t (suc zero) h = refl
word_insert s t (suc (suc zero)) h = refl
word_insert s t (suc (suc (suc zero))) h = refl
word_insert s t (suc (suc (suc (suc k)))) h = absurd (omega arith)

bit_set : (w t u : ℕ) → bit_of (set_bit w (u / 25) t) (u % 25) ≡ (eqb u t || bit_of w (u % 25))
bit_set w t u = by (ℕ_discrete (t / 25) (u / 25)) (ℕ_discrete (t % 25) (u % 25))
  where
    by : Dec (t / 25 ≡ u / 25) → Dec (t % 25 ≡ u % 25) → bit_of (set_bit w (u / 25) t) (u % 25) ≡ (eqb u t || bit_of w (u % 25))
    by (yes p) (yes q) = rw (eq-eqb (t / 25) (u / 25) p, eq-eqb u t (omega arith), q) (bit_same w (u % 25))
    by (yes p) (no q) = rw (eq-eqb (t / 25) (u / 25) p, ne_eqb u t (λ e. q (omega arith))) (bit_other w (t % 25) (u % 25) q)
    by (no p) d = rw (ne_eqb (t / 25) (u / 25) p, ne_eqb u t (λ e. p (omega arith)))

-- tool u is in the set after t is added exactly where it is t or was there
pub has_insert : (s : Tools) (t u : ℕ) → u < 100 → has (insert s t) u ≡ (eqb u t || has s u)
unfolding has
has_insert s t u h = rw (word_insert s t (u / 25) (omega arith)) (bit_set (word_of s (u / 25)) t u)

-- the empty set has no tool
all_same : (b : Bool) (n : ℕ) → cond b n n ≡ n
all_same true n = refl
all_same false n = refl

word_none : (k : ℕ) → word_of no_tools k ≡ 0
word_none k = rw (all_same (eqb k 2) 0, all_same (eqb k 1) 0) (all_same (eqb k 0) 0)

pub has_none : (t : ℕ) → has no_tools t ≡ false
unfolding has
has_none t = rw (word_none (t / 25), div-eq_of_lt (pow_pos (t % 25)))

-- ---- the words stay in their range, and tool 0's bit stays clear

set_range : (w k t : ℕ) → w ≤ max_word → set_bit w k t ≤ max_word
set_range w k t h = by (ℕ_discrete (t / 25) k)
  where
    by : Dec (t / 25 ≡ k) → set_bit w k t ≤ max_word
    by (yes p) = rw (eq-eqb (t / 25) k p) (omega (arith, or_lt 25 w (2 ^ (t % 25)) (omega arith) (pow-lt {j = 25} (omega arith))))
    by (no p) = rw (ne_eqb (t / 25) k p) h

even_stays : (w t : ℕ) → 1 ≤ t → w % 2 ≡ 0 → set_bit w 0 t % 2 ≡ 0
even_stays w t h e = by (ℕ_discrete (t / 25) 0)
  where
    by : Dec (t / 25 ≡ 0) → set_bit w 0 t % 2 ≡ 0
    by (yes p) = rw (eq-eqb (t / 25) 0 p) (omega (arith, or_bit_other w (t % 25) 0 (λ q. omega arith)))
    by (no p) = rw (ne_eqb (t / 25) 0 p) e

pub none_ok : ToolsOk no_tools
none_ok = record { a_range = lit≤ tt; b_range = lit≤ tt; c_range = lit≤ tt; d_range = lit≤ tt; no_zero = refl }

pub insert_ok : (d : Tools) (t : ℕ) → 1 ≤ t → ToolsOk d → ToolsOk (insert d t)
unfolding insert
insert_ok d t h w = record {
  a_range = set_range d.a 0 t w.a_range;
  b_range = set_range d.b 1 t w.b_range;
  c_range = set_range d.c 2 t w.c_range;
  d_range = set_range d.d 3 t w.d_range;
  no_zero = even_stays d.a t h w.no_zero;
}
