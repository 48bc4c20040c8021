-- Whole numbers in decimal: which digits they are, how many, and that a tenth has one less.
use mathlib.Core.Path.{◌≡◌, sym, ap, ap₂, ◌∙◌}
use mathlib.Core.Bool.{cond}
use mathlib.Core.List.{List, [], ◌∷◌, ◌++◌}
use Prim.Native.Nat.{ℕ, zero, suc, ◌+◌, ◌*◌, ◌/◌, ◌%◌, ◌^◌, ◌<◌, ◌≤◌}
use native.Mathlib.Omega.{arith}
use native.Mathlib.Nat.{pow-succ', one-le-pow}
use lib.Dec.{ltb}
use lib.ListN.{length, length-append}
use borrow.Author.Tests.{lt-ltb, le-ltb}
use Rattle.lists.proofs.Choice.{cond_all}
use Rattle.rules.specs.Printing.{shown, decimal}
use Rattle.rules.specs.Writing.{last_digits}
use Rattle.text.proofs.LastDigits.{digits_length, digits_last}

one_digit : (n : ℕ) → last_digits 1 n ≡ (48 + n % 10) ∷ []
unfolding last_digits
one_digit n = digits_last 0 n

more_length : (l : List ℕ) (n : ℕ) → length (l ++ last_digits 1 n) ≡ suc (length l)
more_length l n = omega (arith, length-append l (last_digits 1 n), digits_length 1 n)

-- what is shown are the last digits, as many as there are
shown_digits : (k n : ℕ) → shown k n ≡ last_digits (length (shown k n)) n
unfolding shown
shown_digits zero n = ap (λ (z : ℕ). last_digits z n) (sym (digits_length 1 n))
shown_digits (suc k) n =
    let h = shown_digits k (n / 10) in
    cond_all (λ (l : List ℕ). l ≡ last_digits (length l) n) (ltb n 10) (λ _. ap (λ (z : ℕ). last_digits z n) (sym (digits_length 1 n)))
    (λ _. ap₂ ◌++◌ h (one_digit n) ∙ sym (digits_last (length (shown k (n / 10))) n) ∙ ap (λ (z : ℕ). last_digits z n) (sym (more_length (shown k (n / 10)) n)))

shown_range : (k n : ℕ) → (1 ≤ length (shown k n)) × (length (shown k n) ≤ suc k)
unfolding shown
shown_range zero n = omega (arith, digits_length 1 n)
shown_range (suc k) n =
    let h = shown_range k (n / 10) in
    cond_all (λ (l : List ℕ). (1 ≤ length l) × (length l ≤ suc (suc k))) (ltb n 10)
    (λ _. omega (arith, digits_length 1 n)) (λ _. omega (arith, more_length (shown k (n / 10)) n))

tenth_below : (j n : ℕ) → n < 10 ^ suc j → n / 10 < 10 ^ j
tenth_below j n h = let k : n < 10 * 10 ^ j = rw (pow-succ' 10 j) at h in omega arith

-- a number below a power of ten has at most so many digits
shown_short : (j k n : ℕ) → n < 10 ^ suc j → length (shown k n) ≤ suc j
unfolding shown
shown_short j zero n h = omega (arith, digits_length 1 n)
shown_short zero (suc k) n h = rw (lt-ltb n 10 h) (omega (arith, digits_length 1 n))
shown_short (suc j) (suc k) n h =
    let i = shown_short j k (n / 10) (tenth_below (suc j) n h) in
    cond_all (λ (l : List ℕ). length l ≤ suc (suc j)) (ltb n 10) (λ _. omega (arith, digits_length 1 n)) (λ _. omega (arith, more_length (shown k (n / 10)) n))

-- and is shown the same where there may be more
shown_more : (k n : ℕ) → n < 10 ^ suc k → shown (suc k) n ≡ shown k n
unfolding shown
shown_more zero n h = rw (lt-ltb n 10 h)
shown_more (suc k) n h =
    ap (λ (l : List ℕ). cond (ltb n 10) (last_digits 1 n) (l ++ last_digits 1 n)) (shown_more k (n / 10) (tenth_below (suc k) n h))

-- ---- numbers of the machine

pub decimal_digits : (n c : ℕ) → c ≡ length (decimal n) → decimal n ≡ last_digits c n
unfolding decimal
decimal_digits n c e = rw e (shown_digits 19 n)

pub decimal_range : (n : ℕ) → (1 ≤ length (decimal n)) × (length (decimal n) ≤ 20)
unfolding decimal
decimal_range n = shown_range 19 n

-- of 32 bits
pub decimal_short : (n : ℕ) → n < 4294967296 → length (decimal n) ≤ 10
unfolding decimal
decimal_short n h = shown_short 9 19 n (omega arith)

pub one_digit_length : (n : ℕ) → n < 10 → length (decimal n) ≡ 1
unfolding decimal shown
one_digit_length n h = rw (lt-ltb n 10 h) (digits_length 1 n)

-- of 64 bits: a tenth has one digit less
pub tenth_length : (n : ℕ) → n < 18446744073709551616 → 10 ≤ n → length (decimal n) ≡ suc (length (decimal (n / 10)))
unfolding decimal shown
tenth_length n h k = ap length (sym (shown_more 19 n (omega arith))) ∙ rw (le-ltb n 10 k) (more_length (shown 19 (n / 10)) n)

-- from the k-th power of ten on, below the next
pub power_length : (k n : ℕ) → n < 18446744073709551616 → 10 ^ k ≤ n → n < 10 * 10 ^ k → length (decimal n) ≡ 1 + k
power_length zero n f h i = one_digit_length n (omega arith)
power_length (suc k) n f h i =
    let e : 10 ^ suc k ≡ 10 * 10 ^ k = pow-succ' 10 k in
    let p = one-le-pow k 10 (omega arith) in
    omega (arith, tenth_length n f (omega arith), power_length k (n / 10) (omega arith) (omega arith) (omega arith))
