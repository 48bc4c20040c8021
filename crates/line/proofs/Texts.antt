-- A line's text: without its CR, looked at byte by byte, and the refusals in their order.
use mathlib.Core.Path.{◌≡◌, refl, ap, ◌∙◌}
use mathlib.Core.Bool.{Bool, true, false, not, ◌&&◌, cond}
use mathlib.Core.List.{List, [], ◌∷◌}
use Prim.Native.Nat.{ℕ, suc, ◌+◌, ◌-◌, ◌<◌, ◌≤◌}
use native.Mathlib.Omega.{arith}
use borrow.Author.Tests.{not-true, not-false, lt-ltb, le-ltb, le-leb, lt-leb, eq-eqb, ne_eqb}
use lib.ListN.{length, take, get_or}
use Rattle.std.specs.Prelude.{take_while}
use Rattle.std.specs.List.{prefix_len}
use Rattle.std.proofs.lemmas.List.Folds.{length-prefix_len}
use Rattle.std.proofs.lemmas.List.Recursion.{same_from_clauses}
use Rattle.rules.specs.declared.Revision.{Revision}
use Rattle.rules.specs.Refusals.{too_many_lines, line_not_ended, line_too_long, forbidden_byte}
use Rattle.rules.specs.Numbers.{max_lines, max_line}
use Rattle.rules.specs.Lines.{CR, ends_in_cr, text_of, is_allowed, is_printable, allowed_bytes}
use Rattle.rules.specs.Commands.{says_no, command_of, line_of}
use Rattle.rules.specs.Reading.{answer_in}
use Rattle.line.specs.Line.{line_of_bytes}

-- ---- a line without its CR

module _ (l : List ℕ) where
  pub text_empty : length l ≤ 0 → l ≡ text_of l
  unfolding text_of ends_in_cr
  text_empty h = rw (le-ltb 0 (length l) h)

  module _ (h : 0 < length l) where
    pub text_cr : get_or l (length l - 1) 0 ≡ CR → take (length l - 1) l ≡ text_of l
    unfolding text_of ends_in_cr
    text_cr e = rw (lt-ltb 0 (length l) h, eq-eqb (get_or l (length l - 1) 0) CR e)

    pub text_other : (get_or l (length l - 1) 0 ≡ CR → ⊥) → l ≡ text_of l
    unfolding text_of ends_in_cr
    text_other e = rw (lt-ltb 0 (length l) h, ne_eqb (get_or l (length l - 1) 0) CR e)

-- ---- the bytes that a line may hold

-- those that it begins with
pub allowed_first : (l : List ℕ) → length (take_while is_allowed l) ≡ allowed_bytes l
unfolding allowed_bytes
allowed_first l =
    length-prefix_len is_allowed l
    ∙ same_from_clauses (prefix_len is_allowed) allowed_bytes (λ b n. cond (is_allowed b) (1 + n) 0) refl (λ _ _. refl) (λ b bs. ap (λ n. cond (is_allowed b) n 0) (omega arith)) l

-- all of them, or fewer
some_forbidden : (l : List ℕ) → allowed_bytes l < length l → is_printable l ≡ false
unfolding allowed_bytes is_printable
some_forbidden [] h = absurd (omega arith)
some_forbidden (b ∷ l) h = by (is_allowed b) h (λ k. some_forbidden l k)
  where
    by : (t : Bool) → cond t (suc (allowed_bytes l)) 0 < suc (length l) → (allowed_bytes l < length l → is_printable l ≡ false) → (t && is_printable l) ≡ false
    by true k more = more (omega arith)
    by false k more = refl

all_allowed : (l : List ℕ) → length l ≤ allowed_bytes l → is_printable l ≡ true
unfolding allowed_bytes is_printable
all_allowed [] h = refl
all_allowed (b ∷ l) h = by (is_allowed b) h (λ k. all_allowed l k)
  where
    by : (t : Bool) → suc (length l) ≤ cond t (suc (allowed_bytes l)) 0 → (length l ≤ allowed_bytes l → is_printable l ≡ true) → (t && is_printable l) ≡ true
    by true k more = more (omega arith)
    by false k more = absurd (omega arith)

-- ---- the order of the refusals

module _ (rev : Revision) (l : List ℕ) where
  pub too_long : max_line < length l → says_no line_too_long ≡ line_of rev l
  unfolding line_of
  too_long h = rw (lt-leb (length l) max_line h)

  module _ (h : length l ≤ max_line) {a : ℕ} (e : a ≡ allowed_bytes l) where
    pub forbidden : a < length l → says_no (forbidden_byte (a + 1)) ≡ line_of rev l
    unfolding line_of
    forbidden g = rw (le-leb (length l) max_line h, some_forbidden l (omega arith), e)

    pub allowed : length l ≤ a → command_of rev l ≡ line_of rev l
    unfolding line_of
    allowed g = rw (le-leb (length l) max_line h, all_allowed l (omega arith))

module _ (rev : Revision) (i : ℕ) (l : List ℕ) (ended : Bool) where
  pub too_many : max_lines < i → says_no too_many_lines ≡ answer_in rev i (line_of_bytes l ended)
  unfolding answer_in
  too_many h = rw (lt-leb i max_lines h)

  module _ (h : i ≤ max_lines) where
    pub not_ended : not ended ≡ true → says_no line_not_ended ≡ answer_in rev i (line_of_bytes l ended)
    unfolding answer_in
    not_ended e = rw (le-leb i max_lines h, not-true ended e)

    pub text_says : not ended ≡ false → {text : List ℕ} → text ≡ text_of l → line_of rev text ≡ answer_in rev i (line_of_bytes l ended)
    unfolding answer_in
    text_says e g = rw (le-leb i max_lines h, not-false ended e, g)
