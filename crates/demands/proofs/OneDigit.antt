-- A declaration with one digit is 5 by 2021 and never 5 by 2019; every other line is one form, and so has one answer, by both.
use mathlib.Core.Path.{ap, ◌≡◌, refl, sym, ◌∙◌, subst}
use mathlib.Core.Bool.{Bool, true, false}
use mathlib.Core.List.{List, ◌++◌}
use Prim.Native.Nat.{ℕ, ◌≤◌}
use native.Mathlib.Omega.{arith}
use native.Mathlib.Decide.{ℕ_discrete}
use borrow.Author.Tests.{le-leb}
use lib.Dec.{leb}
use lib.ListN.{length}
use Rattle.std.specs.Prelude.{Result, Ok, Err}
use Rattle.lists.specs.Words.{bytes, starts_with}
use Rattle.lists.proofs.Choice.{cond_all}
use Rattle.rules.specs.declared.Refusal.{Refusal}
use Rattle.rules.specs.declared.Command.{Command}
use Rattle.rules.specs.declared.Command.TheVariants.{Declare}
use Rattle.rules.specs.declared.LineAnswer.{LineAnswer}
use Rattle.rules.specs.declared.Revision.TheVariants.{Rev2019, Rev2021}
use Rattle.rules.specs.Refusals.{refusal_number, no_such_form}
use Rattle.rules.specs.Numbers.{max_line, is_digit, Decimal, millionths, is_size, is_tool}
use Rattle.rules.specs.Lines.{is_printable}
use Rattle.rules.specs.Commands.{Form, Formed, is, no_form, tool_form, form_of, says, says_no, in_range, meaning_of, command_of, line_of}
use Rattle.rules.specs.Spelling.{SpellsDeclared, tc, Spells, declare_is, Printable}
use Rattle.obeys.proofs.Numbers.{digits_read}
use Rattle.obeys.proofs.Forms.{form_read, form_iff}
use Rattle.obeys.proofs.Lines.{printable_read}
use Rattle.obeys.proofs.Older.{by_other, older_form}
use Rattle.demands.specs.OlderAccepts.{OneDigit, one_digit}

-- ---- such a declaration

no_form_2021 : {l : List ℕ} → OneDigit l → form_of Rev2021 l ≡ no_form
unfolding form_of tool_form starts_with is_digit
no_form_2021 (one_digit (tc {b = b} w v)) = rw (digits_read w (bytes "C" ++ b) refl)

pub always_5 : (l : List ℕ) → OneDigit l → length l ≤ max_line → Printable l → line_of Rev2021 l ≡ says_no no_such_form
unfolding line_of command_of
always_5 l w s p = rw (le-leb (length l) max_line s, printable_read p, no_form_2021 w)

-- the refusal's number, 0 for a command
abbrev number_in : Result Command Refusal → ℕ
number_in (Ok c) = 0
number_in (Err e) = refusal_number e

abbrev Not5 : LineAnswer → Type 0
Not5 a = number_in a.command ≡ 5 → ⊥

in_range_not_5 : (b : Bool) (c : ℕ) (a : LineAnswer) → Not5 a → Not5 (in_range b c a)
unfolding in_range
in_range_not_5 true c a h = h
in_range_not_5 false c a h = λ e. omega arith

command_not_5 : (l : List ℕ) → OneDigit l → Not5 (command_of Rev2019 l)
unfolding command_of meaning_of
command_not_5 l (one_digit {t = t} {d = d} w) =
    rw (form_read {rev = Rev2019} (declare_is w (omega arith) (omega arith)))
    (in_range_not_5 (is_tool t) _ _ (in_range_not_5 (is_size d) _ (says (Declare t (millionths d))) (λ e. omega arith)))

not_5 : (l : List ℕ) → OneDigit l → Not5 (line_of Rev2019 l)
unfolding line_of
not_5 l w =
    cond_all Not5 (leb (length l) max_line)
    (λ _. cond_all Not5 (is_printable l) (λ _. command_not_5 l w) (λ _ e. omega arith))
    (λ _ e. omega arith)

pub never_5 : (l : List ℕ) → OneDigit l → (e : Refusal) → line_of Rev2019 l ≡ says_no e → refusal_number e ≡ 5 → ⊥
never_5 l w e h five = not_5 l w (ap (λ (a : LineAnswer). number_in a.command) h ∙ five)

-- ---- every other line

-- so its form by 2019 has two digits
newer_form : {l : List ℕ} {f : Form} → Spells Rev2019 l f → (OneDigit l → ⊥) → Spells Rev2021 l f
newer_form {l} w o = by_other w (λ b k t d e s p. by b k t d e s p (ℕ_discrete k 1))
  where
    by : (b : List ℕ) (k t : ℕ) (d : Decimal) → l ≡ bytes "T" ++ b → SpellsDeclared b k t d → 1 ≤ k → Dec (k ≡ 1) → 2 ≤ k
    by b k t d e s p (yes h) = absurd (o (subst OneDigit (sym e) (one_digit (subst (λ (j : ℕ). SpellsDeclared b j t d) h s))))
    by b k t d e s p (no h) = omega arith

same_form : (l : List ℕ) → (OneDigit l → ⊥) → form_of Rev2019 l ≡ form_of Rev2021 l
same_form l o = by (form_of Rev2019 l) (form_of Rev2021 l) refl refl
  where
    by : (x y : Formed) → form_of Rev2019 l ≡ x → form_of Rev2021 l ≡ y → x ≡ y
    by (is f) y d e = sym (form_read (newer_form ((form_iff Rev2019 l f).0 d) o)) ∙ e
    by no_form (is f) d e = sym d ∙ form_read (older_form ((form_iff Rev2021 l f).0 e))
    by no_form no_form d e = refl

pub all_else : (l : List ℕ) → (OneDigit l → ⊥) → line_of Rev2019 l ≡ line_of Rev2021 l
unfolding line_of command_of
all_else l o = rw (same_form l o)
