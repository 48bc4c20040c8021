-- Document 02, #102: the two revisions. What 2021 accepts, 2019 accepts as the same: a file as the same table, a new line as the same
-- edit, of every table. They differ in a declaration with one digit and in nothing else.
use Rattle.std.specs.Prelude.{◌≡◌, List, ◌++◌, ℕ, ◌≤◌, ℤ, length, Ok}
use Rattle.lists.specs.Words.{bytes}
use Rattle.rules.specs.declared.Refusal.{Refusal}
use Rattle.rules.specs.declared.Revision.TheVariants.{Rev2019, Rev2021}
use Rattle.rules.specs.declared.Command.TheVariants.{Declare}
use Rattle.rules.specs.declared.Counts.{Counts}
use Rattle.rules.specs.Refusals.{refusal_number, no_such_form, out_of_range}
use Rattle.rules.specs.Numbers.{max_line, Decimal}
use Rattle.rules.specs.Commands.{says, says_no, line_of}
use Rattle.rules.specs.Reading.{Rows, read_answer, read_leaves}
use Rattle.rules.specs.Counting.{read_counts}
use Rattle.rules.specs.Editing.{edit_answer, edit_leaves, edit_counts}
use Rattle.rules.specs.Spelling.{SpellsDeclared, Printable}
use Rattle.rules.specs.Obeys.{ReadingOf}

-- a declaration with one digit
pub data OneDigit : List ℕ → Type 0 where
  one_digit : {b : List ℕ} {t : ℕ} {d : Decimal} → SpellsDeclared b 1 t d → OneDigit (bytes "T" ++ b)

-- document 02's own
pub record OneDigitLines : Type 0 where
  pub taken : line_of Rev2019 (bytes "T1C0.6") ≡ says (Declare 1 600000)
  pub refused : line_of Rev2021 (bytes "T1C0.6") ≡ says_no no_such_form
  pub zero : line_of Rev2019 (bytes "T0C1") ≡ says_no (out_of_range 2)
  pub three_digits : line_of Rev2019 (bytes "T001C1") ≡ says_no no_such_form

pub record OlderAccepts : Type 0 where
  pub reading : (bs : List ℕ) (rs : Rows) → ReadingOf Rev2021 bs rs → ReadingOf Rev2019 bs rs
  pub read : (bs : List ℕ) (t : List ℤ) (n : ℕ) → read_answer Rev2021 bs t ≡ Ok n
      → (read_answer Rev2019 bs t ≡ Ok n) × (read_leaves Rev2019 bs t ≡ read_leaves Rev2021 bs t)
      × (read_counts Rev2019 bs t ≡ read_counts Rev2021 bs t)
  pub edit : (t : List ℤ) (n k : ℕ) (l : List ℕ) (c : Counts) (m : ℕ) → edit_answer Rev2021 t n k l c ≡ Ok m
      → (edit_answer Rev2019 t n k l c ≡ Ok m) × (edit_leaves Rev2019 t n k l c ≡ edit_leaves Rev2021 t n k l c)
      × (edit_counts Rev2019 t n k l c ≡ edit_counts Rev2021 t n k l c)
  -- every other line has one answer by both; that one is 5 by 2021, and never 5 by 2019
  pub all_else : (l : List ℕ) → (OneDigit l → ⊥) → line_of Rev2019 l ≡ line_of Rev2021 l
  pub always_5 : (l : List ℕ) → OneDigit l → length l ≤ max_line → Printable l → line_of Rev2021 l ≡ says_no no_such_form
  pub never_5 : (l : List ℕ) → OneDigit l → (e : Refusal) → line_of Rev2019 l ≡ says_no e → refusal_number e ≡ 5 → ⊥
  pub lines : OneDigitLines
