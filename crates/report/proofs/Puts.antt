-- What is put for a tool and for a line of a table, and that the parts one after the other are the table's text.
use mathlib.Core.Path.{◌≡◌, refl, sym, ◌∙◌}
use mathlib.Core.List.{List, [], ◌∷◌}
use Prim.Native.Nat.{ℕ, ◌≤◌}
use lib.Dec.{lit≤}
use lib.IntN.{ℤ}
use Rattle.std.specs.Prelude.{Some, None, Ok}
use Rattle.rules.specs.Results.{HoleAnswer}
use Rattle.lists.specs.Words.{bytes}
use Rattle.rules.specs.declared.State.{State}
use Rattle.rules.specs.declared.Counts.{Counts}
use Rattle.rules.specs.declared.Hole.{Hole}
use Rattle.rules.specs.Numbers.{max_tool}
use Rattle.rules.specs.Answers.{hole_said}
use Rattle.rules.specs.Asking.{hole_answer}
use Rattle.rules.specs.Counting.{of_tool}
use Rattle.rules.specs.Printing.{decimal, printed_line, hole_fields, hole_line, one_hole}
use Rattle.rules.proofs.Said.{hole_said_one}
use Rattle.text.specs.Wrote.{Wrote}
use Rattle.text.proofs.Wrote.{wrote_nothing, wrote_more}
use Rattle.print.specs.Line.{decimals}
use Rattle.report.specs.Parts.{diameter_of, holes_line, counts_line_of, lines_of_tools, lines_text, holes_in, unit_text, table_text}

-- ---- a tool

-- with its counts: the tool, and the line behind it without a word
pub count_put : (tool m : ℕ) (c : Counts) {b b₁ b₂ : List ℕ} {at r₁ r₂ : ℕ} → Wrote b at (decimal tool) b₁ r₁
    → Wrote b₁ r₁ (printed_line [] (decimals (m ∷ of_tool c.hits tool ∷ of_tool c.routs tool ∷ []))) b₂ r₂ → Wrote b at (counts_line_of c tool m) b₂ r₂
unfolding counts_line_of decimals printed_line
count_put tool m c p q = wrote_more p q

-- ---- a line

hole_told : (t : List ℤ) (n line : ℕ) {a x : HoleAnswer} → hole_said a ≡ hole_said (hole_answer t n line) → a ≡ x → hole_answer t n line ≡ x
hole_told t n line g k = sym (hole_said_one g) ∙ k

module _ (t : List ℤ) (n line : ℕ) where
  abbrev LinePut : List ℕ → ℕ → List ℕ → ℕ → ℕ → Type 0
  LinePut b at b' r c = Wrote b at (hole_line line (hole_answer t n line)) b' r × (c ≡ one_hole (hole_answer t n line)) × (c ≤ 1)

  module _ {a : HoleAnswer} (g : hole_said a ≡ hole_said (hole_answer t n line)) (b : List ℕ) (at : ℕ) where
    pub line_nothing : a ≡ Ok None → LinePut b at b at 0
    line_nothing k = rw (hole_told t n line g k) (wrote_nothing, refl, lit≤ tt)

    pub line_makes : (h : Hole) → a ≡ Ok (Some h) → (b' : List ℕ) (r : ℕ) → Wrote b at (printed_line (decimal line) (hole_fields h)) b' r → LinePut b at b' r 1
    line_makes h k b' r p = rw (hole_told t n line g k) (p, refl, lit≤ tt)

-- ---- the table

module _ (t : List ℤ) (n : ℕ) (s : State) where
  pub table_put : {b b₁ b₂ b₃ b₄ : List ℕ} {r₁ r₂ r₃ r₄ c : ℕ}
      → Wrote b 0 (unit_text s.unit) b₁ r₁ → Wrote b₁ r₁ (lines_of_tools holes_line (diameter_of t n s.tools) max_tool) b₂ r₂ → Wrote b₂ r₂ (lines_text t n 0 n) b₃ r₃
      → c ≡ holes_in t n 0 n → Wrote b₃ r₃ (printed_line (bytes "holes") (decimals (c ∷ []))) b₄ r₄
      → Wrote b 0 (table_text t n s) b₄ r₄
  unfolding table_text decimals
  table_put p q l e k = rw (sym e) (wrote_more p (wrote_more q (wrote_more l k)))
