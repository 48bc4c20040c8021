-- The loops over tools and over lines: a turn writes the first of the texts that are left.
use mathlib.Core.Path.{◌≡◌, ap, ◌∙◌}
use mathlib.Core.List.{List, [], ◌++◌}
use Prim.Native.Nat.{ℕ, suc, ◌+◌, ◌-◌, ◌<◌, ◌≤◌}
use native.Mathlib.Omega.{arith}
use lib.IntN.{ℤ}
use Rattle.std.specs.Prelude.{Option}
use Rattle.rules.specs.Numbers.{max_tool}
use Rattle.rules.specs.Asking.{hole_answer}
use Rattle.rules.specs.Printing.{hole_line, one_hole}
use Rattle.text.proofs.Wrote.{Rest}
use Rattle.report.specs.Parts.{where_some, lines_of_tools, lines_text, holes_in}

-- ---- tools

module _ (line : ℕ → ℕ → List ℕ) (diameter : ℕ → Option ℕ) where
  pub tools_next : (tool : ℕ) → 1 ≤ tool → tool ≤ max_tool
      → lines_of_tools line diameter (max_tool + 1 - tool) ≡ where_some (line tool) (diameter tool) ++ lines_of_tools line diameter (max_tool + 1 - (tool + 1))
  unfolding lines_of_tools
  tools_next tool h k =
      let e : max_tool + 1 - tool ≡ suc (max_tool + 1 - (tool + 1)) = omega arith in
      let f : max_tool - (max_tool + 1 - (tool + 1)) ≡ tool = omega arith in
      ap (lines_of_tools line diameter) e ∙ ap (λ (z : ℕ). where_some (line z) (diameter z) ++ lines_of_tools line diameter (max_tool + 1 - (tool + 1))) f

  pub tools_over : (tool : ℕ) → max_tool < tool → lines_of_tools line diameter (max_tool + 1 - tool) ≡ []
  unfolding lines_of_tools
  tools_over tool h = let e : max_tool + 1 - tool ≡ 0 = omega arith in ap (lines_of_tools line diameter) e

-- ---- lines

module _ (t : List ℤ) (n i : ℕ) where
  module _ (h : i < n) where
    more : n - i ≡ suc (n - (i + 1))
    more = omega arith

    pub lines_next : lines_text t n i (n - i) ≡ hole_line (i + 1) (hole_answer t n (i + 1)) ++ lines_text t n (i + 1) (n - (i + 1))
    unfolding lines_text
    lines_next = ap (lines_text t n i) more

    pub holes_next : holes_in t n i (n - i) ≡ one_hole (hole_answer t n (i + 1)) + holes_in t n (i + 1) (n - (i + 1))
    unfolding holes_in
    holes_next = ap (holes_in t n i) more

  module _ (h : n ≤ i) where
    over : n - i ≡ 0
    over = omega arith

    pub lines_over : lines_text t n i (n - i) ≡ []
    unfolding lines_text
    lines_over = ap (lines_text t n i) over

    pub holes_over : holes_in t n i (n - i) ≡ 0
    unfolding holes_in
    holes_over = ap (holes_in t n i) over
