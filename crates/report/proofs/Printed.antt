-- The texts of the table that an accepted file was read into are the file's print-outs.
use mathlib.Core.Path.{◌≡◌, refl, sym, ap, ap₂, ◌∙◌}
use mathlib.Core.Bool.{Bool, true, false, cond}
use mathlib.Core.List.{List, [], ◌∷◌, ◌++◌}
use Prim.Native.Nat.{ℕ, zero, suc, ◌+◌, ◌-◌, ◌<◌, ◌≤◌}
use native.Mathlib.Omega.{arith}
use borrow.Author.Tests.{le-leb}
use lib.IntN.{ℤ}
use lib.ListN.{length, get_or}
use Rattle.std.specs.Prelude.{Some, None, Ok, Err}
use Rattle.std.specs.Result.{result_ok}
use Rattle.rules.specs.Results.{DiameterAnswer}
use Rattle.runs.specs.Machine.{Entry, bad, all_hold, last_of}
use Rattle.runs.specs.Agreement.{state_after}
use Rattle.rules.specs.declared.Command.{Command}
use Rattle.rules.specs.declared.State.{State}
use Rattle.rules.specs.Numbers.{max_tool, is_tool}
use Rattle.tools.specs.Set.{has}
use Rattle.rules.specs.State.{start}
use Rattle.rules.specs.Rows.{entry_of, Good}
use Rattle.rules.specs.Reading.{Rows, no_row}
use Rattle.rules.specs.Holes.{hole_of}
use Rattle.rules.specs.Asking.{hole_answer, diameter_in, diameter_answer}
use Rattle.rules.specs.Editing.{state_in}
use Rattle.rules.specs.Counting.{hits, routs, how_many, counts_of}
use Rattle.rules.specs.Printing.{unit_line, tool_line, tool_lines, hole_line, hole_lines, one_hole, hole_count, holes_text, counts_line, counts_lines}
use Rattle.laws.proofs.Sizes.{sizes_say}
use Rattle.laws.proofs.Declared.{undeclared}
use Rattle.laws.proofs.EachTool.{of_each}
use Rattle.answers.proofs.GoodTables.{good_whole}
use Rattle.answers.proofs.LineHoles.{good_hole}
use Rattle.table.specs.Table.{look_at}
use Rattle.table.proofs.Looks.{entries_at}
use Rattle.report.specs.Parts.{diameter_of, holes_line, counts_line_of, where_some, lines_of_tools, lines_text, holes_in, unit_text, count_text, table_text}

-- ---- the last row

last_state : (p : State) (rs : Rows) → 1 ≤ length rs → state_in (get_or (all_hold rs) (length rs - 1) bad) ≡ Some (last_of p rs)
unfolding all_hold last_of
last_state p [] h = absurd (omega arith)
last_state p (r ∷ []) h = refl
last_state p (r ∷ (s ∷ rs)) h =
    let e : length (r ∷ (s ∷ rs)) - 1 ≡ suc (length (s ∷ rs) - 1) = omega arith in
    rw e (last_state r.state (s ∷ rs) (omega arith))

-- ---- the lines

lines_are : (t : List ℤ) (n : ℕ) (rs : Rows) (p : State) (i : ℕ)
    → ((k : ℕ) → k < length rs → hole_answer t n (i + k + 1) ≡ hole_of (state_after p rs k).at (get_or rs k no_row).command (get_or rs k no_row).state)
    → (lines_text t n i (length rs) ≡ hole_lines p rs i) × (holes_in t n i (length rs) ≡ hole_count p rs)
unfolding lines_text holes_in hole_lines hole_count last_of
lines_are t n [] p i f = (refl, refl)
lines_are t n (r ∷ rs) p i f =
    let e : i + 0 + 1 ≡ i + 1 = omega arith in
    let first : hole_answer t n (i + 1) ≡ hole_of p.at r.command r.state = rw e at (f 0 (omega arith)) in
    let others = lines_are t n rs r.state (i + 1) (λ k h. let g : i + 1 + k + 1 ≡ i + suc k + 1 = omega arith in ap (hole_answer t n) g ∙ f (suc k) (omega arith)) in
    (ap₂ ◌++◌ (ap (hole_line (i + 1)) first) others.0, ap₂ ◌+◌ (ap one_hole first) others.1)

-- ---- the tools

module _ (t : List ℤ) (n : ℕ) (rs : Rows) (g : Good t n rs) where
  answer_is : (tool : ℕ) → 1 ≤ tool → tool ≤ max_tool → diameter_answer t n tool ≡ diameter_in tool (all_hold rs) 0
  unfolding diameter_answer is_tool
  answer_is tool a b = rw (g.fits, le-leb 1 tool a, le-leb tool max_tool b, g.found)

  diameter_is : (tool : ℕ) → 1 ≤ tool → tool ≤ max_tool → diameter_of t n (last_of start rs).tools tool ≡ result_ok (diameter_in tool (all_hold rs) 0)
  unfolding diameter_of
  diameter_is tool a b = by (has (last_of start rs).tools tool) refl
    where
      by : (h : Bool) → has (last_of start rs).tools tool ≡ h → cond h (result_ok (diameter_answer t n tool)) None ≡ result_ok (diameter_in tool (all_hold rs) 0)
      by true e = ap result_ok (answer_is tool a b)
      by false e = sym (ap result_ok (undeclared tool b rs start 0 g.follows (good_whole t n rs g).rows.within_range e))

  tool_is : (tool : ℕ) (a : DiameterAnswer) → where_some (holes_line tool) (result_ok a) ≡ tool_line tool a
  tool_is tool (Ok m) = refl
  tool_is tool (Err r) = refl

  tools_are : (k : ℕ) → k ≤ max_tool → lines_of_tools holes_line (diameter_of t n (last_of start rs).tools) k ≡ tool_lines k rs
  unfolding lines_of_tools tool_lines
  tools_are zero h = refl
  tools_are (suc k) h =
      let tool = max_tool - k in
      ap₂ ◌++◌ (ap (where_some (holes_line tool)) (diameter_is tool (omega arith) (omega arith)) ∙ tool_is tool (diameter_in tool (all_hold rs) 0)) (tools_are k (omega arith))

  -- with the counts of the rows
  count_is : (tool : ℕ) → 1 ≤ tool → tool ≤ max_tool → (a : DiameterAnswer)
      → where_some (counts_line_of (counts_of rs) tool) (result_ok a) ≡ counts_line tool a (how_many hits rs tool) (how_many routs rs tool)
  unfolding counts_line_of counts_of
  count_is tool h k (Ok m) = ap₂ (counts_line tool (Ok m)) (of_each (how_many hits rs) tool h k) (of_each (how_many routs rs) tool h k)
  count_is tool h k (Err r) = refl

  pub counts_are : (k : ℕ) → k ≤ max_tool → lines_of_tools (counts_line_of (counts_of rs)) (diameter_of t n (last_of start rs).tools) k ≡ counts_lines k rs
  unfolding lines_of_tools counts_lines
  counts_are zero h = refl
  counts_are (suc k) h =
      let tool = max_tool - k in
      ap₂ ◌++◌ (ap (where_some (counts_line_of (counts_of rs) tool)) (diameter_is tool (omega arith) (omega arith)) ∙ count_is tool (omega arith) (omega arith) (diameter_in tool (all_hold rs) 0)) (counts_are k (omega arith))

  -- ---- the whole

  module _ (c : n ≡ length rs) where
    pub last_found : state_in (entry_of (look_at t (n - 1))) ≡ Some (last_of start rs)
    last_found =
        let z = sizes_say t n g.fits in
        let e : entry_of (look_at t (n - 1)) ≡ get_or (all_hold rs) (n - 1) bad = sym (entries_at n t (n - 1) (omega (arith, z.some)) z.room) ∙ ap (λ (es : List (Entry Command State)). get_or es (n - 1) bad) g.found in
        ap state_in (e ∙ ap (λ (k : ℕ). get_or (all_hold rs) (k - 1) bad) c) ∙ last_state start rs (omega (arith, z.some, c))

    all_lines : (lines_text t n 0 (length rs) ≡ hole_lines start rs 0) × (holes_in t n 0 (length rs) ≡ hole_count start rs)
    all_lines = lines_are t n rs start 0 (λ k h.
        let e : 0 + k + 1 ≡ k + 1 = omega arith in
        let f : k + 1 - 1 ≡ k = omega arith in
        ap (hole_answer t n) e ∙ rw f at (good_hole t n rs g c (k + 1) (omega arith) (omega arith)))

    pub text_is : table_text t n (last_of start rs) ≡ holes_text rs
    unfolding table_text holes_text unit_line
    text_is =
        ap (◌++◌ (unit_text (last_of start rs).unit))
        (ap₂ ◌++◌ (tools_are max_tool (omega arith))
        (ap₂ (λ (x : List ℕ) (k : ℕ). x ++ count_text k) (ap (lines_text t n 0) c ∙ all_lines.0) (ap (holes_in t n 0) c ∙ all_lines.1)))
