use Prim.Native.Nat.{ℕ, ◌+◌, ◌-◌}
use mathlib.Core.List.{List}
use Rattle.rules.specs.Numbers.{max_tool}
use Rattle.text.proofs.Wrote.{Rest}
use Rattle.report.specs.Parts.{diameter_of, lines_of_tools, PutsTools}
use Rattle.report.proofs.parts.put_each_tool.Given as goal

abbrev pub invariant-loop-tool : goal.invariant-loop-tool
invariant-loop-tool g l =
    (line : ℕ → ℕ → List ℕ) → PutsTools (goal.F-post g l.put) line
    → Rest l.initial.text l.at (lines_of_tools line (diameter_of l.table l.n l.declared) max_tool) l.text l.end (lines_of_tools line (diameter_of l.table l.n l.declared) (max_tool + 1 - l.tool))
