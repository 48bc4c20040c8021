use mathlib.Core.Path.{◌≡◌}
use Prim.Native.Nat.{◌+◌, ◌-◌, ◌≤◌}
use Rattle.text.proofs.Wrote.{Rest}
use Rattle.report.specs.Parts.{lines_text, holes_in}
use Rattle.report.proofs.parts.put_lines.Given as goal

abbrev pub invariant-loop-i : goal.invariant-loop-i
invariant-loop-i l =
    (l.holes ≤ l.i) × (l.holes + holes_in l.table l.n l.i (l.n - l.i) ≡ holes_in l.table l.n 0 l.n) × Rest l.initial.text l.at (lines_text l.table l.n 0 l.n) l.text l.end (lines_text l.table l.n l.i (l.n - l.i))
