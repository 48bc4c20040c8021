-- The first rows are added.
use mathlib.Core.Path.{sym, ap, ◌∙◌}
use Prim.Native.Nat.{◌-◌}
use native.Mathlib.Omega.{arith}
use lib.ListN.{set}
use Rattle.tally.proofs.Steps.{tool_there, more_with, more_without}
use Rattle.tally.proofs.add.Goals.{in-Some, in_default}
use Rattle.tally.proofs.add.Goals as goal

pub loop-row-preserved : goal.loop-row-preserved
loop-row-preserved c = elim c.match-tool_in.branch [
  | in-Some w ↦
      let e = w.in-Some.ensures.0 ∙ tool_there _ _ c.as_chunks.ensures.front (omega arith) in
      w.counts-is ∙ more_with _ _ _ _ c.loop-row.invariant e w.in-Some.ensures.1 w.in-Some.ensures.2 (omega (arith, c.fits-counts (w.in-Some.tool - 1))) w.saturating_add.ensures
  | in_default w ↦
      w.counts-is ∙ more_without _ _ _ _ c.loop-row.invariant (sym (tool_there _ _ c.as_chunks.ensures.front (omega arith)) ∙ w.in_default.ensures)
]
