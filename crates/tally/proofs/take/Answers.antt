-- The first rows are taken away; where a tool has fewer, the rows take more than it had.
use mathlib.Core.Path.{sym, ◌∙◌}
use native.Mathlib.Omega.{arith}
use Rattle.tally.proofs.Steps.{tool_there, taking_none, taking_with, taking_without, taking_stops, taking_over}
use Rattle.tally.proofs.Whole.{takes_none}
use Rattle.tally.proofs.take.Goals.{in-Some+in_ok-counts, in_default}
use Rattle.tally.proofs.take.Goals as goal

pub loop-row-init : goal.loop-row-init
loop-row-init c = taking_none _ _ _ c.told-counts

pub returns-in_err-counts : goal.returns-in_err-counts
returns-in_err-counts c =
    let e = c.in-Some.ensures.0 ∙ tool_there _ _ c.as_chunks.ensures.front (omega arith) in
    takes_none c.from_residual.ensures
    (taking_stops _ _ _ _ c.loop-row.invariant e c.in-Some.ensures.1 c.in-Some.ensures.2 (omega arith) c.in_err-counts.ensures)

pub loop-row-preserved : goal.loop-row-preserved
loop-row-preserved c = elim c.match-tool_in.branch [
  | in-Some+in_ok-counts w ↦
      let e = w.in-Some.ensures.0 ∙ tool_there _ _ c.as_chunks.ensures.front (omega arith) in
      rw (w.counts-is, w.in_ok-counts.ensures.1)
      (taking_with _ _ _ _ c.loop-row.invariant e w.in-Some.ensures.1 w.in-Some.ensures.2 w.in_ok-counts.ensures.0)
  | in_default w ↦
      rw w.counts-is
      (taking_without _ _ _ _ c.loop-row.invariant (sym (tool_there _ _ c.as_chunks.ensures.front (omega arith)) ∙ w.in_default.ensures))
]

pub returns : goal.returns
returns c = taking_over _ _ _ (omega arith) c.loop-row.invariant
