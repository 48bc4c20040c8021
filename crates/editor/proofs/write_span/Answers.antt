-- The rows not yet reached are as they were, and the state after this one is in range.
use Rattle.std.proofs.Common.{sym, ◌∙◌, arith}
use Rattle.editor.proofs.Spans.{next_ok, span_on}
use Rattle.editor.proofs.write_span.Goals as goal

pub loop-i-preserved : goal.loop-i-preserved
loop-i-preserved c = (
  search (arith, span_on),
  next_ok _ _ _ _ _ c.loop-i.invariant.1 (sym c.look.ensures ∙ c.in-Some.is) (sym c.step.ensures ∙ c.in-Ok.is),
)
