use mathlib.Core.Path.{◌≡◌}
use Rattle.rules.specs.Ranges.{StateOk}
use Rattle.editor.specs.Parts.{span_written}
use Rattle.editor.proofs.write_span.Given as goal

abbrev pub invariant-loop-i : goal.invariant-loop-i
invariant-loop-i l = (span_written l.table l.n l.i l.state ≡ span_written l.initial.table l.n l.from l.initial.state) × StateOk l.state
