use mathlib.Core.Path.{◌≡◌}
use lib.ListN.{drop}
use Rattle.rules.specs.Rows.{entries_of}
use Rattle.rules.specs.Editing.{rerun_from, meeting_of}
use Rattle.editor.proofs.find_meeting.Given as goal

abbrev pub invariant-loop-i : goal.invariant-loop-i
invariant-loop-i l =
    meeting_of (rerun_from l.state (drop l.i-counter (entries_of l.n l.table)) l.i-counter) ≡ meeting_of (rerun_from l.initial.state (drop l.from (entries_of l.n l.table)) l.from)
