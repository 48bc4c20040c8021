use mathlib.Core.Path.{◌≡◌}
use Prim.Native.Nat.{◌*◌, ◌≤◌}
use lib.ListN.{drop}
use Rattle.rules.specs.State.{start}
use Rattle.rules.specs.Rows.{entries_of}
use Rattle.rules.specs.Writing.{longest_line, follow_from}
use Rattle.writer.specs.Walk.{bytes_from}
use Rattle.writer.proofs.measure.Given as goal

abbrev pub invariant-loop-i : goal.invariant-loop-i
invariant-loop-i l =
    (bytes_from l.bytes (follow_from l.state (drop l.i (entries_of l.n l.table)) l.i) ≡ bytes_from 0 (follow_from start (entries_of l.n l.table) 0))
    × (l.bytes ≤ longest_line * l.i)
