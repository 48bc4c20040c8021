use Prim.Native.Nat.{◌-◌}
use lib.ListN.{length, drop}
use Rattle.reader.proofs.Turns.{Going}
use Rattle.reader.proofs.read_lines.Given as goal

abbrev pub invariant-loop-at : goal.invariant-loop-at
invariant-loop-at l = Going l.revision l.file l.initial.rows l.rows l.state l.n (drop l.at l.file)

abbrev pub decreases-loop-at : goal.decreases-loop-at
decreases-loop-at l = length l.file - l.at
