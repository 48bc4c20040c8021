use mathlib.Core.Path.{◌≡◌}
use Rattle.tally.proofs.Steps.{more_to}
use Rattle.tally.proofs.add.Given as goal

abbrev pub invariant-loop-row : goal.invariant-loop-row
invariant-loop-row l = l.counts ≡ more_to l.way l.rows l.initial.counts l.row-index
