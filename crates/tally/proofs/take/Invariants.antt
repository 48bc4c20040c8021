use Rattle.tally.proofs.Steps.{Taking}
use Rattle.tally.proofs.take.Given as goal

abbrev pub invariant-loop-row : goal.invariant-loop-row
invariant-loop-row l = Taking l.way l.rows l.initial.counts l.row-index l.counts
