use Rattle.tally.proofs.Steps.{Largest}
use Rattle.tally.proofs.none_over.Given as goal

abbrev pub invariant-loop-count : goal.invariant-loop-count
invariant-loop-count l = Largest l.counts l.count-index l.most
