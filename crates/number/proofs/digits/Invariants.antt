use Rattle.number.proofs.Runs.{Passed}
use Rattle.number.proofs.digits.Given as goal

abbrev pub invariant-loop-b : goal.invariant-loop-b
invariant-loop-b l = Passed l.s l.at l.from l.b-items l.b-index l.run
