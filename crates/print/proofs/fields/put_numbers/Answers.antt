use Rattle.print.proofs.Turns.{numbers_none, numbers_more}
use Rattle.print.proofs.fields.put_numbers.Goals as goal

pub loop-n-init : goal.loop-n-init
loop-n-init c = numbers_none

pub loop-n-preserved : goal.loop-n-preserved
loop-n-preserved c = numbers_more _ _ c.loop-n-test.true c.loop-n.invariant c.put_number-end.ensures
