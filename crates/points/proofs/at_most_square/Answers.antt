-- A quarter of the sum is compared with a quarter of the square; beyond 32 bits a half is beyond every sum.
use native.Mathlib.Omega.{arith}
use Rattle.points.proofs.Quarters.{sum_quarter, sum_below}
use Rattle.points.proofs.at_most_square.Goals as goal

pub returns-then-q-gt-LARGEST : goal.returns-then-q-gt-LARGEST
returns-then-q-gt-LARGEST c = sum_below _ _ _ (omega arith) (omega arith) c.if-q-gt-LARGEST.true

pub returns : goal.returns
returns c = rw c.quarter_of_sum.ensures (sum_quarter _ _ _)
