-- The invariant: whoever writes as many decimals of what is left as are left has written all.
use native.Mathlib.Omega.{arith}
use Rattle.millionths.proofs.Numbers.{no_decimals, some_fraction, decimals_turn}
use Rattle.text.proofs.Wrote.{wrote_more, rest_turn, rest_end}
use Rattle.millionths.proofs.put_decimals.Goals as goal

pub loop-preserved : goal.loop-preserved
loop-preserved c =
    let l = c.loop in
    (omega arith, rest_turn _ l.invariant.1 _ (decimals_turn l.rest (omega arith) (omega arith)) c.put_digit-next.ensures)

pub returns : goal.returns
returns c =
    rw (some_fraction _ _ c.if-count-eq0.false) (wrote_more c.put_byte-next.ensures (rest_end _ c.loop.invariant.1 (no_decimals _ _ (omega arith))))
