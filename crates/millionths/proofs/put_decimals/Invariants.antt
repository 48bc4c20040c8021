use Prim.Native.Nat.{◌-◌, ◌<◌}
use Rattle.millionths.proofs.Numbers.{decimals_in}
use Rattle.text.proofs.Wrote.{Rest}
use Rattle.millionths.proofs.put_decimals.Given as goal

abbrev pub invariant-loop : goal.invariant-loop
invariant-loop l =
    (l.rest < 1000000) × Rest l.initial.b l.initial.next (decimals_in l.count l.millionths) l.b l.next (decimals_in (l.count - l.counter) l.rest)
