use Prim.Native.Nat.{◌<◌}
use Rattle.rules.specs.Writing.{places_of}
use Rattle.millionths.proofs.Numbers.{decimals_in}
use Rattle.text.proofs.Wrote.{Rest}
use Rattle.millionths.proofs.put_fraction.Given as goal

abbrev pub invariant-loop-rest : goal.invariant-loop-rest
invariant-loop-rest l =
    (l.rest < 1000000) × Rest l.initial.b l.initial.end (decimals_in (places_of l.millionths) l.millionths) l.b l.end (decimals_in (places_of l.rest) l.rest)

abbrev pub decreases-loop-rest : goal.decreases-loop-rest
decreases-loop-rest l = places_of l.rest
