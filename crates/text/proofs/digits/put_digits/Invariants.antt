use mathlib.Core.Path.{◌≡◌}
use Prim.Native.Nat.{◌+◌, ◌-◌}
use Rattle.lists.specs.Put.{fitting}
use Rattle.rules.specs.Writing.{last_digits}
use Rattle.text.proofs.digits.put_digits.Given as goal

-- as many of the digits left have room, and they are the same
abbrev pub invariant-loop : goal.invariant-loop
invariant-loop l =
    fitting l.b l.at (last_digits (l.fitting + l.count - l.counter) l.rest) ≡ fitting l.b l.at (last_digits l.count l.n)
