use mathlib.Core.Path.{◌≡◌}
use Rattle.lists.specs.Put.{put_at}
use Rattle.rules.specs.Writing.{last_digits}
use Rattle.text.proofs.digits.write_digits.Given as goal

-- the digits that are left, written on what is there, are the whole text
abbrev pub invariant-loop-left : goal.invariant-loop-left
invariant-loop-left l = put_at l.b l.at (last_digits l.left l.rest) ≡ put_at l.initial.b l.at (last_digits l.count l.n)
