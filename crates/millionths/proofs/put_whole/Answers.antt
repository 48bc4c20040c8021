-- Three digits one after another; each is what ten leaves of the tenth's tenth, of the tenth, of the number.
use native.Mathlib.Nat.{div-one}
use borrow.Author.Tests.{le-ltb}
use native.Mathlib.Omega.{arith}
use Rattle.rules.specs.Writing.{last_digits, width_of}
use Rattle.text.proofs.Wrote.{wrote_more}
use Rattle.millionths.proofs.put_whole.Goals as goal

pub returns-in_default : goal.returns-in_default
unfolding width_of last_digits
returns-in_default c =
    rw (le-ltb c.args.w 10 (omega arith), le-ltb c.args.w 100 (omega arith), div-one c.args.w)
    (wrote_more c.put_digit-tens.ensures (wrote_more c.put_digit-ones-in_default.ensures c.put_digit-in_default.ensures))
