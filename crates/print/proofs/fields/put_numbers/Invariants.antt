use lib.ListN.{take}
use Rattle.text.specs.Wrote.{Wrote}
use Rattle.print.specs.Fields.{tabbed}
use Rattle.print.specs.Line.{decimals}
use Rattle.print.proofs.fields.put_numbers.Given as goal

-- the fields of the numbers before this turn's are written
abbrev pub invariant-loop-n : goal.invariant-loop-n
invariant-loop-n l = Wrote l.initial.b l.at (tabbed (decimals (take l.n-index l.numbers))) l.b l.end
