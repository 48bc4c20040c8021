-- Past the last row no entry is left.
use native.Mathlib.Omega.{arith}
use lib.ListN.{drop_of_length-le}
use Rattle.rules.specs.Asking.{diameter_in}
use Rattle.laws.proofs.Entries.{entries_length}
use Rattle.query.proofs.find_diameter.Goals as goal

pub returns : goal.returns
unfolding diameter_in
returns c = grind (arith, drop_of_length-le, entries_length)
