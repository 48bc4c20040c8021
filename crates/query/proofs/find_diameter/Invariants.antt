use mathlib.Core.Path.{◌≡◌}
use lib.ListN.{drop}
use Rattle.rules.specs.Rows.{entries_of}
use Rattle.rules.specs.Asking.{diameter_in}
use Rattle.query.proofs.find_diameter.Given as goal

abbrev pub invariant-loop-i : goal.invariant-loop-i
invariant-loop-i l = diameter_in l.tool (drop l.i (entries_of l.n l.table)) l.i ≡ diameter_in l.tool (entries_of l.n l.table) 0
