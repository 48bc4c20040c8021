-- How many digits a tool number has: what the test says, and what each revision makes of it. Two digits declare by each, and what
-- 2021 takes, 2019 takes.
use mathlib.Core.Path.{◌≡◌, refl}
use mathlib.Core.Bool.{true}
use Prim.Native.Nat.{ℕ, ◌≤◌}
use native.Mathlib.Omega.{arith}
use borrow.Author.Tests.{le-leb, leb-true}
use lib.Dec.{leb}
use Rattle.lists.proofs.Choice.{both}
use Rattle.rules.specs.declared.Revision.{Revision}
use Rattle.rules.specs.declared.Revision.TheVariants.{Rev2019, Rev2021}
use Rattle.rules.specs.Commands.{fewest_declared, most_digits, tool_digits}

pub digits_fit : (fewest k : ℕ) → fewest ≤ k → k ≤ most_digits → tool_digits fewest k ≡ true
digits_fit fewest k p q = rw (le-leb fewest k p, le-leb k most_digits q)

pub fit_digits : (fewest k : ℕ) → tool_digits fewest k ≡ true → (fewest ≤ k) × (k ≤ most_digits)
fit_digits fewest k e = let h = both (leb fewest k) (leb k most_digits) e in (leb-true fewest k h.0, leb-true k most_digits h.1)

pub two_digits : (rev : Revision) → tool_digits (fewest_declared rev) most_digits ≡ true
two_digits Rev2019 = refl
two_digits Rev2021 = refl

pub fewer_declared : (rev : Revision) → fewest_declared Rev2019 ≤ fewest_declared rev
fewer_declared Rev2019 = omega arith
fewer_declared Rev2021 = omega arith
