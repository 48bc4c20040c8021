-- Rows that stand whole, at line k: the state before it and its row, as a table's entries give them.
use mathlib.Core.Path.{◌≡◌, refl, sym, ap, ◌∙◌}
use mathlib.Core.List.{[], ◌∷◌, ◌++◌}
use Prim.Native.Nat.{ℕ, ◌+◌, ◌-◌, ◌≤◌}
use native.Mathlib.Omega.{arith}
use borrow.Author.Tests.{le-leb, lt-leb}
use lib.ListN.{length, get_or}
use lib.Seq.{take-append_seam}
use Rattle.std.specs.Prelude.{Some}
use Rattle.lists.proofs.Around.{around_line}
use Rattle.runs.specs.Machine.{Row, holds, bad, all_hold, last_of}
use Rattle.runs.specs.Agreement.{state_after}
use Rattle.runs.proofs.Hold.{hold_at}
use Rattle.runs.proofs.Edit.{after_append}
use Rattle.rules.specs.declared.Command.{Command}
use Rattle.rules.specs.declared.State.{State}
use Rattle.rules.specs.State.{start}
use Rattle.rules.specs.Reading.{Rows}
use Rattle.rules.specs.Editing.{entry_at, state_in, before_line}

last_entry : (q : Row Command State) (os ys : Rows) → state_in (get_or (all_hold (q ∷ os ++ ys)) (length os) bad) ≡ Some (last_of q.state os)
unfolding all_hold last_of
last_entry q [] ys = refl
last_entry q (o ∷ os) ys = last_entry o os ys

-- before a line stands the state of the rows before it
pub before_here : (os ys : Rows) (k : ℕ) → k ≡ length os + 1 → before_line k (entry_at (all_hold (os ++ ys)) (k - 1)) ≡ Some (last_of start os)
unfolding before_line last_of
before_here [] ys k e = rw (le-leb k 1 (omega arith))
before_here (o ∷ os) ys k e = let n : k - 1 - 1 ≡ length os = omega arith in rw (lt-leb k 1 (omega arith), n) (last_entry o os ys)

pub entry_here : (os : Rows) (r : Row Command State) (ys : Rows) (k : ℕ) → k ≡ length os + 1 → entry_at (all_hold (os ++ (r ∷ ys))) k ≡ holds r
entry_here os r ys k e = let n : k - 1 ≡ length os = omega arith in rw n (hold_at os r ys)

-- the states before and after line k, by the rows
module _ (rs : Rows) (k : ℕ) (a : 1 ≤ k) (b : k ≤ length rs) where
  pub before_line_lem : before_line k (entry_at (all_hold rs) (k - 1)) ≡ Some (state_after start rs (k - 1))
  before_line_lem =
      around_line (λ z j. before_line k (entry_at (all_hold z) (k - 1)) ≡ Some (state_after start z j)) rs k a b
      (λ os r ys e. before_here os (r ∷ ys) k e ∙ ap (λ (z : Rows). Some (last_of start z)) (sym (take-append_seam os (r ∷ ys))))

  pub state_line : state_in (entry_at (all_hold rs) k) ≡ Some (state_after start rs k)
  unfolding last_of
  state_line =
      around_line (λ z _. state_in (entry_at (all_hold z) k) ≡ Some (state_after start z k)) rs k a b
      (λ os r ys e. ap state_in (entry_here os r ys k e) ∙ ap Some (sym (ap (state_after start (os ++ (r ∷ ys))) e ∙ after_append start os (r ∷ ys) 1)))
