-- The hole query's refusals, given exactly when: document 01, "The answers", hole query. For every table, good or not.
use Rattle.std.specs.Prelude.{◌≡◌, List, ℕ, ◌-◌, ◌<◌, ◌≤◌, ℤ}
use Rattle.lists.specs.Exactly.{Exactly}
use Rattle.runs.specs.Machine.{Row, Entry, holds, bad}
use Rattle.rules.specs.declared.Command.{Command}
use Rattle.rules.specs.declared.State.{State}
use Rattle.rules.specs.declared.Refusal.{Refusal}
use Rattle.rules.specs.Results.{refused_at}
use Rattle.rules.specs.Refusals.{no_such_line, bad_table}
use Rattle.rules.specs.State.{start}
use Rattle.rules.specs.Rows.{entries_of, Sizes}
use Rattle.rules.specs.Holes.{hole_of}
use Rattle.rules.specs.Editing.{entry_at}
use Rattle.rules.specs.Asking.{hole_answer}

-- line k of a table of n rows in numbers t
pub record LineOfTable (t : List ℤ) (n k : ℕ) : Type 0 where
  pub sizes : Sizes t n
  pub from : 1 ≤ k
  pub upto : k ≤ n

-- its row as it is found, whole or failing its test
abbrev pub found_at : List ℤ → ℕ → ℕ → Entry Command State
found_at t n k = entry_at (entries_of n t) k

-- the state before it: all zero before line 1, else that of the row before, which passes its test
pub data StateBefore (t : List ℤ) (n k : ℕ) (p : State) : Type 0 where
  first : k ≡ 1 → p ≡ start → StateBefore t n k p
  after : {r : Row Command State} → 1 < k → found_at t n (k - 1) ≡ holds r → p ≡ r.state → StateBefore t n k p

-- why there is no answer, and the line
pub data HoleRefused (t : List ℤ) (n k : ℕ) : Refusal → ℕ → Type 0 where
  sizes : (Sizes t n → ⊥) → HoleRefused t n k bad_table 0
  no_line : Sizes t n → (LineOfTable t n k → ⊥) → HoleRefused t n k no_such_line 0
  row_before : LineOfTable t n k → 1 < k → found_at t n (k - 1) ≡ bad → HoleRefused t n k bad_table (k - 1)
  row_itself : {p : State} → LineOfTable t n k → StateBefore t n k p → found_at t n k ≡ bad → HoleRefused t n k bad_table k

pub record HoleRefusedExactly : Type 0 where
  pub refused : (t : List ℤ) (n k : ℕ) (e : Refusal) (i : ℕ)
      → Exactly (hole_answer t n k ≡ refused_at e i) (HoleRefused t n k e i)
  -- else it is the hole, or that there is none
  pub answered : (t : List ℤ) (n k : ℕ) (p : State) (r : Row Command State)
      → LineOfTable t n k → StateBefore t n k p → found_at t n k ≡ holds r
      → hole_answer t n k ≡ hole_of p.at r.command r.state
