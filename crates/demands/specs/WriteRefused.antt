-- Writing succeeds exactly for a good table and a block with room for its text; otherwise it is refused: 18 at line 0 for
-- the sizes, 18 at the first row that fails its test or doesn't follow, 18 at line n if the last phase isn't 4, then 15.
use Rattle.std.specs.Prelude.{◌≡◌, false, List, ◌∷◌, ◌++◌, ℕ, ◌+◌, ◌<◌, ◌≤◌, ℤ, length, Ok}
use Rattle.lists.specs.Exactly.{Exactly}
use Rattle.runs.specs.Machine.{yields, Entry, holds, bad, all_hold, last_of, Follows, StepBy}
use Rattle.rules.specs.declared.Command.{Command}
use Rattle.rules.specs.declared.State.{State}
use Rattle.rules.specs.declared.Refusal.{Refusal}
use Rattle.rules.specs.Results.{refused_at}
use Rattle.rules.specs.Refusals.{bad_table, no_room}
use Rattle.rules.specs.State.{start, taken, has_ended}
use Rattle.rules.specs.Rows.{entries_of, Sizes, Good}
use Rattle.rules.specs.Reading.{Rows}
use Rattle.rules.specs.Writing.{text_of_rows, write_answer}

-- a row that fails its test, or whose state doesn't follow from p
abbrev pub Unfit : State → Entry Command State → Type 0
Unfit p bad = Unit {0}
Unfit p (holds r) = taken p r.command ≡ yields r.state → ⊥

-- rows after i others, from state p, that are not those of a good table, and the line that shows it: the first that is
-- unfit; or the last, where all follow and the run has not ended
pub data NotTable (p : State) (i : ℕ) : List (Entry Command State) → ℕ → Type 0 where
  unfit : (rs : Rows) (e : Entry Command State) (es : List (Entry Command State)) {j : ℕ}
      → Follows (StepBy taken) p i rs → Unfit (last_of p rs) e → i + length rs + 1 ≡ j → NotTable p i (all_hold rs ++ (e ∷ es)) j
  unended : (rs : Rows) {j : ℕ} → Follows (StepBy taken) p i rs → has_ended (last_of p rs) ≡ false → i + length rs ≡ j
      → NotTable p i (all_hold rs) j

-- why a table is not written, and the line
pub data WriteRefused (t : List ℤ) (n : ℕ) (b : List ℕ) : Refusal → ℕ → Type 0 where
  sizes : (Sizes t n → ⊥) → WriteRefused t n b bad_table 0
  rows : {i : ℕ} → Sizes t n → NotTable start 0 (entries_of n t) i → WriteRefused t n b bad_table i
  short : {rs : Rows} → Good t n rs → length b < length (text_of_rows rs) → WriteRefused t n b no_room 0

-- a table is written as m bytes
pub record IsWritten (t : List ℤ) (n : ℕ) (b : List ℕ) (m : ℕ) : Type 0 where
  pub rows : Rows
  pub good : Good t n rows
  pub count : m ≡ length (text_of_rows rows)
  pub room : m ≤ length b

pub record WritesExactly (t : List ℤ) (n : ℕ) (b : List ℕ) : Type 0 where
  pub done : (m : ℕ) → Exactly (write_answer t n b ≡ Ok m) (IsWritten t n b m)
  pub refused : (e : Refusal) (i : ℕ) → Exactly (write_answer t n b ≡ refused_at e i) (WriteRefused t n b e i)
  -- 18 exactly where the table isn't good
  pub not_good : ((rs : Rows) → Good t n rs → ⊥) → (i : ℕ) × (write_answer t n b ≡ refused_at bad_table i)
  pub not_bad : (rs : Rows) → Good t n rs → (i : ℕ) → write_answer t n b ≡ refused_at bad_table i → ⊥

pub record WriteExactly : Type 0 where
  pub writes : (t : List ℤ) (n : ℕ) (b : List ℕ) → WritesExactly t n b
