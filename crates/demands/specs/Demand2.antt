-- Demand 2. A file is accepted exactly where it obeys, and its table holds the rows of its one reading, each line with its
-- hole; it is refused exactly at its lowest faulty line. A good table that is written and read back gives that table without
-- its comment rows.
use Rattle.std.specs.Prelude.{◌≡◌, List, ℕ, ◌*◌, ◌<◌, ◌≤◌, ℤ, length, Ok}
use Rattle.lists.specs.Put.{put_at}
use Rattle.lists.specs.Exactly.{Exactly}
use Rattle.runs.specs.Machine.{all_hold}
use Rattle.rules.specs.declared.Refusal.{Refusal}
use Rattle.rules.specs.declared.Revision.{Revision}
use Rattle.rules.specs.Results.{refused_at}
use Rattle.rules.specs.Refusals.{no_room}
use Rattle.rules.specs.Rows.{row_width, table_numbers, entries_of, table_room, Good}
use Rattle.rules.specs.Reading.{Rows, row_of, state_before, read_answer, read_leaves}
use Rattle.rules.specs.Obeys.{ReadingOf, Obeys}
use Rattle.rules.specs.Holes.{hole_of}
use Rattle.rules.specs.Asking.{hole_answer}
use Rattle.obeys.specs.Faults.{Faulty}
use Rattle.demands.specs.WriteBack.{WritesBack}

-- the bytes bs, whose reading is rs, are read into lent numbers t as n lines
pub record HoldsReading (rev : Revision) (bs : List ℕ) (t : List ℤ) (n : ℕ) (rs : Rows) : Type 0 where
  pub count : n ≡ length rs
  pub numbers : read_leaves rev bs t ≡ put_at t 0 (table_numbers rs)
  pub entries : entries_of n (read_leaves rev bs t) ≡ all_hold rs
  pub good : Good (read_leaves rev bs t) n rs
  pub holes : (k : ℕ) → 1 ≤ k → k ≤ n
      → hole_answer (read_leaves rev bs t) n k ≡ hole_of (state_before rs k).at (row_of rs k).command (row_of rs k).state

-- why a file is not read: it is faulty, and the refusal and line are those of its lowest faulty line; or it has a reading,
-- for which there is no room
pub data ReadRefused (rev : Revision) (bs : List ℕ) (t : List ℤ) : Refusal → ℕ → Type 0 where
  faulty : {e : Refusal} {i : ℕ} → Faulty rev bs e i → ReadRefused rev bs t e i
  short : {rs : Rows} → ReadingOf rev bs rs → length t < row_width * length rs → ReadRefused rev bs t no_room 0

pub record ReadsRight (rev : Revision) (bs : List ℕ) (t : List ℤ) : Type 0 where
  -- accepted exactly where it obeys and there is room for its rows; in numbers for the longest table there always is
  pub obeys : (n : ℕ) → read_answer rev bs t ≡ Ok n → Obeys rev bs
  pub accepted : (rs : Rows) → ReadingOf rev bs rs → row_width * length rs ≤ length t → read_answer rev bs t ≡ Ok (length rs)
  pub accepted_all : table_room ≤ length t → (w : Obeys rev bs) → read_answer rev bs t ≡ Ok (length w.rows)
  -- one reading, and the table holds it
  pub one_reading : (rs ss : Rows) → ReadingOf rev bs rs → ReadingOf rev bs ss → rs ≡ ss
  pub holds : (n : ℕ) (rs : Rows) → read_answer rev bs t ≡ Ok n → ReadingOf rev bs rs → HoldsReading rev bs t n rs
  -- refused exactly so; 15 is no file's fault
  pub refused : (e : Refusal) (i : ℕ) → Exactly (read_answer rev bs t ≡ refused_at e i) (ReadRefused rev bs t e i)
  pub no_room_last : (i : ℕ) → Faulty rev bs no_room i → ⊥

pub record Demand2 : Type 0 where
  pub reads : (rev : Revision) (bs : List ℕ) (t : List ℤ) → ReadsRight rev bs t
  pub writes_back : (t : List ℤ) (n : ℕ) (rs : Rows) → Good t n rs → WritesBack t n rs
