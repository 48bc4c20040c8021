-- Document 02, #103: 18 at line 0 for the counts, given exactly when, and after all other refusals. For every table, good or not. The
-- rows of the span as they stood are old; what they take from a count is what they make of that tool's holes.
use Rattle.std.specs.Prelude.{◌≡◌, List, ℕ, ℤ, Ok}
use Rattle.lists.specs.Exactly.{Exactly}
use Rattle.rules.specs.declared.Refusal.{Refusal}
use Rattle.rules.specs.declared.Revision.{Revision}
use Rattle.rules.specs.declared.Counts.{Counts}
use Rattle.rules.specs.Results.{refused_at}
use Rattle.rules.specs.Refusals.{bad_table}
use Rattle.rules.specs.Reading.{Rows}
use Rattle.rules.specs.Editing.{meeting_answer, edit_answer}
use Rattle.demands.specs.EditRefused.{Stand, CountsFault}

pub record CountsExactly : Type 0 where
  -- an edit that is refused whatever the counts is refused so
  pub last : (rev : Revision) (t : List ℤ) (n k : ℕ) (l : List ℕ) (c : Counts) (e : Refusal) (i : ℕ)
      → meeting_answer rev t n k l ≡ refused_at e i → edit_answer rev t n k l c ≡ refused_at e i
  -- else it meets at line m, and the rows from the edited line to it stand whole
  pub stands : (rev : Revision) (t : List ℤ) (n k : ℕ) (l : List ℕ) (m : ℕ) → meeting_answer rev t n k l ≡ Ok m → (old : Rows) × Stand t n k m old
  pub one_old : (t : List ℤ) (n k m : ℕ) (old older : Rows) → Stand t n k m old → Stand t n k m older → old ≡ older
  -- refused, or accepted, exactly so
  pub refused : (rev : Revision) (t : List ℤ) (n k : ℕ) (l : List ℕ) (c : Counts) (m : ℕ) (old : Rows)
      → meeting_answer rev t n k l ≡ Ok m → Stand t n k m old → Exactly (edit_answer rev t n k l c ≡ refused_at bad_table 0) (CountsFault old c)
  pub accepted : (rev : Revision) (t : List ℤ) (n k : ℕ) (l : List ℕ) (c : Counts) (m : ℕ) (old : Rows)
      → meeting_answer rev t n k l ≡ Ok m → Stand t n k m old → Exactly (edit_answer rev t n k l c ≡ Ok m) (CountsFault old c → ⊥)
