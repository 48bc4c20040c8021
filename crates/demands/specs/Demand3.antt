-- Demand 3, for each revision with itself, where the counts handed in are the table's own. An edit of an accepted file answers as a
-- fresh reading of the edited file does, leaves the table that the fresh reading leaves, and hands back its counts; its meeting
-- line is the first agreement of states, and nothing outside its span changes.
use Rattle.std.specs.Prelude.{◌≡◌, true, List, ℕ, ◌-◌, ◌*◌, ◌<◌, ◌≤◌, ℤ, length, take, drop, Ok, Err}
use Rattle.runs.specs.Machine.{accepted}
use Rattle.runs.specs.Agreement.{FirstAgreement}
use Rattle.rules.specs.declared.Revision.{Revision}
use Rattle.rules.specs.declared.Counts.{Counts}
use Rattle.rules.specs.Results.{Answer, refused_at}
use Rattle.rules.specs.Numbers.{max_file}
use Rattle.rules.specs.State.{start}
use Rattle.rules.specs.Rows.{row_width}
use Rattle.rules.specs.Reading.{Rows, file_of, read_answer, read_leaves}
use Rattle.rules.specs.Counting.{read_counts}
use Rattle.rules.specs.Editing.{no_line_end, edit_answer, edit_leaves, edit_counts}
use Rattle.rules.specs.Asking.{hole_answer}
use Rattle.demands.specs.EditedFile.{LineOf, edited}

-- an edit's answer, and a fresh reading's: the same refusal, its column included, at the same line, or n lines read
abbrev pub SameVerdict : ℕ → Answer → Answer → Type 0
SameVerdict n (Err r) fresh = fresh ≡ refused_at r.refusal r.line
SameVerdict n (Ok m) fresh = fresh ≡ Ok n

-- m is the first line, from line k on, after which the states of two accepted files agree in all ten numbers, or the last
pub record MeetsAt (rev : Revision) (old_file new_file : List ℕ) (k m : ℕ) : Type 0 where
  pub old : Rows
  pub new : Rows
  pub read_old : file_of rev old_file ≡ accepted old
  pub read_new : file_of rev new_file ≡ accepted new
  pub first : FirstAgreement start old new k m

-- of two tables of n rows: the numbers of rows outside k to m, all beyond the rows, and the holes of lines outside k to m
pub record SameOutside (t u : List ℤ) (n k m : ℕ) : Type 0 where
  pub numbers_before : take (row_width * (k - 1)) u ≡ take (row_width * (k - 1)) t
  pub numbers_after : drop (row_width * m) u ≡ drop (row_width * m) t
  pub holes_before : (j : ℕ) → j < k → hole_answer u n j ≡ hole_answer t n j
  pub holes_after : (j : ℕ) → m < j → hole_answer u n j ≡ hole_answer t n j

-- an accepted edit's span; a refused edit changes nothing
abbrev pub SpanIs : Revision → (old_file new_file : List ℕ) → (t u : List ℤ) → (n k : ℕ) → Answer → Type 0
SpanIs rev old_file new_file t u n k (Err r) = u ≡ t
SpanIs rev old_file new_file t u n k (Ok m) = MeetsAt rev old_file new_file k m × SameOutside t u n k m

-- the counts after an edit, from c: those that a fresh reading hands out; after a refused edit they are as they were
abbrev pub SameCounts : Counts → Answer → (after fresh : Counts) → Type 0
SameCounts c (Err r) after fresh = after ≡ c
SameCounts c (Ok m) after fresh = after ≡ fresh

-- line k of the old file, whose table of n rows is t and whose counts are c, gets the text l; the new file is the old one so edited
pub record AsReadAfresh (rev : Revision) (old_file new_file : List ℕ) (t : List ℤ) (c : Counts) (n k : ℕ) (l : List ℕ) : Type 0 where
  pub verdict : SameVerdict n (edit_answer rev t n k l c) (read_answer rev new_file t)
  pub table : edit_leaves rev t n k l c ≡ read_leaves rev new_file t
  pub counts : SameCounts c (edit_answer rev t n k l c) (edit_counts rev t n k l c) (read_counts rev new_file t)
  pub span : SpanIs rev old_file new_file t (edit_leaves rev t n k l c) n k (edit_answer rev t n k l c)

pub record Demand3 (rev : Revision) : Type 0 where
  -- each line of a file that was read into lent numbers t, whose table has n rows, is one that may be edited, and no other is
  pub every_line : (bs : List ℕ) (t : List ℤ) (n : ℕ) → read_answer rev bs t ≡ Ok n → (k : ℕ) → 1 ≤ k → k ≤ n → LineOf bs k
  pub no_other : (bs : List ℕ) (t : List ℤ) (n : ℕ) → read_answer rev bs t ≡ Ok n → (k : ℕ) → LineOf bs k → (1 ≤ k) × (k ≤ n)
  -- the edited file is one
  pub one_edited : (bs : List ℕ) (k : ℕ) (v w : LineOf bs k) (l : List ℕ) → no_line_end l ≡ true → edited v l ≡ edited w l
  -- line k gets the text l, which holds no line end, and the edited file is no larger than a file may be
  pub as_read_afresh : (bs : List ℕ) (t : List ℤ) (n : ℕ) → read_answer rev bs t ≡ Ok n → (k : ℕ) (w : LineOf bs k) (l : List ℕ)
      → no_line_end l ≡ true → length (edited w l) ≤ max_file
      → AsReadAfresh rev bs (edited w l) (read_leaves rev bs t) (read_counts rev bs t) n k l
  -- and two files meet at one line only
  pub one_meeting : (old_file new_file : List ℕ) (k m n : ℕ) → MeetsAt rev old_file new_file k m
      → MeetsAt rev old_file new_file k n → m ≡ n
