-- Demand 1: every input has one answer, since reading, editing, writing and the questions are functions of what is handed in. A
-- refusal has one of the numbers listed and a line up to the one that is missing after the last, names a column or none
-- (column_only), and leaves everything lent, and the counts, as it was; a success changes what it says and nothing beyond. The
-- questions are lent nothing that they could change.
use Rattle.std.specs.Prelude.{◌≡◌, Bool, true, false, ◌||◌, List, [], ◌∷◌, ℕ, ◌+◌, ◌-◌, ◌*◌, ◌≤◌, eqb, ℤ, length, take, drop, Ok}
use Rattle.rules.specs.declared.Refusal.{Refusal}
use Rattle.rules.specs.declared.Revision.{Revision}
use Rattle.rules.specs.declared.Counts.{Counts}
use Rattle.rules.specs.Results.{refused_at}
use Rattle.rules.specs.Refusals.{refusal_number, refusal_column, no_column}
use Rattle.rules.specs.Numbers.{max_lines, max_line}
use Rattle.rules.specs.Rows.{row_width}
use Rattle.rules.specs.Reading.{read_answer, read_leaves}
use Rattle.rules.specs.Counting.{no_counts, read_counts, hits_answer, routs_answer}
use Rattle.rules.specs.Editing.{edit_answer, edit_leaves, edit_counts}
use Rattle.rules.specs.Asking.{hole_answer, diameter_answer}
use Rattle.rules.specs.Writing.{longest_line, write_answer, write_leaves}

-- one of some numbers
abbrev pub among : List ℕ → ℕ → Bool
among [] n = false
among (m ∷ ms) n = eqb m n || among ms n

-- a line up to the table's own, and no further than a file's lines can go; line 0 is the whole file or table
abbrev pub OnLine : ℕ → ℕ → ℕ → Type 0
OnLine last most i = (i ≤ last) × (i ≤ most)

-- the refusals of each, in the order in which they are tested
abbrev pub read_refusals : List ℕ
read_refusals = 1 ∷ 2 ∷ 3 ∷ 6 ∷ 4 ∷ 5 ∷ 7 ∷ 8 ∷ 12 ∷ 9 ∷ 10 ∷ 11 ∷ 13 ∷ 14 ∷ 15 ∷ []

abbrev pub edit_refusals : List ℕ
edit_refusals = 18 ∷ 16 ∷ 17 ∷ 6 ∷ 4 ∷ 5 ∷ 7 ∷ 8 ∷ 12 ∷ 9 ∷ 10 ∷ 11 ∷ 13 ∷ 14 ∷ []

abbrev pub hole_refusals : List ℕ
hole_refusals = 18 ∷ 16 ∷ []

abbrev pub diameter_refusals : List ℕ
diameter_refusals = 18 ∷ 7 ∷ 10 ∷ []

-- how many hits or routs a tool makes
abbrev pub count_refusals : List ℕ
count_refusals = 7 ∷ []

abbrev pub write_refusals : List ℕ
write_refusals = 18 ∷ 15 ∷ []

-- document 02, #106: a column from 1 to the longest line's last exactly where the number is one of these, and 0 elsewhere
abbrev pub column_refusals : List ℕ
column_refusals = 4 ∷ 7 ∷ []

pub record ColumnOnly (e : Refusal) : Type 0 where
  pub named : among column_refusals (refusal_number e) ≡ true → (1 ≤ refusal_column e) × (refusal_column e ≤ max_line)
  pub nought : among column_refusals (refusal_number e) ≡ false → refusal_column e ≡ no_column

-- a file's bytes bs read by a revision into lent numbers t
pub record ReadLeavesRest (rev : Revision) (bs : List ℕ) (t : List ℤ) : Type 0 where
  pub refused : (e : Refusal) (i : ℕ) → read_answer rev bs t ≡ refused_at e i
      → (read_leaves rev bs t ≡ t) × (among read_refusals (refusal_number e) ≡ true) × (i ≤ max_lines + 1)
  pub column_only : (e : Refusal) (i : ℕ) → read_answer rev bs t ≡ refused_at e i → ColumnOnly e
  pub inside : (n : ℕ) → read_answer rev bs t ≡ Ok n → (n ≤ max_lines) × (row_width * n ≤ length t)
  pub beyond : (n : ℕ) → read_answer rev bs t ≡ Ok n → drop (row_width * n) (read_leaves rev bs t) ≡ drop (row_width * n) t
  pub as_many : length (read_leaves rev bs t) ≡ length t
  -- a refused file has no counts
  pub counts_are_none : (e : Refusal) (i : ℕ) → read_answer rev bs t ≡ refused_at e i → read_counts rev bs t ≡ no_counts

-- line k of a table of n rows in lent numbers t gets the text l; c are the counts handed in, the table's own or not
pub record EditLeavesRest (rev : Revision) (t : List ℤ) (n k : ℕ) (l : List ℕ) (c : Counts) : Type 0 where
  pub refused : (e : Refusal) (i : ℕ) → edit_answer rev t n k l c ≡ refused_at e i
      → (edit_leaves rev t n k l c ≡ t) × (among edit_refusals (refusal_number e) ≡ true) × OnLine (n + 1) (max_lines + 1) i
  pub column_only : (e : Refusal) (i : ℕ) → edit_answer rev t n k l c ≡ refused_at e i → ColumnOnly e
  pub inside : (m : ℕ) → edit_answer rev t n k l c ≡ Ok m → (1 ≤ k) × (k ≤ m) × (m ≤ n) × (n ≤ max_lines) × (row_width * n ≤ length t)
  pub before : (m : ℕ) → edit_answer rev t n k l c ≡ Ok m
      → take (row_width * (k - 1)) (edit_leaves rev t n k l c) ≡ take (row_width * (k - 1)) t
  pub after : (m : ℕ) → edit_answer rev t n k l c ≡ Ok m → drop (row_width * m) (edit_leaves rev t n k l c) ≡ drop (row_width * m) t
  pub as_many : length (edit_leaves rev t n k l c) ≡ length t
  pub counts_kept : (e : Refusal) (i : ℕ) → edit_answer rev t n k l c ≡ refused_at e i → edit_counts rev t n k l c ≡ c

-- a table of n rows in numbers t written into lent bytes b
pub record WriteLeavesRest (t : List ℤ) (n : ℕ) (b : List ℕ) : Type 0 where
  pub refused : (e : Refusal) (i : ℕ) → write_answer t n b ≡ refused_at e i
      → (write_leaves t n b ≡ b) × (among write_refusals (refusal_number e) ≡ true) × OnLine n max_lines i × (refusal_column e ≡ no_column)
  pub inside : (m : ℕ) → write_answer t n b ≡ Ok m → (m ≤ length b) × (m ≤ longest_line * n) × (n ≤ max_lines)
  pub beyond : (m : ℕ) → write_answer t n b ≡ Ok m → drop m (write_leaves t n b) ≡ drop m b
  pub as_many : length (write_leaves t n b) ≡ length b

pub record Demand1 : Type 0 where
  pub read : (rev : Revision) (bs : List ℕ) (t : List ℤ) → ReadLeavesRest rev bs t
  pub edit : (rev : Revision) (t : List ℤ) (n k : ℕ) (l : List ℕ) (c : Counts) → EditLeavesRest rev t n k l c
  pub write : (t : List ℤ) (n : ℕ) (b : List ℕ) → WriteLeavesRest t n b
  pub hole : (t : List ℤ) (n k : ℕ) (e : Refusal) (i : ℕ) → hole_answer t n k ≡ refused_at e i
      → (among hole_refusals (refusal_number e) ≡ true) × OnLine n max_lines i × (refusal_column e ≡ no_column)
  pub diameter : (t : List ℤ) (n tool : ℕ) (e : Refusal) (i : ℕ) → diameter_answer t n tool ≡ refused_at e i
      → (among diameter_refusals (refusal_number e) ≡ true) × OnLine n max_lines i × (refusal_column e ≡ no_column)
  pub hits : (c : Counts) (tool : ℕ) (e : Refusal) (i : ℕ) → hits_answer c tool ≡ refused_at e i
      → (among count_refusals (refusal_number e) ≡ true) × (i ≡ 0) × (refusal_column e ≡ no_column)
  pub routs : (c : Counts) (tool : ℕ) (e : Refusal) (i : ℕ) → routs_answer c tool ≡ refused_at e i
      → (among count_refusals (refusal_number e) ≡ true) × (i ≡ 0) × (refusal_column e ≡ no_column)
