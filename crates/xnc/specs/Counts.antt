-- The counts in a lent block: the hits of tools 1 to 99, then their routs. A block under 198 numbers is 15 at line 0, after every
-- refusal that does not look into it, and then nothing lent changes.
use Rattle.rules.specs.Results.{Answer, refused_at}
use Rattle.std.specs.Prelude.{◌≡◌, Bool, cond, List, ◌++◌, ℕ, leb, ℤ, length, take, drop, Ok, Err}
use Rattle.lists.specs.Put.{put_at}
use Rattle.rules.specs.declared.Revision.{Revision}
use Rattle.rules.specs.declared.Counts.{Counts}
use Rattle.rules.specs.Refusals.{no_room}
use Rattle.rules.specs.Numbers.{max_tool}
use Rattle.rules.specs.Reading.{read_answer, read_leaves}
use Rattle.rules.specs.Counting.{read_counts}
use Rattle.rules.specs.Editing.{meeting_answer, edit_answer, edit_leaves, edit_counts}
use Rattle.xnc.specs.Door.{revision_of, packed}

abbrev pub counts_width : ℕ
counts_width = 198

abbrev pub counts_numbers : Counts → List ℕ
counts_numbers c = c.hits ++ c.routs

abbrev pub counts_in : List ℕ → Counts
counts_in b = record { hits = take max_tool b; routs = take max_tool (drop max_tool b) }

abbrev pub has_block : List ℕ → Bool
has_block b = leb counts_width (length b)

-- the answer to a call whose block is too short: a is that of the tests which do not look into it
abbrev pub no_block : Answer → Answer
no_block (Ok n) = refused_at no_room 0
no_block (Err r) = refused_at r.refusal r.line

-- a call whose tests do not look into the block
abbrev pub last_block : List ℕ → Answer → Answer
last_block b a = cond (has_block b) a (no_block a)

-- the counts, put first on success
abbrev pub counts_left : Answer → List ℕ → Counts → List ℕ
counts_left (Ok n) b c = put_at b 0 (counts_numbers c)
counts_left (Err r) b c = b

-- how many of so many lent numbers reading may write, with so many for the counts
abbrev pub room_for : ℕ → ℕ → ℕ
room_for numbers counts = cond (leb counts_width counts) numbers 0

-- ---- reading

unfoldable pub read_there : Revision → List ℕ → List ℤ → List ℕ → Answer
read_there rev bs t b = last_block b (read_answer rev bs t)

unfoldable pub read_there_leaves : Revision → List ℕ → List ℤ → List ℕ → List ℤ
read_there_leaves rev bs t b = cond (has_block b) (read_leaves rev bs t) t

pub record ReadDoor (revision : ℕ) (bs : List ℕ) (t : List ℤ) (b : List ℕ) (r : ℕ) (t' : List ℤ) (b' : List ℕ) : Type 0 where
  pub answer : r ≡ packed (read_there (revision_of revision) bs t b)
  pub table : t' ≡ read_there_leaves (revision_of revision) bs t b
  pub counts : b' ≡ counts_left (read_there (revision_of revision) bs t b) b (read_counts (revision_of revision) bs t)

-- ---- editing: where there is no block, no counts are looked at

unfoldable pub edit_there : Revision → List ℤ → ℕ → ℕ → List ℕ → List ℕ → Answer
edit_there rev t n k l b = cond (has_block b) (edit_answer rev t n k l (counts_in b)) (no_block (meeting_answer rev t n k l))

unfoldable pub edit_there_leaves : Revision → List ℤ → ℕ → ℕ → List ℕ → List ℕ → List ℤ
edit_there_leaves rev t n k l b = cond (has_block b) (edit_leaves rev t n k l (counts_in b)) t

pub record EditDoor (t : List ℤ) (n k : ℕ) (l : List ℕ) (revision : ℕ) (b : List ℕ) (r : ℕ) (t' : List ℤ) (b' : List ℕ) : Type 0 where
  pub answer : r ≡ packed (edit_there (revision_of revision) t n k l b)
  pub table : t' ≡ edit_there_leaves (revision_of revision) t n k l b
  pub counts : b' ≡ counts_left (edit_there (revision_of revision) t n k l b) b (edit_counts (revision_of revision) t n k l (counts_in b))
