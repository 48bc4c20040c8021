-- Demand 2, writing: a good table is written as a file that obeys by each revision, of short lines, and it reads back by each to the
-- table's rows without their comments; these, written again, have the same bytes.
use Rattle.std.specs.Prelude.{◌≡◌, true, List, [], ◌∷◌, ℕ, ◌+◌, ◌*◌, ◌≤◌, ℤ, length, take, Ok}
use Rattle.lists.specs.Put.{put_at}
use Rattle.rules.specs.declared.Revision.{Revision}
use Rattle.rules.specs.Lines.{Line, lines_of}
use Rattle.rules.specs.Rows.{row_width, table_numbers, Good}
use Rattle.rules.specs.Reading.{Rows, read_answer, read_leaves}
use Rattle.rules.specs.Obeys.{Obeys}
use Rattle.rules.specs.Writing.{longest_line, text_of_rows, write_answer, write_leaves}
use Rattle.round.specs.Comments.{without_comments}

-- every line is ended, and with its LF no longer than the longest
abbrev pub ShortLines : List Line → Type 0
ShortLines [] = Unit {0}
ShortLines (l ∷ ls) = (l.ended ≡ true) × (length l.bytes + 1 ≤ longest_line) × ShortLines ls

-- a table of n rows in numbers t is written as the text x into bytes with room for it
pub record Writes (t : List ℤ) (n : ℕ) (x b : List ℕ) : Type 0 where
  pub answer : write_answer t n b ≡ Ok (length x)
  pub text : write_leaves t n b ≡ put_at b 0 x
  pub found : take (length x) (write_leaves t n b) ≡ x

-- the text of the rows rs, read by a revision into lent numbers u with room for those that are no comments
pub record ReadsBack (rev : Revision) (rs : Rows) (u : List ℤ) : Type 0 where
  pub answer : read_answer rev (text_of_rows rs) u ≡ Ok (length (without_comments rs))
  pub table : read_leaves rev (text_of_rows rs) u ≡ put_at u 0 (table_numbers (without_comments rs))
  pub good : Good (read_leaves rev (text_of_rows rs) u) (length (without_comments rs)) (without_comments rs)
  pub same_bytes : (b : List ℕ) → length (text_of_rows rs) ≤ length b
      → Writes (read_leaves rev (text_of_rows rs) u) (length (without_comments rs)) (text_of_rows rs) b

pub record WritesBack (t : List ℤ) (n : ℕ) (rs : Rows) : Type 0 where
  pub writes : (b : List ℕ) → length (text_of_rows rs) ≤ length b → Writes t n (text_of_rows rs) b
  pub obeys : (rev : Revision) → Obeys rev (text_of_rows rs)
  pub short_lines : ShortLines (lines_of (text_of_rows rs))
  pub room : length (text_of_rows rs) ≤ longest_line * n
  pub reads_back : (rev : Revision) (u : List ℤ) → row_width * length (without_comments rs) ≤ length u → ReadsBack rev rs u
