-- What a print-out of a file leaves: its bytes in the lent text, and the table that reading fills.
use Rattle.std.specs.Prelude.{◌≡◌, Bool, ◌&&◌, cond, List, ℕ, ◌≤◌, leb, ℤ, length}
use Rattle.lists.specs.Put.{put_at}
use Rattle.rules.specs.declared.Revision.{Revision}
use Rattle.rules.specs.Rows.{table_room}
use Rattle.rules.specs.Reading.{read_leaves}

-- bytes for every print-out
abbrev pub text_room : ℕ
text_room = 98304

-- numbers for the longest table, and bytes for the longest print-out
unfoldable pub blocks_fit : List ℤ → List ℕ → Bool
blocks_fit table text = leb table_room (length table) && leb text_room (length text)

-- x is the print-out
pub record Reports (x : List ℕ) (rev : Revision) (file : List ℕ) (table : List ℤ) (text : List ℕ) (r : ℕ) (table' : List ℤ) (text' : List ℕ) : Type 0 where
  pub bytes : text' ≡ cond (blocks_fit table text) (put_at text 0 x) text
  pub count : r ≡ cond (blocks_fit table text) (length x) 0
  pub numbers : table' ≡ cond (blocks_fit table text) (read_leaves rev file table) table
  pub inside : r ≤ length text
