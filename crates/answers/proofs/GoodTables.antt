-- A good table and its rows: its numbers are theirs, each is in range, and they are as a file's are; and rows such as a
-- file has make a good table, whatever stands after them.
use mathlib.Core.Path.{◌≡◌}
use mathlib.Core.Bool.{true, false≢true}
use mathlib.Core.List.{List, [], ◌∷◌, ◌++◌}
use Prim.Native.Nat.{ℕ, ◌*◌, ◌≤◌}
use native.Mathlib.Omega.{arith}
use lib.IntN.{ℤ}
use lib.ListN.{length, drop, length-append}
use Rattle.runs.specs.Machine.{accepted, last_of, Follows, StepBy}
use Rattle.runs.proofs.Chains.{chain_follows}
use Rattle.rules.specs.declared.Revision.{Revision}
use Rattle.rules.specs.Numbers.{max_lines}
use Rattle.rules.specs.State.{start, taken, has_ended}
use Rattle.rules.specs.Rows.{row_width, table_numbers, Good}
use Rattle.rules.specs.Reading.{Rows, file_of}
use Rattle.laws.proofs.Sizes.{sizes_fit_lem, sizes_say}
use Rattle.laws.proofs.InRange.{RowsOk}
use Rattle.laws.proofs.Entries.{table_length, entries_table, table_whole}
use Rattle.round.proofs.Files.{GoodRows}
use Rattle.answers.proofs.AcceptedFile.{file_accepts, file_few, file_ok}

-- ---- rows make a good table

-- what has ended has a line, since the start has not
some_rows : (rs : Rows) → has_ended (last_of start rs) ≡ true → 1 ≤ length rs
unfolding last_of
some_rows [] h = absurd (false≢true h)
some_rows (r ∷ rs) h = omega arith

pub rows_table : (rs : Rows) (rest : List ℤ) → RowsOk rs → length rs ≤ max_lines → Follows (StepBy taken) start 0 rs → has_ended (last_of start rs) ≡ true
    → Good (table_numbers rs ++ rest) (length rs) rs
rows_table rs rest ok few follows ends = record {
  fits = sizes_fit_lem (table_numbers rs ++ rest) (length rs)
      (record { some = some_rows rs ends; few = few; room = omega (arith, table_length rs, length-append (table_numbers rs) rest) });
  found = entries_table rs rest ok;
  follows = follows;
  ends = ends;
}

pub file_table : (rev : Revision) (bs : List ℕ) (rs : Rows) → file_of rev bs ≡ accepted rs → (rest : List ℤ) → Good (table_numbers rs ++ rest) (length rs) rs
file_table rev bs rs h rest =
    let a = file_accepts rev bs rs h in
    rows_table rs rest (file_ok rev bs rs h) (file_few rev bs rs h) (chain_follows a.reads) a.ends

-- ---- a good table's rows

pub record Whole (t : List ℤ) (n : ℕ) (rs : Rows) : Type 0 where
  pub numbers : t ≡ table_numbers rs ++ drop (row_width * n) t
  pub count : length rs ≡ n
  pub room : row_width * n ≤ length t
  pub rows : GoodRows rs

pub good_whole : (t : List ℤ) (n : ℕ) (rs : Rows) → Good t n rs → Whole t n rs
good_whole t n rs g =
    let z = sizes_say t n g.fits in
    let w = table_whole n t rs g.found z.room in
    record {
      numbers = w.0;
      count = w.2;
      room = z.room;
      rows = record { within_range = w.1; follows = g.follows; ends = g.ends; count = omega (arith, w.2, z.few) };
    }
