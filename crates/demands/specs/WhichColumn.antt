-- Document 02, #106: which column. A line's refusal is one, its column included, and is given exactly when (LineRefused, which no reader is
-- in). That a column comes with 4 and 7 alone, and lies in the line, is demand 1's (column_only).
use Rattle.std.specs.Prelude.{◌≡◌, List, ◌∷◌, ◌++◌, ℕ}
use Rattle.lists.specs.Exactly.{Exactly}
use Rattle.lists.specs.Words.{bytes}
use Rattle.runs.specs.Machine.{stops}
use Rattle.rules.specs.declared.Refusal.{Refusal}
use Rattle.rules.specs.declared.Revision.{Revision}
use Rattle.rules.specs.declared.Revision.TheVariants.{Rev2021}
use Rattle.rules.specs.Results.{refused_at}
use Rattle.rules.specs.Refusals.{forbidden_byte, no_such_form, out_of_range}
use Rattle.rules.specs.Lines.{CR}
use Rattle.rules.specs.Commands.{says_no, line_of}
use Rattle.rules.specs.Reading.{say_out}
use Rattle.rules.specs.Editing.{edit_answer}
use Rattle.rules.specs.Bench.{bench_counts, bench_table}
use Rattle.obeys.specs.Faults.{LineRefused}

-- computed on the definitions
pub record ColumnLines : Type 0 where
  -- document 02's own, alone and as an edit of the bench file
  pub own : line_of Rev2021 (bytes "G03X6.0Y1600A1.0") ≡ says_no (out_of_range 9)
  pub own_edit : edit_answer Rev2021 bench_table 15 13 (bytes "G03X6.0Y1600A1.0") bench_counts ≡ refused_at (out_of_range 9) 13
  -- the leftmost of those out of range
  pub first : line_of Rev2021 (bytes "G03X1000Y1600A0") ≡ says_no (out_of_range 5)
  pub third : line_of Rev2021 (bytes "G03X6.0Y1.6A1000") ≡ says_no (out_of_range 13)
  pub sign : line_of Rev2021 (bytes "X1Y-1000") ≡ says_no (out_of_range 4)
  pub seven_decimals : line_of Rev2021 (bytes "X1Y1.0000000") ≡ says_no (out_of_range 4)
  pub tool : line_of Rev2021 (bytes "T00") ≡ says_no (out_of_range 2)
  pub declared_tool : line_of Rev2021 (bytes "T00C0") ≡ says_no (out_of_range 2)
  pub diameter : line_of Rev2021 (bytes "T01C0") ≡ says_no (out_of_range 5)
  -- the first forbidden byte, also behind a number out of range
  pub tab : line_of Rev2021 (bytes "X1000\tY2\t") ≡ says_no (forbidden_byte 6)
  pub inner_cr : line_of Rev2021 (bytes "X1" ++ (CR ∷ bytes "Y2")) ≡ says_no (forbidden_byte 3)
  -- no form: no column
  pub formless : line_of Rev2021 (bytes "X1000Y") ≡ says_no no_such_form

pub record WhichColumn : Type 0 where
  pub refused : (rev : Revision) (l : List ℕ) (e : Refusal) → Exactly (say_out (line_of rev l) ≡ stops e) (LineRefused rev l e)
  pub one_refusal : (rev : Revision) (l : List ℕ) (e f : Refusal) → LineRefused rev l e → LineRefused rev l f → e ≡ f
  pub lines : ColumnLines
