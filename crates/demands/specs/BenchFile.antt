-- Document 01's cases, computed on the definitions, by the 2021 revision: the bench file is accepted, printed and written as given,
-- and its edits a to l are answered as given, as one table; after f both routs are tool 1's.
use Rattle.std.specs.Prelude.{◌≡◌, List, [], ◌∷◌, ℕ, ◌*◌, pos, Some, Ok}
use Rattle.lists.specs.Words.{bytes}
use Rattle.points.specs.declared.Point.{Point}
use Rattle.rules.specs.declared.Revision.TheVariants.{Rev2021}
use Rattle.rules.specs.declared.Counts.{Counts}
use Rattle.rules.specs.Results.{HoleAnswer}
use Rattle.rules.specs.Kinds.{g01, g03}
use Rattle.rules.specs.Rows.{row_width, Good}
use Rattle.rules.specs.Reading.{read_answer}
use Rattle.rules.specs.Counting.{of_tool}
use Rattle.rules.specs.Editing.{edit_leaves, edit_counts}
use Rattle.rules.specs.Asking.{hole_answer}
use Rattle.rules.specs.Writing.{text_of_rows}
use Rattle.rules.specs.Printing.{printed, counts_printed}
use Rattle.rules.specs.Bench.{bench_file, bench_print, bench_written, zeros, bench_table, bench_rows, bench_counts, cases, expected, answered}

-- a line's hole after edit f
abbrev pub after_f : ℕ → HoleAnswer
after_f k = hole_answer (edit_leaves Rev2021 bench_table 15 9 (bytes ";") bench_counts) 15 k

-- the hits and routs of tool 1, and those of tool 7
abbrev pub counts_said : Counts → List ℕ
counts_said c = of_tool c.hits 1 ∷ of_tool c.routs 1 ∷ of_tool c.hits 7 ∷ of_tool c.routs 7 ∷ []

-- a point of whole units
abbrev pub whole : ℕ → ℕ → Point
whole x y = record { x = pos (x * 1000000); y = pos (y * 1000000) }

pub record BenchFile : Type 0 where
  pub accepted : read_answer Rev2021 bench_file (zeros (row_width * 15)) ≡ Ok 15
  pub good : Good bench_table 15 bench_rows
  pub print_out : printed Rev2021 bench_file ≡ bench_print
  pub written : text_of_rows bench_rows ≡ bench_written
  pub edits : answered cases ≡ expected cases
  pub line_12_after_f : after_f 12 ≡ Ok (Some (record { kind = g01; tool = 1; start = whole 0 0; end = whole 4 0; radius = 0 }))
  -- one hit of tool 1, two routs of tool 7; after f the routs are tool 1's
  pub counts : counts_said bench_counts ≡ (1 ∷ 0 ∷ 0 ∷ 2 ∷ [])
  pub counts_after_f : counts_said (edit_counts Rev2021 bench_table 15 9 (bytes ";") bench_counts) ≡ (1 ∷ 2 ∷ 0 ∷ 0 ∷ [])
  pub counts_print : counts_printed Rev2021 bench_file ≡ bytes "1\t500000\t1\t0\n7\t1250000\t0\t2\n"
  pub line_13_after_f : after_f 13 ≡ Ok (Some (record { kind = g03; tool = 1; start = whole 4 0; end = whole 6 2; radius = 2000000 }))
