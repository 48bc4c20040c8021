-- Document 01, "The bench file": its bytes, its print-out, its table's text, and the edits of its proved set.
use Rattle.std.specs.Prelude.{List, [], ◌∷◌, ℕ, zero, suc, ◌*◌, ℤ, pos, Ok}
use Rattle.lists.specs.Words.{bytes}
use Rattle.runs.specs.Machine.{on_verdict}
use Rattle.rules.specs.declared.Revision.TheVariants.{Rev2021}
use Rattle.rules.specs.declared.Counts.{Counts}
use Rattle.rules.specs.Results.{Answer, refused_at}
use Rattle.rules.specs.Refusals.{ends_too_soon, impossible_arc, not_declared, wrong_motion, wrong_phase}
use Rattle.rules.specs.Rows.{row_width}
use Rattle.rules.specs.Reading.{Rows, file_of, read_leaves}
use Rattle.rules.specs.Counting.{read_counts}
use Rattle.rules.specs.Editing.{edit_answer}

abbrev pub bench_file : List ℕ
bench_file =
    bytes "M48\nMETRIC\nT01C0.5\nT07C1.25\n%\nG05\nT1\nX2Y-3.5\nT07\nG00X0Y0\nM15\nG01X4Y0\nG03X6Y2A2\nM16\nM30\n"

abbrev pub bench_print : List ℕ
bench_print =
    bytes "unit\tMETRIC\ntool\t1\t500000\ntool\t7\t1250000\n8\tH\t1\t2000000\t-3500000\t2000000\t-3500000\t0\n12\tL\t7\t0\t0\t4000000\t0\t0\n13\tA\t7\t4000000\t0\t6000000\t2000000\t2000000\nholes\t3\n"

-- its table, written
abbrev pub bench_written : List ℕ
bench_written =
    bytes "M48\nMETRIC\nT01C0.5\nT07C1.25\n%\nG05\nT01\nX2Y-3.5\nT07\nG00X0Y0\nM15\nG01X4Y0\nG03X6Y2A2\nM16\nM30\n"

-- lent numbers, all 0
unfoldable pub zeros : ℕ → List ℤ
zeros zero = []
zeros (suc n) = pos 0 ∷ zeros n

-- the bench file read into room for its fifteen rows
unfoldable pub bench_table : List ℤ
bench_table = read_leaves Rev2021 bench_file (zeros (row_width * 15))

-- its rows
unfoldable pub bench_rows : Rows
bench_rows = on_verdict (file_of Rev2021 bench_file) (λ e i. []) (λ rs. rs)

-- its counts, of tools 1 to 99: one hit of tool 1, two routs of tool 7
unfoldable pub bench_counts : Counts
bench_counts = read_counts Rev2021 bench_file (zeros (row_width * 15))

-- an edit of the bench file: line, new text, answer
pub record Case : Type 0 where
  pub line : ℕ
  pub text : List ℕ
  pub answer : Answer

abbrev case : ℕ → List ℕ → Answer → Case
case k l a = record { line = k; text = l; answer = a }

-- a to l
abbrev pub cases : List Case
cases =
    case 3 (bytes "T01C0.6") (Ok 3)
    ∷ case 3 (bytes "T02C0.5") (refused_at not_declared 7)
    ∷ case 2 (bytes "INCH") (Ok 15)
    ∷ case 6 (bytes ";") (refused_at wrong_motion 8)
    ∷ case 8 (bytes "X2Y3") (Ok 8)
    ∷ case 9 (bytes ";") (Ok 15)
    ∷ case 12 (bytes "G01X4Y1") (Ok 13)
    ∷ case 13 (bytes "G03X8Y0A2") (Ok 15)
    ∷ case 13 (bytes "G03X8Y0A1.9") (refused_at impossible_arc 13)
    ∷ case 15 (bytes ";") (refused_at ends_too_soon 16)
    ∷ case 11 (bytes "M30") (refused_at wrong_phase 12)
    ∷ case 12 (bytes "G01X4Y0") (Ok 12)
    ∷ []

-- what document 01 answers, and what the definition answers
unfoldable pub expected : List Case → List Answer
expected [] = []
expected (c ∷ cs) = c.answer ∷ expected cs

unfoldable pub answered : List Case → List Answer
answered [] = []
answered (c ∷ cs) = edit_answer Rev2021 bench_table 15 c.line c.text bench_counts ∷ answered cs
