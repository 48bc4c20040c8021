-- Document 01, "The answers", read: the verdict on a file's bytes, and the lent numbers afterwards. The caller chooses the revision.
use Rattle.std.specs.Prelude.{Bool, cond, List, ℕ, ◌-◌, ◌/◌, leb, ℤ, length, get_or, Ok}
use Rattle.lists.specs.Put.{put_at}
use Rattle.runs.specs.Machine.{Out, Verdict, refused, on_verdict, run}
use Rattle.runs.specs.Machine as M
use Rattle.runs.specs.Agreement.{state_after}
use Rattle.rules.specs.declared.Command.{Command}
use Rattle.rules.specs.declared.Command.TheVariants.{Comment}
use Rattle.rules.specs.declared.State.{State}
use Rattle.rules.specs.declared.Refusal.{Refusal}
use Rattle.rules.specs.declared.Revision.{Revision}
use Rattle.rules.specs.declared.LineAnswer.{LineAnswer}
use Rattle.rules.specs.Results.{out_of, Answer, refused_at}
use Rattle.rules.specs.Refusals.{file_too_long, too_many_lines, line_not_ended, ends_too_soon, no_room}
use Rattle.rules.specs.Numbers.{max_file, max_lines}
use Rattle.rules.specs.Lines.{Line, lines_of, text_of}
use Rattle.rules.specs.Commands.{says_no, line_of}
use Rattle.rules.specs.State.{start, taken, has_ended}
use Rattle.rules.specs.Rows.{row_width, table_numbers}

abbrev pub say_out : LineAnswer → Out Command Refusal
say_out a = out_of a.command

-- line i of a file: 2 before anything else about it, then 3, then the line's own
unfoldable pub answer_in : Revision → ℕ → Line → LineAnswer
answer_in rev i l = cond (leb i max_lines) (cond l.ended (line_of rev (text_of l.bytes)) (says_no line_not_ended)) (says_no too_many_lines)

unfoldable pub command_in : Revision → ℕ → Line → Out Command Refusal
command_in rev i l = say_out (answer_in rev i l)

abbrev pub Rows : Type 0
Rows = List (M.Row Command State)

-- line k's row, and the state before it; lines count from 1. Where there is no such line, it is a row like any other.
abbrev pub no_row : M.Row Command State
no_row = record { command = Comment; state = start }

abbrev pub row_of : Rows → ℕ → M.Row Command State
row_of rs k = get_or rs (k - 1) no_row

abbrev pub state_before : Rows → ℕ → State
state_before rs k = state_after start rs (k - 1)

-- lines after i others, from state p, and their rows
abbrev pub run_from : Revision → State → List Line → ℕ → Verdict Rows Refusal
run_from rev p ls i = run (command_in rev) taken has_ended ends_too_soon p ls i

-- the lines of a file, and the rows of its table
unfoldable pub run_of : Revision → List Line → Verdict Rows Refusal
run_of rev ls = run_from rev start ls 0

unfoldable pub file_of : Revision → List ℕ → Verdict Rows Refusal
file_of rev bs = cond (leb (length bs) max_file) (run_of rev (lines_of bs)) (refused file_too_long 0)

-- last, the room: n rows in lent numbers
unfoldable pub has_room : List ℤ → ℕ → Bool
has_room t n = leb n (length t / row_width)

abbrev pub in_room : List ℤ → Rows → Answer
in_room t rs = cond (has_room t (length rs)) (Ok (length rs)) (refused_at no_room 0)

unfoldable pub read_answer : Revision → List ℕ → List ℤ → Answer
read_answer rev bs t = on_verdict (file_of rev bs) refused_at (in_room t)

-- the lent numbers afterwards: the rows from the first on, and all beyond as it was; on refusal as they were
abbrev pub with_rows : List ℤ → Rows → List ℤ
with_rows t rs = cond (has_room t (length rs)) (put_at t 0 (table_numbers rs)) t

unfoldable pub read_leaves : Revision → List ℕ → List ℤ → List ℤ
read_leaves rev bs t = on_verdict (file_of rev bs) (λ e i. t) (with_rows t)
