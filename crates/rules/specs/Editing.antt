-- Document 01, "The answers", edit: line k of a table of n rows gets the bytes l. For every table, good or not. The caller chooses the
-- revision by which the new line is read; a table has none. By document 02's #103 the caller hands in the counts, c.
use Rattle.std.specs.Prelude.{Bool, true, not, ◌&&◌, cond, List, [], ◌∷◌, ℕ, ◌-◌, ◌*◌, leb, eqb, ℤ, length, get_or, take, drop, Option, Some, None, Ok}
use Rattle.lists.specs.Put.{put_at}
use Rattle.runs.specs.Machine.{on_out, Verdict, accepted, refused, on_verdict, Entry, holds, bad, whole_rows, Span, rerun}
use Rattle.rules.specs.declared.Command.{Command}
use Rattle.rules.specs.declared.State.{State}
use Rattle.rules.specs.declared.Refusal.{Refusal}
use Rattle.rules.specs.declared.Revision.{Revision}
use Rattle.rules.specs.declared.Counts.{Counts}
use Rattle.rules.specs.Results.{Answer, refused_at}
use Rattle.rules.specs.Refusals.{ends_too_soon, no_such_line, holds_line_end, bad_table}
use Rattle.rules.specs.Lines.{LF, CR}
use Rattle.rules.specs.Commands.{line_of}
use Rattle.rules.specs.State.{start, taken, has_ended, same_state}
use Rattle.rules.specs.Rows.{row_width, entries_of, sizes_fit, table_numbers}
use Rattle.rules.specs.Reading.{Rows, say_out}
use Rattle.rules.specs.Counting.{counts_fit, counts_after}

-- a line number from 1 to n
unfoldable pub is_line : ℕ → ℕ → Bool
is_line n k = leb 1 k && leb k n

-- the new line holds no line end
unfoldable pub no_line_end : List ℕ → Bool
no_line_end [] = true
no_line_end (b ∷ l) = not (eqb b LF) && (not (eqb b CR) && no_line_end l)

-- row k as it is found; rows count from 1
abbrev pub entry_at : List (Entry Command State) → ℕ → Entry Command State
entry_at es k = get_or es (k - 1) bad

-- the state that a row leaves, as the row is found
abbrev pub state_in : Entry Command State → Option State
state_in (holds r) = Some r.state
state_in bad = None

-- the state before line k, given the row before it as that is found; before line 1 it is the start
unfoldable pub before_line : ℕ → Entry Command State → Option State
before_line k e = cond (leb k 1) (Some start) (state_in e)

abbrev pub on_before {ℓ} : {A : Type ℓ} → Option State → A → (State → A) → A
on_before (Some p) z f = f p
on_before None z f = z

-- rows after i others, rerun from state p
abbrev pub rerun_from : State → List (Entry Command State) → ℕ → Verdict (Span Command State) Refusal
rerun_from p es i = rerun taken same_state has_ended bad_table ends_too_soon p es i

-- From the state p before it, line k, whose old row left the state o, gets the command c: it is taken in place of the
-- old one, and the rows after it are rerun up to the meeting line.
unfoldable pub edit_from : List (Entry Command State) → ℕ → State → State → Command → Verdict (Span Command State) Refusal
edit_from es k p o c = rerun_from p (holds (record { command = c; state = o }) ∷ drop k es) (k - 1)

-- the row before, the old row, then the new line from 6 on
unfoldable pub edit_rows : Revision → List (Entry Command State) → ℕ → List ℕ → Verdict (Span Command State) Refusal
edit_rows rev es k l =
    on_before (before_line k (entry_at es (k - 1))) (refused bad_table (k - 1))
    (λ p. on_before (state_in (entry_at es k)) (refused bad_table k)
    (λ o. on_out (say_out (line_of rev l)) (λ e. refused e k) (λ c. edit_from es k p o c)))

unfoldable pub edit_of : Revision → List ℤ → ℕ → ℕ → List ℕ → Verdict (Span Command State) Refusal
edit_of rev t n k l =
    cond (sizes_fit t n)
    (cond (is_line n k) (cond (no_line_end l) (edit_rows rev (entries_of n t) k l) (refused holds_line_end 0)) (refused no_such_line 0))
    (refused bad_table 0)

-- the meeting line, or the refusal and its line
abbrev pub meeting_of : Verdict (Span Command State) Refusal → Answer
meeting_of (accepted s) = Ok s.meeting
meeting_of (refused e i) = refused_at e i

-- where the edit would meet, whatever the counts: a question, which changes nothing
unfoldable pub meeting_answer : Revision → List ℤ → ℕ → ℕ → List ℕ → Answer
meeting_answer rev t n k l = meeting_of (edit_of rev t n k l)

-- ---- the counts, after all other refusals

-- the rows in whose place those of the span come: each was tested, and is whole
unfoldable pub old_rows : List (Entry Command State) → ℕ → Span Command State → Rows
old_rows es k s = whole_rows (take (length s.rows) (drop (k - 1) es))

-- 18 at line 0 where a count is over 1,000, or under what the span takes from it
unfoldable pub edit_counted : Revision → List ℤ → ℕ → ℕ → List ℕ → Counts → Verdict (Span Command State) Refusal
edit_counted rev t n k l c =
    on_verdict (edit_of rev t n k l) refused (λ s. cond (counts_fit (old_rows (entries_of n t) k s) c) (accepted s) (refused bad_table 0))

unfoldable pub edit_answer : Revision → List ℤ → ℕ → ℕ → List ℕ → Counts → Answer
edit_answer rev t n k l c = meeting_of (edit_counted rev t n k l c)

-- the lent numbers afterwards: the rows of the span new, all else as it was; on refusal as they were
abbrev pub leaves_of : List ℤ → ℕ → Verdict (Span Command State) Refusal → List ℤ
leaves_of t k (accepted s) = put_at t (row_width * (k - 1)) (table_numbers s.rows)
leaves_of t k (refused e i) = t

unfoldable pub edit_leaves : Revision → List ℤ → ℕ → ℕ → List ℕ → Counts → List ℤ
edit_leaves rev t n k l c = leaves_of t k (edit_counted rev t n k l c)

-- the counts afterwards: without the old rows' holes, and with the new ones'; on refusal as they were
unfoldable pub edit_counts : Revision → List ℤ → ℕ → ℕ → List ℕ → Counts → Counts
edit_counts rev t n k l c =
    on_verdict (edit_counted rev t n k l c) (λ e i. c) (λ s. counts_after (old_rows (entries_of n t) k s) s.rows c)
