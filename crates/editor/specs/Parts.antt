-- For contracts of private functions alone: the rows that an edit writes, and what is told of a verdict.
use Rattle.std.specs.Prelude.{Result, Ok, Err, ◌≡◌, cond, List, [], ◌∷◌, ℕ, ◌+◌, ◌-◌, ◌*◌, ◌≤◌, ltb, ℤ, length, drop}
use Rattle.lists.specs.Put.{put_at}
use Rattle.runs.specs.Machine.{on_out, Verdict, accepted, refused, Entry, holds, bad, Span, widen}
use Rattle.rules.specs.declared.Command.{Command}
use Rattle.rules.specs.declared.State.{State}
use Rattle.rules.specs.declared.Refusal.{Refusal}
use Rattle.rules.specs.Numbers.{max_lines}
use Rattle.rules.specs.State.{taken, same_state}
use Rattle.rules.specs.Reading.{Rows}
use Rattle.rules.specs.Rows.{row_width, entries_of, table_numbers}
use Rattle.rules.specs.Ranges.{CommandOk, StateOk}
use Rattle.rules.specs.Editing.{rerun_from}
use Rattle.rules.specs.declared.Refused.{Refused}
use Rattle.rules.specs.declared.Counts.{Counts}
use Rattle.rules.specs.declared.Counted.{Counted}
use Rattle.editor.specs.declared.Change.{Change}

abbrev pub Entries : Type 0
Entries = List (Entry Command State)

-- the rows that stand up to the meeting line, or up to a refusal
unfoldable pub rows_to_meet : State → Entries → Rows
rows_to_meet p [] = []
rows_to_meet p (bad ∷ es) = []
rows_to_meet p (holds r ∷ es) =
    on_out (taken p r.command) (λ e. [])
    (λ q. record { command = r.command; state = q } ∷ cond (same_state q r.state) [] (rows_to_meet q es))

-- the rows after i others, of a table of n, written from state p on up to the meeting line
unfoldable pub span_written : List ℤ → ℕ → ℕ → State → List ℤ
span_written t n i p = put_at t (row_width * i) (table_numbers (rows_to_meet p (drop i (entries_of n t))))

-- line k takes the command c, which leaves the state q, in the place of one that left o
abbrev pub edited_to : Entries → ℕ → Command → State → State → Verdict (Span Command State) Refusal
edited_to es k c q o =
    cond (same_state q o) (accepted (record { meeting = k; rows = record { command = c; state = q } ∷ [] }))
    (widen (record { command = c; state = q }) (rerun_from q (drop k es) k))

-- the rows from line k to its meeting line m, the first of which has the command c and leaves the state q
abbrev pub new_rows : Entries → ℕ → ℕ → Command → State → Rows
new_rows es k m c q = record { command = c; state = q } ∷ cond (ltb k m) (rows_to_meet q (drop k es)) []

-- line k of n
pub record LineFound (t : List ℤ) (n k : ℕ) : Type 0 where
  pub room : row_width * n ≤ length t
  pub few : n ≤ max_lines
  pub from : 1 ≤ k
  pub upto : k ≤ n

-- an accepted edit of line k, which meets at line m
pub record Met (t : List ℤ) (n k : ℕ) (v : Verdict (Span Command State) Refusal) (m : ℕ) (c : Command) (q : State) : Type 0 where
  pub span : Span Command State
  pub verdict : v ≡ accepted span
  pub meets : span.meeting ≡ m
  pub rows : span.rows ≡ new_rows (entries_of n t) k m c q
  pub counted : m ≡ k - 1 + length span.rows
  pub found : LineFound t n k
  pub later : k ≤ m
  pub upto : m ≤ n
  pub command_ok : CommandOk c
  pub state_ok : StateOk q

-- what is told of a verdict on an edit of line k
abbrev pub Asks : List ℤ → ℕ → ℕ → Verdict (Span Command State) Refusal → Result Change Refused → Type 0
Asks t n k v (Ok c) = Met t n k v c.meeting c.row.command c.row.state
Asks t n k v (Err r) = v ≡ refused r.refusal r.line

-- a refused edit: the counts are as they were handed in
abbrev pub not_edited : Refused → Counts → Counted
not_edited r c = record { answer = Err r; counts = c }
