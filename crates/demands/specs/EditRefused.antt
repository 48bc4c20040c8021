-- An edit's refusals, given exactly when: document 01, "The answers", the table and edit; and last, by document 02's #103, that for
-- the counts handed in. For every table, good or not, and whatever counts.
use Rattle.std.specs.Prelude.{◌≡◌, List, [], ◌∷◌, ◌++◌, ℕ, ◌+◌, ◌-◌, ◌<◌, ◌≤◌, ℤ, length, take, drop, Ok}
use Rattle.lists.specs.Exactly.{Exactly}
use Rattle.runs.specs.Machine.{Row, Entry, holds, bad, all_hold, last_of}
use Rattle.runs.specs.Agreement.{Unmet}
use Rattle.rules.specs.declared.Command.{Command}
use Rattle.rules.specs.declared.State.{State}
use Rattle.rules.specs.declared.Refusal.{Refusal}
use Rattle.rules.specs.declared.Revision.{Revision}
use Rattle.rules.specs.declared.Way.{Way}
use Rattle.rules.specs.declared.Counts.{Counts}
use Rattle.rules.specs.Results.{refused_at}
use Rattle.rules.specs.Refusals.{ends_too_soon, no_such_line, holds_line_end, bad_table}
use Rattle.rules.specs.Numbers.{max_tool}
use Rattle.rules.specs.Lines.{LF, CR, NoByte}
use Rattle.rules.specs.State.{over}
use Rattle.rules.specs.Rows.{entries_of, Sizes}
use Rattle.rules.specs.Reading.{Rows}
use Rattle.rules.specs.Counting.{of_tool, hits, routs, how_many, max_count}
use Rattle.rules.specs.Editing.{meeting_answer, edit_answer}
use Rattle.rules.specs.Spelling.{SpellsLine}
use Rattle.rules.specs.Obeys.{Takes}
use Rattle.obeys.specs.Faults.{Untaken, LineRefused}
use Rattle.demands.specs.HoleRefused.{LineOfTable, found_at, StateBefore}

-- bytes without a line end
pub record NoLineEnd (l : List ℕ) : Type 0 where
  pub no_lf : NoByte LF l
  pub no_cr : NoByte CR l

-- line k may get the text l: the tests up to 17 are passed, and so are those of the row before, which leaves the state p,
-- and of the old row
pub record MayEdit (t : List ℤ) (n k : ℕ) (l : List ℕ) (p : State) (old : Row Command State) : Type 0 where
  pub line : LineOfTable t n k
  pub no_end : NoLineEnd l
  pub before : StateBefore t n k p
  pub row : found_at t n k ≡ holds old

-- the rows from line k on as they are found, with a new command in line k
abbrev pub rows_from : List ℤ → ℕ → ℕ → Command → Row Command State → List (Entry Command State)
rows_from t n k c old = holds (record { command = c; state = old.state }) ∷ drop k (entries_of n t)

-- what stops the edit in state s, at the first of the rows left: it fails its test; or its command may not come; or there is
-- none, and the run has not ended
pub data Stops (s : State) : List (Entry Command State) → Refusal → Type 0 where
  row_is_bad : {es : List (Entry Command State)} → Stops s (bad ∷ es) bad_table
  untaken : {r : Row Command State} {es : List (Entry Command State)} {e : Refusal}
      → Untaken s r.command e → Stops s (holds r ∷ es) e
  too_soon : (s.phase ≡ over → ⊥) → Stops s [] ends_too_soon

-- why line k does not get the text l, whatever the counts, and the line
pub data LineStays (rev : Revision) (t : List ℤ) (n k : ℕ) (l : List ℕ) : Refusal → ℕ → Type 0 where
  sizes : (Sizes t n → ⊥) → LineStays rev t n k l bad_table 0
  no_line : Sizes t n → (LineOfTable t n k → ⊥) → LineStays rev t n k l no_such_line 0
  line_end : LineOfTable t n k → (NoLineEnd l → ⊥) → LineStays rev t n k l holds_line_end 0
  row_before : LineOfTable t n k → NoLineEnd l → 1 < k → found_at t n (k - 1) ≡ bad → LineStays rev t n k l bad_table (k - 1)
  row_itself : {p : State} → LineOfTable t n k → NoLineEnd l → StateBefore t n k p → found_at t n k ≡ bad
      → LineStays rev t n k l bad_table k
  -- the new line, from 6 on
  new_line : {p : State} {old : Row Command State} {e : Refusal} → MayEdit t n k l p old → LineRefused rev l e → LineStays rev t n k l e k
  -- the new command, and the rows up to the meeting line: some are taken again without agreement, and the next one stops it
  rows : {p : State} {old : Row Command State} {c : Command} {past new : Rows} {left : List (Entry Command State)} {e : Refusal}
      → MayEdit t n k l p old → SpellsLine rev l c → rows_from t n k c old ≡ all_hold past ++ left
      → Unmet Takes p past new → Stops (last_of p new) left e
      → LineStays rev t n k l e (k + length new)

-- line k may get the text l, whatever the counts, and m is the meeting line: from line k on some rows are taken again without
-- agreement, and at the next one old and new states agree; or there is none, and the run has ended
pub data Meets (rev : Revision) (t : List ℤ) (n k : ℕ) (l : List ℕ) : ℕ → Type 0 where
  agree : {p : State} {old : Row Command State} {c : Command} {past new : Rows} {r : Row Command State}
      (left : List (Entry Command State)) → MayEdit t n k l p old → SpellsLine rev l c
      → rows_from t n k c old ≡ all_hold past ++ (holds r ∷ left) → Unmet Takes p past new
      → Takes (last_of p new) r.command r.state → Meets rev t n k l (k + length new)
  last : {p : State} {old : Row Command State} {c : Command} {past new : Rows}
      → MayEdit t n k l p old → SpellsLine rev l c → rows_from t n k c old ≡ all_hold past
      → Unmet Takes p past new → (last_of p new).phase ≡ over → Meets rev t n k l n

-- ---- the counts handed in

-- the rows that stand from line k to line m
abbrev pub Stand : List ℤ → ℕ → ℕ → ℕ → Rows → Type 0
Stand t n k m old = take (m - (k - 1)) (drop (k - 1) (entries_of n t)) ≡ all_hold old

-- a tool's count, of those of a way, is over 1,000, or under what the rows take from it; of any tool, those of the rows or not
pub data CountFault (w : Way) (old : Rows) (l : List ℕ) : Type 0 where
  above : (tool : ℕ) → 1 ≤ tool → tool ≤ max_tool → max_count < of_tool l tool → CountFault w old l
  below : (tool : ℕ) → 1 ≤ tool → tool ≤ max_tool → of_tool l tool < how_many w old tool → CountFault w old l

pub data CountsFault (old : Rows) (c : Counts) : Type 0 where
  in_hits : CountFault hits old c.hits → CountsFault old c
  in_routs : CountFault routs old c.routs → CountsFault old c

-- why the edit is refused: for the table or the line; or else for the counts
pub data EditRefused (rev : Revision) (t : List ℤ) (n k : ℕ) (l : List ℕ) (c : Counts) : Refusal → ℕ → Type 0 where
  line_stays : {e : Refusal} {i : ℕ} → LineStays rev t n k l e i → EditRefused rev t n k l c e i
  counts : {m : ℕ} {old : Rows} → Meets rev t n k l m → Stand t n k m old → CountsFault old c → EditRefused rev t n k l c bad_table 0

-- it is accepted, and meets at line m
pub record EditMeets (rev : Revision) (t : List ℤ) (n k : ℕ) (l : List ℕ) (c : Counts) (m : ℕ) : Type 0 where
  pub meets : Meets rev t n k l m
  pub old : Rows
  pub stand : Stand t n k m old
  pub no_fault : CountsFault old c → ⊥

pub record EditRefusedExactly : Type 0 where
  pub refused : (rev : Revision) (t : List ℤ) (n k : ℕ) (l : List ℕ) (c : Counts) (e : Refusal) (i : ℕ)
      → Exactly (edit_answer rev t n k l c ≡ refused_at e i) (EditRefused rev t n k l c e i)
  pub done : (rev : Revision) (t : List ℤ) (n k : ℕ) (l : List ℕ) (c : Counts) (m : ℕ)
      → Exactly (edit_answer rev t n k l c ≡ Ok m) (EditMeets rev t n k l c m)
  -- and the question where an edit would meet
  pub stays : (rev : Revision) (t : List ℤ) (n k : ℕ) (l : List ℕ) (e : Refusal) (i : ℕ)
      → Exactly (meeting_answer rev t n k l ≡ refused_at e i) (LineStays rev t n k l e i)
  pub would_meet : (rev : Revision) (t : List ℤ) (n k : ℕ) (l : List ℕ) (m : ℕ)
      → Exactly (meeting_answer rev t n k l ≡ Ok m) (Meets rev t n k l m)
