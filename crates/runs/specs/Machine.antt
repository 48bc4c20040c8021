-- Any machine: states, commands, and a step that gives the next state or a refusal. A file is a list of lines, each
-- read as a command and taken in turn; a table is such a run written down, a row for each line; an edit reruns the
-- table from one line on until old and new states agree.
use Rattle.std.specs.Prelude.{◌≡◌, Bool, cond, List, [], ◌∷◌, ℕ, ◌+◌}

-- something, or a refusal
pub data Out (A R : Type 0) : Type 0 where
  yields : A → Out A R
  stops : R → Out A R

abbrev pub on_out {ℓ} : {A R : Type 0} {B : Type ℓ} → Out A R → (R → B) → (A → B) → B
on_out (yields a) f g = g a
on_out (stops e) f g = f e

-- what is accepted, or a refusal and its line
pub data Verdict (A R : Type 0) : Type 0 where
  accepted : A → Verdict A R
  refused : R → ℕ → Verdict A R

abbrev pub on_verdict {ℓ} : {A R : Type 0} {B : Type ℓ} → Verdict A R → (R → ℕ → B) → (A → B) → B
on_verdict (accepted a) f g = g a
on_verdict (refused e i) f g = f e i

-- a row: a command, and the state after it
pub record Row (C S : Type 0) : Type 0 where
  pub command : C
  pub state : S

-- a row as it is found in a table that may be damaged
pub data Entry (C S : Type 0) : Type 0 where
  holds : Row C S → Entry C S
  bad : Entry C S

-- rows of which each is found whole
unfoldable pub all_hold : {C S : Type 0} → List (Row C S) → List (Entry C S)
all_hold [] = []
all_hold (r ∷ rs) = holds r ∷ all_hold rs

-- the rows among those found that are whole
unfoldable pub whole_rows : {C S : Type 0} → List (Entry C S) → List (Row C S)
whole_rows [] = []
whole_rows (holds r ∷ es) = r ∷ whole_rows es
whole_rows (bad ∷ es) = whole_rows es

-- the rows that an edit makes anew, and the line at which they end
pub record Span (C S : Type 0) : Type 0 where
  pub meeting : ℕ
  pub rows : List (Row C S)

-- one row before the others
abbrev pub before : {C S R : Type 0} → Row C S → Verdict (List (Row C S)) R → Verdict (List (Row C S)) R
before r (accepted rs) = accepted (r ∷ rs)
before r (refused e i) = refused e i

abbrev pub widen : {C S R : Type 0} → Row C S → Verdict (Span C S) R → Verdict (Span C S) R
widen r (accepted s) = accepted (record { meeting = s.meeting; rows = r ∷ s.rows })
widen r (refused e i) = refused e i

-- the commands of some rows, and the state after them
unfoldable pub commands_of : {C S : Type 0} → List (Row C S) → List C
commands_of [] = []
commands_of (r ∷ rs) = r.command ∷ commands_of rs

unfoldable pub last_of : {C S : Type 0} → S → List (Row C S) → S
last_of p [] = p
last_of p (r ∷ rs) = last_of r.state rs

module _ {L C S R : Type 0} (read : ℕ → L → Out C R) (step : S → C → Out S R) (final : S → Bool) (short : R) where
  -- lines after i others, from state p: each is read, given its number, and taken. The first fault refuses at its line;
  -- where the lines end too soon, the refusal is at the line that is missing.
  unfoldable pub run : S → List L → ℕ → Verdict (List (Row C S)) R
  run p [] i = cond (final p) (accepted []) (refused short (i + 1))
  run p (l ∷ ls) i =
      on_out (read (i + 1) l) (λ e. refused e (i + 1))
      (λ c. on_out (step p c) (λ e. refused e (i + 1)) (λ q. before (record { command = c; state = q }) (run q ls (i + 1))))

module _ {C S R : Type 0} (step : S → C → Out S R) (same : S → S → Bool) (final : S → Bool) (bad_row : R) where
  -- Rows after i others rerun from state p, up to the first line after which the new state is the one that stands
  -- there: the meeting line. Each row is tested before it is taken. Past the last row the run must have ended.
  unfoldable pub rerun : R → S → List (Entry C S) → ℕ → Verdict (Span C S) R
  rerun short p [] i = cond (final p) (accepted (record { meeting = i; rows = [] })) (refused short (i + 1))
  rerun short p (bad ∷ es) i = refused bad_row (i + 1)
  rerun short p (holds r ∷ es) i =
      on_out (step p r.command) (λ e. refused e (i + 1))
      (λ q. cond (same q r.state)
      (accepted (record { meeting = i + 1; rows = record { command = r.command; state = q } ∷ [] }))
      (widen (record { command = r.command; state = q }) (rerun short q es (i + 1))))

  -- Rows after i others, each of which must follow from state p and the row before it; the last must have ended.
  unfoldable pub follow : S → List (Entry C S) → ℕ → Verdict (List (Row C S)) R
  follow p [] i = cond (final p) (accepted []) (refused bad_row i)
  follow p (bad ∷ es) i = refused bad_row (i + 1)
  follow p (holds r ∷ es) i =
      on_out (step p r.command) (λ _. refused bad_row (i + 1))
      (λ q. cond (same q r.state) (before r (follow q es (i + 1))) (refused bad_row (i + 1)))

-- ---- chains of rows

-- Lines after i others, from state p, and their rows, one for each: a line, given its number, reads as its row's command,
-- which is taken from the state before to its row's state. What reads as what, and what is taken, are any two relations.
pub data Chain {L C S : Type 0} (Reads : ℕ → L → C → Type 0) (Takes : S → C → S → Type 0) : S → ℕ → List L → List (Row C S) → Type 0 where
  nil : {p : S} {i : ℕ} → Chain Reads Takes p i [] []
  link : {p : S} {l : L} {ls : List L} {i : ℕ} {r : Row C S} {rs : List (Row C S)}
      → Reads (i + 1) l r.command → Takes p r.command r.state → Chain Reads Takes r.state (i + 1) ls rs
      → Chain Reads Takes p i (l ∷ ls) (r ∷ rs)

-- rows by themselves: each state follows from the one before
abbrev pub Follows : {C S : Type 0} → (S → C → S → Type 0) → S → ℕ → List (Row C S) → Type 0
Follows Takes p i rs = Chain (λ _ r c. r.command ≡ c) Takes p i rs rs

-- the relations of a machine: what a line is read as, and where a step leads
abbrev pub ReadBy : {L C R : Type 0} → (ℕ → L → Out C R) → ℕ → L → C → Type 0
ReadBy read i l c = read i l ≡ yields c

abbrev pub StepBy : {C S R : Type 0} → (S → C → Out S R) → S → C → S → Type 0
StepBy step p c q = step p c ≡ yields q
