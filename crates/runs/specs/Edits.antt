-- One line of a table given another command, for any machine. An edit is a fresh run: of the lines, where these are at hand, and of
-- the commands, where a table stands by itself. So it can be put back, and two edits may change places. The theorems ask that same
-- compares states exactly, and nothing else.
use Rattle.std.specs.Prelude.{◌≡◌, Bool, true, List, ◌∷◌, ℕ, ◌-◌, ◌<◌, ◌≤◌, length, get_or, set, drop}
use Rattle.lists.specs.Put.{put_at}
use Rattle.lists.specs.Exactly.{Exactly}
use Rattle.runs.specs.Machine.{Out, on_out, Verdict, accepted, refused, Row, holds, all_hold, Span, commands_of, last_of, run, rerun, Follows, StepBy}
use Rattle.runs.specs.Agreement.{state_after, FirstAgreement}

-- rows after i others that follow from state p, to a final state; with none before them they make a table
pub record Ended {C S R : Type 0} (step : S → C → Out S R) (final : S → Bool) (p : S) (i : ℕ) (rs : List (Row C S)) : Type 0 where
  pub follows : Follows (StepBy step) p i rs
  pub ends : final (last_of p rs) ≡ true

-- what an edit of line k says of all the rows
abbrev pub with_span : {C S R : Type 0} → List (Row C S) → ℕ → Verdict (Span C S) R → Verdict (List (Row C S)) R
with_span rs k (accepted s) = accepted (put_at rs (k - 1) s.rows)
with_span rs k (refused e i) = refused e i

module _ {C S R : Type 0} (step : S → C → Out S R) (same : S → S → Bool) (final : S → Bool) (bad_row short : R) (p : S) where
  -- Line k of some rows gets the command c: from the state before the line it is taken in place of the old one, whose state stands
  -- there, and the rows after it are rerun up to the meeting line.
  unfoldable pub edit_to : List (Row C S) → ℕ → C → Verdict (Span C S) R
  edit_to rs k c =
      rerun step same final bad_row short (state_after p rs (k - 1))
      (holds (record { command = c; state = state_after p rs k }) ∷ all_hold (drop k rs)) (k - 1)

  -- Lines that run to rows, and line k becomes l: they are refused as the edit of the rows is, or run to the rows that it gives.
  pub record LinesAfresh {L : Type 0} (read : ℕ → L → Out C R) : Type 0 where
    pub edited : (ls : List L) (rs : List (Row C S)) → run read step final short p ls 0 ≡ accepted rs
        → (k : ℕ) → 1 ≤ k → k ≤ length ls → (l : L)
        → run read step final short p (set ls (k - 1) l) 0 ≡ with_span rs k (on_out (read k l) (λ e. refused e k) (λ c. edit_to rs k c))

  -- line k of a table's rows gets the command c; this is accepted, meets at line m, and gives new rows
  pub record Edited (old : List (Row C S)) (k : ℕ) (c : C) (m : ℕ) (new : List (Row C S)) : Type 0 where
    pub table : Ended step final p 0 old
    pub from : 1 ≤ k
    pub upto : k ≤ length old
    pub span : Span C S
    pub verdict : edit_to old k c ≡ accepted span
    pub meets : span.meeting ≡ m
    pub rows : put_at old (k - 1) span.rows ≡ new

  -- new rows make a table, and have the old ones' commands but for line k's, which is c
  pub record Afresh (old : List (Row C S)) (k : ℕ) (c : C) (new : List (Row C S)) : Type 0 where
    pub commands : commands_of new ≡ set (commands_of old) (k - 1) c
    pub table : Ended step final p 0 new

  pub record EditsAreRuns : Type 0 where
    -- an edit is a fresh run
    pub exactly : (old : List (Row C S)) (k : ℕ) (c : C) (new : List (Row C S)) → Ended step final p 0 old → 1 ≤ k → k ≤ length old
        → Exactly ((m : ℕ) × Edited old k c m new) (Afresh old k c new)
    pub meeting : {old : List (Row C S)} {k : ℕ} {c : C} {m : ℕ} {new : List (Row C S)} → Edited old k c m new → FirstAgreement p old new k m
    pub one_table : {old : List (Row C S)} {k : ℕ} {c : C} {new other : List (Row C S)} → Afresh old k c new → Afresh old k c other → new ≡ other
    -- put back, whatever row z stands for a line that isn't there
    pub undo : {old : List (Row C S)} {k : ℕ} {c : C} {m : ℕ} {new : List (Row C S)} → Edited old k c m new
        → (z : Row C S) → Edited new k (get_or old (k - 1) z).command m old

  -- Two different lines, k and j, in either order:
  --   old  -- k gets c, meets at m -->  one    -- j gets d, meets at i -->   both
  --   old  -- j gets d, meets at i' --> other  -- k gets c, meets at m' -->  both
  pub record EditsCommute : Type 0 where
    -- the fourth follows from the others
    pub fourth : {old : List (Row C S)} {k j : ℕ} {c d : C} {m i i' : ℕ} {one both other : List (Row C S)} → (k ≡ j → ⊥)
        → Edited old k c m one → Edited one j d i both → Edited old j d i' other → (m' : ℕ) × Edited other k c m' both
    pub one_table : {old : List (Row C S)} {k j : ℕ} {c d : C} {m i i' m' : ℕ} {one both other again : List (Row C S)} → (k ≡ j → ⊥)
        → Edited old k c m one → Edited one j d i both → Edited old j d i' other → Edited other k c m' again → both ≡ again
    -- the earlier line's span reaches the later line in both orders or in neither; if it doesn't, the spans are the same in both
    pub apart : {old : List (Row C S)} {k j : ℕ} {c d : C} {m i i' m' : ℕ} {one both other : List (Row C S)} → k < j
        → Edited old k c m one → Edited one j d i both → Edited old j d i' other → Edited other k c m' both
        → Exactly (m < j) (m' < j) × (m < j → (m ≡ m') × (i ≡ i'))
