-- Two runs compared: the state after a line, and the first line after which the states of both agree.
use Rattle.std.specs.Prelude.{◌≡◌, Bool, List, [], ◌∷◌, ◌++◌, ℕ, ◌<◌, ◌≤◌, length, take, drop}
use Rattle.runs.specs.Machine.{Out, accepted, refused, Row, last_of, run, Chain, ReadBy, StepBy}

-- the state after line m of some rows; after line 0 it is the state they start from
abbrev pub state_after : {C S : Type 0} → S → List (Row C S) → ℕ → S
state_after p rs m = last_of p (take m rs)

-- m is the first line, from line k on, after which old and new states agree, or the last line
pub record FirstAgreement {C S : Type 0} (p : S) (old new : List (Row C S)) (k m : ℕ) : Type 0 where
  pub from : k ≤ m
  pub upto : m ≤ length old
  pub differ : (j : ℕ) → k ≤ j → j < m → state_after p old j ≡ state_after p new j → ⊥
  pub agrees : m < length old → state_after p old m ≡ state_after p new m

-- old rows rerun from state p as new ones, without agreement: each command is taken again, and no state is the one that
-- stands there
pub data Unmet {C S : Type 0} (Takes : S → C → S → Type 0) : S → List (Row C S) → List (Row C S) → Type 0 where
  nothing : {p : S} → Unmet Takes p [] []
  further : {p q : S} {r : Row C S} {old new : List (Row C S)}
      → Takes p r.command q → (q ≡ r.state → ⊥) → Unmet Takes q old new
      → Unmet Takes p (r ∷ old) (record { command = r.command; state = q } ∷ new)

-- Once two runs agree in state after the same line, and the lines left are the same, nothing further can differ: neither a row
-- nor a refusal.
pub record NothingFurther {L C S R : Type 0} (read : ℕ → L → Out C R) (step : S → C → Out S R) (final : S → Bool)
    (short : R) : Type 0 where
  -- two accepted runs, after line m
  pub rows : (p q : S) (xs ys : List L) (i m : ℕ) (rs ss : List (Row C S))
      → run read step final short p xs i ≡ accepted rs → run read step final short q ys i ≡ accepted ss
      → m ≤ length xs → m ≤ length ys → drop m xs ≡ drop m ys → state_after p rs m ≡ state_after q ss m → drop m rs ≡ drop m ss
  -- lines xs and ys, as many of each, read as rows rs and ss; then the lines ls
  pub refusal : (p q : S) (xs ys : List L) (i : ℕ) (rs ss : List (Row C S))
      → Chain (ReadBy read) (StepBy step) p i xs rs → Chain (ReadBy read) (StepBy step) q i ys ss
      → length xs ≡ length ys → last_of p rs ≡ last_of q ss → (ls : List L) (e : R) (j : ℕ)
      → run read step final short p (xs ++ ls) i ≡ refused e j → run read step final short q (ys ++ ls) i ≡ refused e j
