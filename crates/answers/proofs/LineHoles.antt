-- The hole of a line is told by the state before it and by its row: so in a good table, and so rows that agree in these have
-- the same hole there.
use mathlib.Core.Path.{◌≡◌, sym, ap, ap₂, ◌∙◌}
use mathlib.Core.List.{List, ◌∷◌, ◌++◌}
use Prim.Native.Nat.{ℕ, ◌+◌, ◌-◌, ◌<◌, ◌≤◌}
use native.Mathlib.Omega.{arith}
use lib.IntN.{ℤ}
use lib.ListN.{length, get_or, take, drop}
use lib.Seq.{take-append_seam, take-take, get_or-append_seam, get_or-take, get_or-drop}
use Rattle.lists.proofs.Around.{around_line}
use Rattle.runs.specs.Machine.{Row, all_hold, last_of}
use Rattle.runs.specs.Agreement.{state_after}
use Rattle.runs.proofs.Edit.{after_add}
use Rattle.rules.specs.declared.Command.{Command}
use Rattle.rules.specs.declared.State.{State}
use Rattle.rules.specs.Results.{HoleAnswer}
use Rattle.rules.specs.State.{start}
use Rattle.rules.specs.Rows.{Good}
use Rattle.rules.specs.Reading.{Rows, no_row, row_of, state_before}
use Rattle.rules.specs.Holes.{hole_of}
use Rattle.rules.specs.Asking.{hole_in, hole_answer}
use Rattle.laws.proofs.Sizes.{line_is}
use Rattle.answers.proofs.Places.{before_here, entry_here}

-- the hole of a line, from the state before it and its row
abbrev pub hole_from : State → Row Command State → HoleAnswer
hole_from p r = hole_of p.at r.command r.state

pub hole_here : (os : Rows) (r : Row Command State) (ys : Rows) (k : ℕ) → k ≡ length os + 1 → hole_in (all_hold (os ++ (r ∷ ys))) k ≡ hole_from (last_of start os) r
unfolding hole_in
hole_here os r ys k e = rw (before_here os (r ∷ ys) k e, entry_here os r ys k e)

pub hole_at : (rs : Rows) (k : ℕ) → 1 ≤ k → k ≤ length rs → hole_in (all_hold rs) k ≡ hole_from (state_before rs k) (row_of rs k)
hole_at rs k a b =
    around_line (λ z j. hole_in (all_hold z) k ≡ hole_from (state_after start z j) (get_or z j no_row)) rs k a b
    (λ os r ys e. hole_here os r ys k e ∙ sym (ap₂ hole_from (ap (last_of start) (take-append_seam os (r ∷ ys))) (get_or-append_seam os r ys no_row)))

module _ (rs ss : Rows) (e : length ss ≡ length rs) (j : ℕ) (a : 1 ≤ j) (b : j ≤ length rs) where
  hole_same : state_after start ss (j - 1) ≡ state_after start rs (j - 1) → get_or ss (j - 1) no_row ≡ get_or rs (j - 1) no_row → hole_in (all_hold ss) j ≡ hole_in (all_hold rs) j
  hole_same p q = hole_at ss j a (omega arith) ∙ ap₂ hole_from p q ∙ sym (hole_at rs j a b)

  -- lines among rows that are the same from the first on
  pub hole_first : (k : ℕ) → take k ss ≡ take k rs → j ≤ k → hole_in (all_hold ss) j ≡ hole_in (all_hold rs) j
  hole_first k h n =
      hole_same
      (ap (last_of start) (sym (take-take (j - 1) k ss (omega arith)) ∙ ap (take (j - 1)) h ∙ take-take (j - 1) k rs (omega arith)))
      (sym (get_or-take k ss (j - 1) no_row (omega arith)) ∙ ap (λ (z : Rows). get_or z (j - 1) no_row) h ∙ get_or-take k rs (j - 1) no_row (omega arith))

  -- lines among rows that are the same to the last, from a line on after which the states agree
  pub hole_rest : (m : ℕ) → drop m ss ≡ drop m rs → state_after start ss m ≡ state_after start rs m → m < j → hole_in (all_hold ss) j ≡ hole_in (all_hold rs) j
  hole_rest m h s n =
      let c : m + (j - 1 - m) ≡ j - 1 = omega arith in
      hole_same
      (ap (state_after start ss) (sym c) ∙ after_add start ss m (j - 1 - m) (omega arith)
      ∙ ap₂ (λ (p : State) (z : Rows). state_after p z (j - 1 - m)) s h
      ∙ sym (after_add start rs m (j - 1 - m) (omega arith)) ∙ ap (state_after start rs) c)
      (ap (λ (i : ℕ). get_or ss i no_row) (sym c) ∙ sym (get_or-drop m ss (j - 1 - m) no_row) ∙ ap (λ (z : Rows). get_or z (j - 1 - m) no_row) h
      ∙ get_or-drop m rs (j - 1 - m) no_row ∙ ap (λ (i : ℕ). get_or rs i no_row) c)

-- the hole of line k in a good table
pub good_hole : (t : List ℤ) (n : ℕ) (rs : Rows) → Good t n rs → n ≡ length rs → (k : ℕ) → 1 ≤ k → k ≤ n → hole_answer t n k ≡ hole_from (state_before rs k) (row_of rs k)
unfolding hole_answer
good_hole t n rs g c k a b = rw (g.fits, line_is n k a b, g.found) (hole_at rs k a (omega arith))
