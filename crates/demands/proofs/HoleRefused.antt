-- The hole query's refusals: each test in turn is passed or gives its refusal.
use mathlib.Core.Path.{◌≡◌, refl, sym, ◌∙◌, subst}
use mathlib.Core.Bool.{Bool, true, false, false≢true}
use mathlib.Core.List.{List}
use Prim.Native.Nat.{ℕ, ◌-◌, ◌<◌, ◌≤◌}
use native.Mathlib.Omega.{arith}
use borrow.Author.Tests.{le-leb, lt-leb, leb-true, leb-false}
use lib.Dec.{leb}
use lib.IntN.{ℤ}
use Rattle.std.specs.Prelude.{Option, Some, None, Ok, Err}
use Rattle.lists.proofs.Choice.{cond_all}
use Rattle.runs.specs.Machine.{Row, Entry, holds, bad}
use Rattle.rules.specs.declared.Command.{Command}
use Rattle.rules.specs.declared.State.{State}
use Rattle.rules.specs.declared.Refusal.{Refusal}
use Rattle.rules.specs.Results.{HoleAnswer, refused_at}
use Rattle.rules.specs.Refusals.{no_such_line, bad_table}
use Rattle.rules.specs.State.{start}
use Rattle.rules.specs.Rows.{entries_of, sizes_fit, Sizes}
use Rattle.rules.specs.Holes.{hole_of}
use Rattle.rules.specs.Editing.{is_line, state_in, before_line, on_before}
use Rattle.rules.specs.Asking.{on_row, hole_in, hole_answer}
use Rattle.laws.proofs.Sizes.{line_says, line_is, sizes_fit_lem, sizes_say, bad_sizes, sizes_bad}
use Rattle.laws.proofs.Ways.{hole_all}
use Rattle.demands.specs.HoleRefused.{LineOfTable, found_at, StateBefore, first, after, HoleRefused, sizes, no_line, row_before, row_itself, HoleRefusedExactly}

module _ (t : List ℤ) (n k : ℕ) where
  -- ---- the tests before a row is looked at

  pub line_of_lem : sizes_fit t n ≡ true → is_line n k ≡ true → LineOfTable t n k
  line_of_lem s h = let p = line_says n k h in record { sizes = sizes_say t n s; from = p.0; upto = p.1 }

  pub no_line_of : is_line n k ≡ false → LineOfTable t n k → ⊥
  no_line_of h w = false≢true (sym h ∙ line_is n k w.from w.upto)

  pub line_not : Sizes t n → (LineOfTable t n k → ⊥) → is_line n k ≡ false
  line_not z h = by (is_line n k) refl
    where
      by : (b : Bool) → is_line n k ≡ b → is_line n k ≡ false
      by true e = absurd (h (line_of_lem (sizes_fit_lem t n z) e))
      by false e = e

  -- ---- the row before

  abbrev pub BeforeIs : Option State → Type 0
  BeforeIs (Some p) = StateBefore t n k p
  BeforeIs None = (1 < k) × (found_at t n (k - 1) ≡ bad)

  row_before_is : 1 < k → (e : Entry Command State) → found_at t n (k - 1) ≡ e → BeforeIs (state_in e)
  row_before_is h (holds r) d = after h d refl
  row_before_is h bad d = (h, d)

  pub before_is : 1 ≤ k → BeforeIs (before_line k (found_at t n (k - 1)))
  unfolding before_line
  before_is a =
      cond_all BeforeIs (leb k 1) {a = Some start} (λ h. let d = leb-true k 1 h in first (omega arith) refl)
      (λ h. row_before_is (leb-false k 1 h) (found_at t n (k - 1)) refl)

  pub is_before : {p : State} → StateBefore t n k p → before_line k (found_at t n (k - 1)) ≡ Some p
  unfolding before_line
  is_before (first d e) = rw (le-leb k 1 (omega arith), e)
  is_before (after h d e) = rw (lt-leb k 1 h, d, e)

  pub bad_before : 1 < k → found_at t n (k - 1) ≡ bad → before_line k (found_at t n (k - 1)) ≡ None
  unfolding before_line
  bad_before h d = rw (lt-leb k 1 h, d)

  -- ---- the answer

  HoleSays : HoleAnswer → Type 0
  HoleSays (Ok (Some h)) = Unit {0}
  HoleSays (Ok None) = Unit {0}
  HoleSays (Err r) = HoleRefused t n k r.refusal r.line

  row_says : LineOfTable t n k → (p : State) → StateBefore t n k p → (e : Entry Command State) → found_at t n k ≡ e
      → HoleSays (on_row e (refused_at bad_table k) (λ r. hole_of p.at r.command r.state))
  unfolding HoleSays
  row_says w p s (holds r) d = hole_all HoleSays p.at r.state r.command tt (λ _. tt)
  row_says w p s bad d = row_itself w s d

  before_says : LineOfTable t n k → (b : Option State) → BeforeIs b
      → HoleSays (on_before b (refused_at bad_table (k - 1))
      (λ p. on_row (found_at t n k) (refused_at bad_table k) (λ r. hole_of p.at r.command r.state)))
  unfolding HoleSays
  before_says w (Some p) s = row_says w p s (found_at t n k) refl
  before_says w None s = row_before w s.0 s.1

  hole_says : HoleSays (hole_answer t n k)
  unfolding HoleSays hole_answer hole_in
  hole_says =
      cond_all HoleSays (sizes_fit t n) {b = refused_at bad_table 0}
      (λ s. cond_all HoleSays (is_line n k) {b = refused_at no_such_line 0}
      (λ h. let w = line_of_lem s h in before_says w (before_line k (found_at t n (k - 1))) (before_is w.from))
      (λ h. no_line (sizes_say t n s) (no_line_of h)))
      (λ s. sizes (bad_sizes t n s))

  -- ---- and the other way

  at_line : LineOfTable t n k → hole_answer t n k ≡ hole_in (entries_of n t) k
  unfolding hole_answer
  at_line w = rw (sizes_fit_lem t n w.sizes, line_is n k w.from w.upto)

  so_refused : {e : Refusal} {i : ℕ} → HoleRefused t n k e i → hole_answer t n k ≡ refused_at e i
  unfolding hole_answer hole_in
  so_refused (sizes h) = rw (sizes_bad t n h)
  so_refused (no_line z h) = rw (sizes_fit_lem t n z, line_not z h)
  so_refused (row_before w h d) = at_line w ∙ rw (bad_before h d)
  so_refused (row_itself w s d) = at_line w ∙ rw (is_before s, d)

  so_answered : (p : State) (r : Row Command State) → LineOfTable t n k → StateBefore t n k p → found_at t n k ≡ holds r
      → hole_answer t n k ≡ hole_of p.at r.command r.state
  unfolding hole_in
  so_answered p r w s d = at_line w ∙ rw (is_before s, d)

pub hole_refused_exactly : HoleRefusedExactly
unfolding HoleSays
hole_refused_exactly = record {
  refused = λ t n k e i. (λ h. subst (HoleSays t n k) h (hole_says t n k), so_refused t n k);
  answered = so_answered;
}
