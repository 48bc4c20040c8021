-- An accepted edit, also of a table that isn't good: the tests that it passed, and the rows that it makes. These run from
-- the edited line to the meeting line, and both are lines of the table.
use mathlib.Core.Path.{◌≡◌, refl, ap, ◌∙◌, subst}
use mathlib.Core.Bool.{Bool, true, false, cond}
use mathlib.Core.List.{List, ◌∷◌}
use Prim.Native.Nat.{ℕ, ◌+◌, ◌-◌, ◌≤◌}
use native.Mathlib.Omega.{arith}
use lib.IntN.{ℤ}
use lib.ListN.{length, drop, length-drop}
use Rattle.std.specs.Prelude.{Ok}
use Rattle.lists.proofs.Choice.{cond_all}
use Rattle.runs.specs.Machine.{Verdict, accepted, refused, on_verdict, Row, Entry, holds, Span, widen, rerun}
use Rattle.runs.proofs.Meeting.{rerun_counted}
use Rattle.runs.proofs.Ways.{out_all}
use Rattle.rules.specs.declared.Command.{Command}
use Rattle.rules.specs.declared.State.{State}
use Rattle.rules.specs.declared.Refusal.{Refusal}
use Rattle.rules.specs.declared.Counts.{Counts}
use Rattle.rules.specs.declared.Revision.{Revision}
use Rattle.rules.specs.Refusals.{bad_table, no_such_line, holds_line_end, ends_too_soon}
use Rattle.rules.specs.Commands.{line_of}
use Rattle.rules.specs.State.{taken, has_ended, same_state}
use Rattle.rules.specs.Rows.{entries_of, sizes_fit}
use Rattle.rules.specs.Reading.{say_out}
use Rattle.rules.specs.Counting.{counts_fit}
use Rattle.rules.specs.Editing.{is_line, no_line_end, entry_at, state_in, before_line, rerun_from, edit_from, edit_rows, edit_of, meeting_of, old_rows, edit_counted, edit_answer}
use Rattle.laws.proofs.Ways.{before_all}

-- a rerun whose first row is found whole makes one
abbrev SomeRows : Verdict (Span Command State) Refusal → Type 0
SomeRows (accepted s) = 1 ≤ length s.rows
SomeRows (refused e i) = Unit {0}

widen_some : (r : Row Command State) (v : Verdict (Span Command State) Refusal) → SomeRows (widen r v)
widen_some r (accepted s) = omega arith
widen_some r (refused e i) = tt

rerun_some : (p : State) (r : Row Command State) (es : List (Entry Command State)) (i : ℕ)
    → SomeRows (rerun_from p (holds r ∷ es) i)
unfolding rerun
rerun_some p r es i =
    out_all SomeRows (taken p r.command) (λ _ _. tt)
    (λ q _. cond_all SomeRows (same_state q r.state) (λ _. omega arith)
    (λ _. widen_some (record { command = r.command; state = q }) (rerun_from q es (i + 1))))

-- the rows of an edit of line k, of n
pub record SpanOf (n k : ℕ) (s : Span Command State) : Type 0 where
  pub counted : s.meeting ≡ k - 1 + length s.rows
  pub some : 1 ≤ length s.rows
  pub upto : k - 1 + length s.rows ≤ n

module _ (rev : Revision) (es : List (Entry Command State)) (k : ℕ) (a : 1 ≤ k) (b : k ≤ length es) (l : List ℕ) where
  Spans : Verdict (Span Command State) Refusal → Type 0
  Spans v = (s : Span Command State) → v ≡ accepted s → SpanOf (length es) k s

  refused_spans : (e : Refusal) (i : ℕ) → Spans (refused e i)
  unfolding Spans
  refused_spans e i s h = absurd (let z : ◌≡◌ {A = ℕ} 0 1 = cc in omega arith)

  rerun_spans : (p o : State) (c : Command) → Spans (edit_from es k p o c)
  unfolding Spans edit_from
  rerun_spans p o c s h =
      let r : Row Command State = record { command = c; state = o } in
      let n = rerun_counted taken same_state has_ended bad_table ends_too_soon p (holds r ∷ drop k es) (k - 1) s h in
      let m : 1 ≤ length s.rows = subst SomeRows h (rerun_some p r (drop k es) (k - 1)) in
      record { counted = n.0; some = m; upto = omega (arith, n.1, length-drop k es) }

  pub edit_spans : (s : Span Command State) → edit_rows rev es k l ≡ accepted s → SpanOf (length es) k s
  unfolding edit_rows Spans
  edit_spans =
      before_all Spans (before_line k (entry_at es (k - 1))) (refused_spans bad_table (k - 1))
      (λ p. before_all Spans (state_in (entry_at es k)) (refused_spans bad_table k)
      (λ o. out_all Spans (say_out (line_of rev l)) (λ e _. refused_spans e k) (λ c _. rerun_spans p o c)))

-- ---- the tests of an accepted edit

pub record Edits (rev : Revision) (t : List ℤ) (n k : ℕ) (l : List ℕ) (s : Span Command State) : Type 0 where
  pub sizes : sizes_fit t n ≡ true
  pub line : is_line n k ≡ true
  pub no_end : no_line_end l ≡ true
  pub made : edit_rows rev (entries_of n t) k l ≡ accepted s

-- a test before a verdict that was accepted
accepted_by : (b : Bool) (v : Verdict (Span Command State) Refusal) (e : Refusal) (s : Span Command State)
    → cond b v (refused e 0) ≡ accepted s → (b ≡ true) × (v ≡ accepted s)
accepted_by true v e s h = (refl, h)
accepted_by false v e s h = absurd (let z : ◌≡◌ {A = ℕ} 0 1 = cc in omega arith)

module _ (rev : Revision) (t : List ℤ) (n k : ℕ) (l : List ℕ) where
  pub edit_tests : (s : Span Command State) → edit_of rev t n k l ≡ accepted s → Edits rev t n k l s
  unfolding edit_of
  edit_tests s h =
      let a = accepted_by (sizes_fit t n) _ bad_table s h in
      let b = accepted_by (is_line n k) _ no_such_line s a.1 in
      let c = accepted_by (no_line_end l) _ holds_line_end s b.1 in
      record { sizes = a.0; line = b.0; no_end = c.0; made = c.1 }

  -- the counts c handed in
  module _ (c : Counts) where
    pub record EditDone (m : ℕ) : Type 0 where
      pub span : Span Command State
      pub verdict : edit_of rev t n k l ≡ accepted span
      pub fit : counts_fit (old_rows (entries_of n t) k span) c ≡ true
      pub meets : span.meeting ≡ m

    -- what an accepted edit says of its verdict whatever the counts, and of them
    says_fit : (s x : Span Command State) (b : Bool) → counts_fit (old_rows (entries_of n t) k x) c ≡ b → cond b (accepted x) (refused bad_table 0) ≡ accepted s
        → (x ≡ s) × (counts_fit (old_rows (entries_of n t) k x) c ≡ true)
    says_fit s x true f h = (cc, f)
    says_fit s x false f h = absurd (let z : ◌≡◌ {A = ℕ} 0 1 = cc in omega arith)

    says_span : (s : Span Command State) (v : Verdict (Span Command State) Refusal) → edit_of rev t n k l ≡ v
        → on_verdict v refused (λ s. cond (counts_fit (old_rows (entries_of n t) k s) c) (accepted s) (refused bad_table 0)) ≡ accepted s
        → (edit_of rev t n k l ≡ accepted s) × (counts_fit (old_rows (entries_of n t) k s) c ≡ true)
    says_span s (accepted x) e h =
        let w = says_fit s x (counts_fit (old_rows (entries_of n t) k x) c) refl h in
        (e ∙ ap accepted w.0, subst (λ (z : Span Command State). counts_fit (old_rows (entries_of n t) k z) c ≡ true) w.0 w.1)
    says_span s (refused a i) e h = absurd (let z : ◌≡◌ {A = ℕ} 0 1 = cc in omega arith)

    pub counted_says : (s : Span Command State) → edit_counted rev t n k l c ≡ accepted s
        → (edit_of rev t n k l ≡ accepted s) × (counts_fit (old_rows (entries_of n t) k s) c ≡ true)
    unfolding edit_counted
    counted_says s h = says_span s (edit_of rev t n k l) refl h

    fit_span : (m : ℕ) (s : Span Command State) → edit_of rev t n k l ≡ accepted s → (b : Bool) → counts_fit (old_rows (entries_of n t) k s) c ≡ b
        → meeting_of (cond b (accepted s) (refused bad_table 0)) ≡ Ok m → EditDone m
    fit_span m s e true f h = let d : s.meeting ≡ m = cc in record { span = s; verdict = e; fit = f; meets = d }
    fit_span m s e false f h = absurd (let z : ◌≡◌ {A = ℕ} 0 1 = cc in omega arith)

    done_span : (m : ℕ) (v : Verdict (Span Command State) Refusal) → edit_of rev t n k l ≡ v
        → meeting_of (on_verdict v refused (λ s. cond (counts_fit (old_rows (entries_of n t) k s) c) (accepted s) (refused bad_table 0))) ≡ Ok m → EditDone m
    done_span m (accepted s) e h = fit_span m s e (counts_fit (old_rows (entries_of n t) k s) c) refl h
    done_span m (refused e i) w h = absurd (let z : ◌≡◌ {A = ℕ} 0 1 = cc in omega arith)

    pub edit_done : (m : ℕ) → edit_answer rev t n k l c ≡ Ok m → EditDone m
    unfolding edit_answer edit_counted
    edit_done m h = done_span m (edit_of rev t n k l) refl h

    -- and the other way: an accepted edit, whatever the counts, where they fit
    module _ (s : Span Command State) (e : edit_of rev t n k l ≡ accepted s) where
      pub counted_fit : counts_fit (old_rows (entries_of n t) k s) c ≡ true → edit_counted rev t n k l c ≡ accepted s
      unfolding edit_counted
      counted_fit f = rw (e, f)

      pub counted_unfit : counts_fit (old_rows (entries_of n t) k s) c ≡ false → edit_counted rev t n k l c ≡ refused bad_table 0
      unfolding edit_counted
      counted_unfit f = rw (e, f)

    pub counted_refused : (e : Refusal) (i : ℕ) → edit_of rev t n k l ≡ refused e i → edit_counted rev t n k l c ≡ refused e i
    unfolding edit_counted
    counted_refused e i h = rw h
