-- An edit's refusals: the tests before the new line's command as in the hole query, the new line's own, and then the rerun of the
-- rows (crate runs, Unmet). Where none of them is so, the edit is accepted.
use mathlib.Core.Path.{◌≡◌, refl, sym, ap, ◌∙◌, subst, subst₂}
use mathlib.Core.Bool.{Bool, true, false, false≢true}
use mathlib.Core.List.{List, [], ◌∷◌, ◌++◌}
use Prim.Native.Nat.{ℕ, ◌+◌, ◌-◌}
use native.Mathlib.Omega.{arith}
use borrow.Author.Tests.{eq-eqb, ne_eqb, eqb-true, eqb-false}
use lib.IntN.{ℤ}
use lib.ListN.{length, length-drop}
use Rattle.std.specs.Prelude.{Option, Some, None, Ok}
use Rattle.rules.proofs.Said.{refused_same}
use Rattle.lists.specs.Exactly.{Exactly}
use Rattle.lists.proofs.Choice.{cond_all}
use Rattle.runs.specs.Machine.{Out, yields, stops, on_out, Verdict, accepted, refused, Row, Entry, holds, bad, all_hold, Span, last_of, StepBy}
use Rattle.runs.specs.Agreement.{Unmet}
use Rattle.runs.proofs.Unmet.{unmet_map, unmet_length, Halts, Ends, halted, met, past, rerun_iff}
use Rattle.runs.proofs.Unmet as U
use Rattle.runs.proofs.Hold.{hold_length}
use Rattle.rules.specs.declared.Command.{Command}
use Rattle.rules.specs.declared.State.{State}
use Rattle.rules.specs.declared.Refusal.{Refusal}
use Rattle.rules.specs.declared.Revision.{Revision}
use Rattle.rules.specs.Results.{refused_at}
use Rattle.rules.specs.Refusals.{ends_too_soon, no_such_line, holds_line_end, bad_table}
use Rattle.rules.specs.Commands.{line_of}
use Rattle.rules.specs.State.{over, taken, has_ended, same_state}
use Rattle.rules.specs.Rows.{entries_of, sizes_fit}
use Rattle.rules.specs.Reading.{say_out, Rows}
use Rattle.rules.specs.Editing.{is_line, no_line_end, state_in, before_line, on_before, rerun_from, edit_from, edit_rows, edit_of, meeting_of, meeting_answer}
use Rattle.rules.specs.Spelling.{SpellsLine}
use Rattle.rules.specs.Obeys.{Takes}
use Rattle.rules.proofs.Same.{same_state_iff}
use Rattle.laws.proofs.Sizes.{line_is, sizes_fit_lem, sizes_say, bad_sizes, sizes_bad}
use Rattle.laws.proofs.Lines.{new_no_lf, new_no_cr, no_line_end_lem}
use Rattle.laws.proofs.Entries.{entries_length}
use Rattle.obeys.proofs.Lines.{LineSays, line_sound, line_says}
use Rattle.obeys.proofs.Files.{taken_takes, takes_taken, taken_refused, refused_taken}
use Rattle.demands.specs.HoleRefused.{LineOfTable, found_at, StateBefore}
use Rattle.demands.specs.EditRefused.{NoLineEnd, MayEdit, rows_from, Stops, row_is_bad, untaken, too_soon, LineStays, sizes, no_line, line_end, row_before, row_itself, new_line, rows, Meets, agree, last}
use Rattle.demands.proofs.HoleRefused.{line_of_lem, no_line_of, line_not, BeforeIs, before_is, is_before, bad_before}

-- ---- a line end

end_free : (l : List ℕ) → no_line_end l ≡ true → NoLineEnd l
end_free l h = record { no_lf = new_no_lf l h; no_cr = new_no_cr l h }

free_end : {l : List ℕ} → NoLineEnd l → no_line_end l ≡ true
free_end {l} w = no_line_end_lem l w.no_lf w.no_cr

holds_end : (l : List ℕ) → (NoLineEnd l → ⊥) → no_line_end l ≡ false
holds_end l h = by (no_line_end l) refl
  where
    by : (b : Bool) → no_line_end l ≡ b → no_line_end l ≡ false
    by true e = absurd (h (end_free l e))
    by false e = e

-- ---- what stops a rerun, by the machine and by the relations

halts_stop : {s : State} {es : List (Entry Command State)} {e : Refusal} → Halts taken has_ended bad_table ends_too_soon s es e → Stops s es e
halts_stop U.row_is_bad = row_is_bad
halts_stop {s} {e = e} (U.untaken {r = r} h) = untaken (taken_refused s r.command e h)
halts_stop {s} (U.too_soon h) = too_soon (eqb-false s.phase over h)

stops_halt : {s : State} {es : List (Entry Command State)} {e : Refusal} → Stops s es e → Halts taken has_ended bad_table ends_too_soon s es e
stops_halt row_is_bad = U.row_is_bad
stops_halt (untaken h) = U.untaken (refused_taken h)
stops_halt {s} (too_soon h) = U.too_soon (ne_eqb s.phase over h)

-- how a rerun of XNC's rows ends
EndsAt : State → ℕ → List (Entry Command State) → Verdict (Span Command State) Refusal → Type 0
EndsAt = Ends taken same_state has_ended bad_table ends_too_soon (λ a b. (same_state_iff a b).0) (λ a. (same_state_iff a a).1 refl)

rerun_is : (p : State) (es : List (Entry Command State)) (i : ℕ) (v : Verdict (Span Command State) Refusal)
    → Exactly (rerun_from p es i ≡ v) (EndsAt p i es v)
unfolding EndsAt
rerun_is = rerun_iff taken same_state has_ended bad_table ends_too_soon (λ a b. (same_state_iff a b).0) (λ a. (same_state_iff a a).1 refl)

by_relation : {p : State} {past new : Rows} → Unmet (StepBy taken) p past new → Unmet Takes p past new
by_relation = unmet_map taken_takes

by_machine : {p : State} {past new : Rows} → Unmet Takes p past new → Unmet (StepBy taken) p past new
by_machine = unmet_map (λ p c q w. takes_taken w)

module _ (rev : Revision) (t : List ℤ) (n k : ℕ) (l : List ℕ) where
  EditSays : Verdict (Span Command State) Refusal → Type 0
  EditSays (accepted s) = Meets rev t n k l s.meeting
  EditSays (refused e i) = LineStays rev t n k l e i

  -- from the state p before line k, whose old row left the state o: the new line, and the rows from its command on
  abbrev new_line_verdict : State → State → Verdict (Span Command State) Refusal
  new_line_verdict p o = on_out (say_out (line_of rev l)) (λ e. refused e k) (λ c. edit_from (entries_of n t) k p o c)

  module _ {p : State} {old : Row Command State} (w : MayEdit t n k l p old) where
    -- ---- the new command and the rows after it

    module _ (c : Command) (sp : SpellsLine rev l c) where
      -- rows that all are taken again reach the last line
      reaches_last : (rs : Rows) → rows_from t n k c old ≡ all_hold rs → k - 1 + length rs ≡ n
      reaches_last rs d =
          omega (arith, w.line.from, w.line.upto, ap length d, hold_length rs, length-drop k (entries_of n t), entries_length n t)

      ends_says : (es : List (Entry Command State)) (v : Verdict (Span Command State) Refusal) → rows_from t n k c old ≡ es
          → EndsAt p (k - 1) es v → EditSays v
      unfolding EditSays EndsAt
      ends_says es v d (halted {new = new} {e = e} {j = j} u h m) =
          let z : k + length new ≡ j = omega (arith, m, w.line.from) in
          subst (LineStays rev t n k l e) z (rows w sp d (by_relation u) (halts_stop h))
      ends_says es v d (met {new = new} {r = r} left {s = s} u h m q) =
          let z : k + length new ≡ s.meeting = omega (arith, m, w.line.from) in
          subst (Meets rev t n k l) z (agree left w sp d (by_relation u) (taken_takes (last_of p new) r.command r.state h))
      ends_says es v d (past {old = rs} {new = new} {s = s} u h m q) =
          let z : n ≡ s.meeting = omega (arith, m, reaches_last rs d, unmet_length u) in
          subst (Meets rev t n k l) z (last w sp d (by_relation u) (eqb-true (last_of p new).phase over h))

      rerun_says : EditSays (edit_from (entries_of n t) k p old.state c)
      unfolding edit_from
      rerun_says = ends_says (rows_from t n k c old) _ refl ((rerun_is p (rows_from t n k c old) (k - 1) _).0 refl)

    -- ---- the new line

    line_told : (o : Out Command Refusal) → LineSays rev l o → EditSays (on_out o (λ e. refused e k) (λ c. edit_from (entries_of n t) k p old.state c))
    unfolding EditSays
    line_told (yields c) sp = rerun_says c sp
    line_told (stops e) r = new_line w r

    -- the edit comes so far
    reached : edit_of rev t n k l ≡ new_line_verdict p old.state
    unfolding edit_of edit_rows
    reached =
        rw (sizes_fit_lem t n w.line.sizes, line_is n k w.line.from w.line.upto, free_end w.no_end, is_before t n k w.before, w.row)

    reached_command : (c : Command) → SpellsLine rev l c → edit_of rev t n k l ≡ rerun_from p (rows_from t n k c old) (k - 1)
    unfolding edit_from
    reached_command c sp = reached ∙ rw ((line_says rev l (yields c)).1 sp)

  -- ---- the rows before it and at it

  row_told : LineOfTable t n k → NoLineEnd l → {p : State} → StateBefore t n k p → (e : Entry Command State) → found_at t n k ≡ e
      → EditSays (on_before (state_in e) (refused bad_table k) (new_line_verdict p))
  unfolding EditSays
  row_told a b s (holds r) d = line_told (record { line = a; no_end = b; before = s; row = d }) (say_out (line_of rev l)) (line_sound rev l)
  row_told a b s bad d = row_itself a b s d

  before_told : LineOfTable t n k → NoLineEnd l → (x : Option State) → BeforeIs t n k x
      → EditSays (on_before x (refused bad_table (k - 1)) (λ p. on_before (state_in (found_at t n k)) (refused bad_table k) (new_line_verdict p)))
  unfolding EditSays
  before_told a b (Some p) s = row_told a b s (found_at t n k) refl
  before_told a b None s = row_before a b s.0 s.1

  edit_says : EditSays (edit_of rev t n k l)
  unfolding EditSays edit_of edit_rows
  edit_says =
      cond_all EditSays (sizes_fit t n) {b = refused bad_table 0}
      (λ s. cond_all EditSays (is_line n k) {b = refused no_such_line 0}
      (λ h. cond_all EditSays (no_line_end l) {b = refused holds_line_end 0}
      (λ e. let a = line_of_lem t n k s h in before_told a (end_free l e) (before_line k (found_at t n (k - 1))) (before_is t n k a.from))
      (λ e. line_end (line_of_lem t n k s h) (λ f. false≢true (sym e ∙ free_end f))))
      (λ h. no_line (sizes_say t n s) (no_line_of t n k h)))
      (λ s. sizes (bad_sizes t n s))

  -- ---- and the other way

  refused_edit : {e : Refusal} {i : ℕ} → LineStays rev t n k l e i → edit_of rev t n k l ≡ refused e i
  unfolding edit_of edit_rows EndsAt
  refused_edit (sizes h) = rw (sizes_bad t n h)
  refused_edit (no_line z h) = rw (sizes_fit_lem t n z, line_not t n k z h)
  refused_edit (line_end a h) = rw (sizes_fit_lem t n a.sizes, line_is n k a.from a.upto, holds_end l h)
  refused_edit (row_before a b h d) = rw (sizes_fit_lem t n a.sizes, line_is n k a.from a.upto, free_end b, bad_before t n k h d)
  refused_edit (row_itself a b s d) = rw (sizes_fit_lem t n a.sizes, line_is n k a.from a.upto, free_end b, is_before t n k s, d)
  refused_edit (new_line {e = e} w r) = reached w ∙ rw ((line_says rev l (stops e)).1 r)
  refused_edit (rows {p = p} {c = c} {new = new} {e = e} w sp d u h) =
      reached_command w c sp ∙ ap (λ (es : List (Entry Command State)). rerun_from p es (k - 1)) d
      ∙ (rerun_is p _ (k - 1) (refused e (k + length new))).1
      (halted {j = k + length new} (by_machine u) (stops_halt h) (omega (arith, w.line.from)))

  met_edit : {m : ℕ} → Meets rev t n k l m → (s : Span Command State) × (edit_of rev t n k l ≡ accepted s) × (s.meeting ≡ m)
  unfolding EndsAt
  met_edit (agree {p = p} {c = c} {new = new} {r = r} left w sp d u h) =
      let s : Span Command State = record { meeting = k + length new; rows = new ++ (r ∷ []) } in (
        s,
        reached_command w c sp ∙ ap (λ (es : List (Entry Command State)). rerun_from p es (k - 1)) d
            ∙ (rerun_is p _ (k - 1) (accepted s)).1 (met left {s = s} (by_machine u) (takes_taken h) (omega (arith, w.line.from)) refl),
        refl,
      )
  met_edit (last {p = p} {c = c} {past = rs} {new = new} w sp d u h) =
      let s : Span Command State = record { meeting = n; rows = new } in (
        s,
        reached_command w c sp ∙ ap (λ (es : List (Entry Command State)). rerun_from p es (k - 1)) d
            ∙ (rerun_is p _ (k - 1) (accepted s)).1
            (past {s = s} (by_machine u) (eq-eqb (last_of p new).phase over h) (omega (arith, reaches_last w c sp rs d, unmet_length u)) refl),
        refl,
      )

  -- ---- the answer

  why : (e : Refusal) (i : ℕ) (v : Verdict (Span Command State) Refusal) → EditSays v → meeting_of v ≡ refused_at e i → LineStays rev t n k l e i
  unfolding EditSays
  why e i (accepted s) w h = absurd (let z : ◌≡◌ {A = ℕ} 0 1 = cc in omega arith)
  why e i (refused a j) w h =
      let x : a ≡ e = (refused_same h).0 in
      let y : j ≡ i = (refused_same h).1 in
      subst₂ (LineStays rev t n k l) x y w

  where_met : (m : ℕ) (v : Verdict (Span Command State) Refusal) → EditSays v → meeting_of v ≡ Ok m → Meets rev t n k l m
  unfolding EditSays
  where_met m (accepted s) w h = let x : s.meeting ≡ m = cc in subst (Meets rev t n k l) x w
  where_met m (refused a j) w h = absurd (let z : ◌≡◌ {A = ℕ} 0 1 = cc in omega arith)

module _ (rev : Revision) (t : List ℤ) (n k : ℕ) (l : List ℕ) where
  pub stays_exactly : (e : Refusal) (i : ℕ) → Exactly (meeting_answer rev t n k l ≡ refused_at e i) (LineStays rev t n k l e i)
  unfolding meeting_answer
  stays_exactly e i = (λ h. why rev t n k l e i (edit_of rev t n k l) (edit_says rev t n k l) h, λ w. ap meeting_of (refused_edit rev t n k l w))

  pub meets_exactly : (m : ℕ) → Exactly (meeting_answer rev t n k l ≡ Ok m) (Meets rev t n k l m)
  unfolding meeting_answer
  meets_exactly m = (
    λ h. where_met rev t n k l m (edit_of rev t n k l) (edit_says rev t n k l) h,
    λ w. let a = met_edit rev t n k l w in ap meeting_of a.1 ∙ ap Ok a.2,
  )
