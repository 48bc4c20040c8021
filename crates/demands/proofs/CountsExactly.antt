-- The counts come last: they are tested where the edit would meet, against the rows of its span as they stood, which are whole.
use mathlib.Core.Path.{◌≡◌, refl, sym, ap, ◌∙◌, subst, subst₂}
use mathlib.Core.Bool.{Bool, true, false, ◌&&◌}
use mathlib.Core.List.{List}
use Prim.Native.Nat.{ℕ, ◌-◌, ◌≤◌}
use native.Mathlib.Omega.{arith}
use borrow.Author.Tests.{lt-leb, leb-false}
use lib.Dec.{leb}
use lib.IntN.{ℤ}
use lib.ListN.{length, take, drop}
use Rattle.std.specs.Prelude.{Ok, Err}
use Rattle.rules.proofs.Said.{refused_same}
use Rattle.lists.specs.Exactly.{Exactly}
use Rattle.runs.specs.Machine.{Verdict, accepted, refused, Span}
use Rattle.runs.proofs.Whole.{hold_one}
use Rattle.rules.specs.declared.Command.{Command}
use Rattle.rules.specs.declared.State.{State}
use Rattle.rules.specs.declared.Refusal.{Refusal}
use Rattle.rules.specs.declared.Revision.{Revision}
use Rattle.rules.specs.declared.Way.{Way}
use Rattle.rules.specs.declared.Counts.{Counts}
use Rattle.rules.specs.Results.{Answer, refused_at}
use Rattle.rules.specs.Refusals.{bad_table}
use Rattle.rules.specs.Numbers.{max_tool}
use Rattle.rules.specs.Rows.{entries_of}
use Rattle.rules.specs.Reading.{Rows}
use Rattle.rules.specs.Counting.{of_tool, hits, routs, how_many, max_count, way_fits, counts_fit}
use Rattle.rules.specs.Editing.{edit_of, meeting_of, meeting_answer, old_rows, edit_answer}
use Rattle.laws.proofs.EachTool.{each_not, each_fails}
use Rattle.laws.proofs.OldRows.{edit_stood}
use Rattle.answers.proofs.EditSpan.{EditDone, edit_done, counted_fit, counted_unfit, counted_refused}
use Rattle.answers.proofs.Small.{span_of}
use Rattle.demands.specs.EditRefused.{Stand, CountFault, above, below, CountsFault, in_hits, in_routs, EditRefused, line_stays, counts, EditMeets, EditRefusedExactly}
use Rattle.demands.specs.CountsExactly.{CountsExactly}
use Rattle.demands.proofs.EditRefused.{stays_exactly, meets_exactly}

-- ---- a fault in the counts

module _ (w : Way) (old : Rows) (l : List ℕ) where
  fault_at : (tool : ℕ) → 1 ≤ tool → tool ≤ max_tool → (a b : Bool) → leb (of_tool l tool) max_count ≡ a → leb (how_many w old tool) (of_tool l tool) ≡ b → (a && b) ≡ false → CountFault w old l
  fault_at tool p q true b e f h = below tool p q (leb-false (how_many w old tool) (of_tool l tool) (f ∙ h))
  fault_at tool p q false b e f h = above tool p q (leb-false (of_tool l tool) max_count e)

  way_fault : way_fits w old l ≡ false → CountFault w old l
  unfolding way_fits
  way_fault h =
      let x = each_fails (λ t. leb (of_tool l t) max_count && leb (how_many w old t) (of_tool l t)) h in
      fault_at x.0 x.1.0 x.1.1 (leb (of_tool l x.0) max_count) (leb (how_many w old x.0) (of_tool l x.0)) refl refl x.1.2

  no_second : (a : Bool) → (a && false) ≡ false
  no_second true = refl
  no_second false = refl

  fault_says : CountFault w old l → way_fits w old l ≡ false
  unfolding way_fits
  fault_says (above tool p q h) = each_not (λ t. leb (of_tool l t) max_count && leb (how_many w old t) (of_tool l t)) tool p q (rw (lt-leb (of_tool l tool) max_count h))
  fault_says (below tool p q h) =
      each_not (λ t. leb (of_tool l t) max_count && leb (how_many w old t) (of_tool l t)) tool p q
      (rw (lt-leb (how_many w old tool) (of_tool l tool) h) (no_second (leb (of_tool l tool) max_count)))

module _ (old : Rows) (c : Counts) where
  pick_fault : (a b : Bool) → way_fits hits old c.hits ≡ a → way_fits routs old c.routs ≡ b → (a && b) ≡ false → CountsFault old c
  pick_fault true b e f h = in_routs (way_fault routs old c.routs (f ∙ h))
  pick_fault false b e f h = in_hits (way_fault hits old c.hits e)

  pub unfit_fault : counts_fit old c ≡ false → CountsFault old c
  unfolding counts_fit
  unfit_fault h = pick_fault (way_fits hits old c.hits) (way_fits routs old c.routs) refl refl h

  pub fault_unfit : CountsFault old c → counts_fit old c ≡ false
  unfolding counts_fit
  fault_unfit (in_hits x) = rw (fault_says hits old c.hits x)
  fault_unfit (in_routs x) = rw (fault_says routs old c.routs x) (no_second hits old c.hits (way_fits hits old c.hits))

-- ---- the rows of the span as they stood, and as they stand afterwards

module _ (rev : Revision) (t : List ℤ) (n k : ℕ) (l : List ℕ) (s : Span Command State) (h : edit_of rev t n k l ≡ accepted s) where
  many : s.meeting - (k - 1) ≡ length s.rows
  many = omega (arith, (span_of rev t n k l s h).counted)

  stand : Stand t n k s.meeting (old_rows (entries_of n t) k s)
  stand = ap (λ (j : ℕ). take j (drop (k - 1) (entries_of n t))) many ∙ edit_stood rev t n k l s h

one_stand : (t : List ℤ) (n k m : ℕ) (old older : Rows) → Stand t n k m old → Stand t n k m older → old ≡ older
one_stand t n k m old older a b = hold_one old older (sym a ∙ b)

-- where the edit would meet
record WouldMeet (rev : Revision) (t : List ℤ) (n k : ℕ) (l : List ℕ) (m : ℕ) : Type 0 where
  span : Span Command State
  verdict : edit_of rev t n k l ≡ accepted span
  meets : span.meeting ≡ m

module _ (rev : Revision) (t : List ℤ) (n k : ℕ) (l : List ℕ) where
  met_span : (m : ℕ) (v : Verdict (Span Command State) Refusal) → edit_of rev t n k l ≡ v → meeting_of v ≡ Ok m → WouldMeet rev t n k l m
  met_span m (accepted s) e h = let d : s.meeting ≡ m = cc in record { span = s; verdict = e; meets = d }
  met_span m (refused a i) e h = absurd (let z : ◌≡◌ {A = ℕ} 0 1 = cc in omega arith)

  would_meet : (m : ℕ) → meeting_answer rev t n k l ≡ Ok m → WouldMeet rev t n k l m
  unfolding meeting_answer
  would_meet m h = met_span m (edit_of rev t n k l) refl h

  met_refused : (e : Refusal) (i : ℕ) (v : Verdict (Span Command State) Refusal) → edit_of rev t n k l ≡ v → meeting_of v ≡ refused_at e i → edit_of rev t n k l ≡ refused e i
  met_refused e i (accepted s) w h = absurd (let z : ◌≡◌ {A = ℕ} 0 1 = cc in omega arith)
  met_refused e i (refused a j) w h = let d : a ≡ e = (refused_same h).0 in let z : j ≡ i = (refused_same h).1 in w ∙ ap (λ (x : Refusal). refused x j) d ∙ ap (refused e) z

  stands : (m : ℕ) → meeting_answer rev t n k l ≡ Ok m → (old : Rows) × Stand t n k m old
  stands m h =
      let w = would_meet m h in
      (old_rows (entries_of n t) k w.span, subst (λ (j : ℕ). Stand t n k j (old_rows (entries_of n t) k w.span)) w.meets (stand rev t n k l w.span w.verdict))

  module _ (c : Counts) where
    last_of_all : (e : Refusal) (i : ℕ) → meeting_answer rev t n k l ≡ refused_at e i → edit_answer rev t n k l c ≡ refused_at e i
    unfolding meeting_answer edit_answer
    last_of_all e i h = ap meeting_of (counted_refused rev t n k l c e i (met_refused e i (edit_of rev t n k l) refl h))

    module _ (m : ℕ) (old : Rows) (h : meeting_answer rev t n k l ≡ Ok m) (o : Stand t n k m old) where
      w : WouldMeet rev t n k l m
      w = would_meet m h

      same_old : old_rows (entries_of n t) k w.span ≡ old
      unfolding stands w
      same_old = one_stand t n k m (old_rows (entries_of n t) k w.span) old (stands m h).1 o

      fit_answer : counts_fit old c ≡ true → edit_answer rev t n k l c ≡ Ok m
      unfolding edit_answer
      fit_answer f = rw (counted_fit rev t n k l c w.span w.verdict (rw same_old f)) (ap Ok w.meets)

      unfit_answer : counts_fit old c ≡ false → edit_answer rev t n k l c ≡ refused_at bad_table 0
      unfolding edit_answer
      unfit_answer f = rw (counted_unfit rev t n k l c w.span w.verdict (rw same_old f))

      refused_if : (b : Bool) → counts_fit old c ≡ b → edit_answer rev t n k l c ≡ refused_at bad_table 0 → CountsFault old c
      refused_if true f e = absurd (let d = sym (fit_answer f) ∙ e in let z : ◌≡◌ {A = ℕ} 0 1 = cc in omega arith)
      refused_if false f e = unfit_fault old c f

      accepted_if : (b : Bool) → counts_fit old c ≡ b → (CountsFault old c → ⊥) → edit_answer rev t n k l c ≡ Ok m
      accepted_if true f e = fit_answer f
      accepted_if false f e = absurd (e (unfit_fault old c f))

      pub refused_so : Exactly (edit_answer rev t n k l c ≡ refused_at bad_table 0) (CountsFault old c)
      refused_so = (refused_if (counts_fit old c) refl, λ x. unfit_answer (fault_unfit old c x))

      pub accepted_so : Exactly (edit_answer rev t n k l c ≡ Ok m) (CountsFault old c → ⊥)
      accepted_so = (
        λ e x. let d = sym (unfit_answer (fault_unfit old c x)) ∙ e in let z : ◌≡◌ {A = ℕ} 0 1 = cc in omega arith,
        accepted_if (counts_fit old c) refl,
      )

pub counts_exactly : CountsExactly
counts_exactly = record {
  last = last_of_all;
  stands = stands;
  one_old = one_stand;
  refused = λ rev t n k l c m old h o. refused_so rev t n k l c m old h o;
  accepted = λ rev t n k l c m old h o. accepted_so rev t n k l c m old h o;
}

-- ---- all of an edit's refusals

module _ (rev : Revision) (t : List ℤ) (n k : ℕ) (l : List ℕ) (c : Counts) where
  -- by what the edit would answer whatever the counts
  why : (e : Refusal) (i : ℕ) (a : Answer) → meeting_answer rev t n k l ≡ a → edit_answer rev t n k l c ≡ refused_at e i → EditRefused rev t n k l c e i
  why e i (Err r) w h = line_stays ((stays_exactly rev t n k l e i).0 (w ∙ sym (last_of_all rev t n k l c r.refusal r.line w) ∙ h))
  why e i (Ok m) w h = by_fit (counts_fit (stands rev t n k l m w).0 c) refl
    where
      by_fit : (b : Bool) → counts_fit (stands rev t n k l m w).0 c ≡ b → EditRefused rev t n k l c e i
      by_fit true f =
          absurd (let d = sym (fit_answer rev t n k l c m (stands rev t n k l m w).0 w (stands rev t n k l m w).1 f) ∙ h in let z : ◌≡◌ {A = ℕ} 0 1 = cc in omega arith)
      by_fit false f =
          let d : ◌≡◌ {A = Answer} (refused_at bad_table 0) (refused_at e i)
          = sym (unfit_answer rev t n k l c m (stands rev t n k l m w).0 w (stands rev t n k l m w).1 f) ∙ h in
          let x : bad_table ≡ e = (refused_same d).0 in
          let y : 0 ≡ i = (refused_same d).1 in
          subst₂ (EditRefused rev t n k l c) x y
          (counts ((meets_exactly rev t n k l m).0 w) (stands rev t n k l m w).1 (unfit_fault (stands rev t n k l m w).0 c f))

  refused_with : {e : Refusal} {i : ℕ} → EditRefused rev t n k l c e i → edit_answer rev t n k l c ≡ refused_at e i
  refused_with (line_stays {e = e} {i = i} w) = last_of_all rev t n k l c e i ((stays_exactly rev t n k l e i).1 w)
  refused_with (counts {m = m} {old = old} w o x) = (refused_so rev t n k l c m old ((meets_exactly rev t n k l m).1 w) o).1 x

  same_meeting : (j m : ℕ) → EditDone rev t n k l c m → meeting_answer rev t n k l ≡ Ok j → j ≡ m
  unfolding meeting_answer
  same_meeting j m r w = let d = sym w ∙ ap meeting_of r.verdict in let z : j ≡ r.span.meeting = cc in z ∙ r.meets

  accepted_with : (m : ℕ) (a : Answer) → meeting_answer rev t n k l ≡ a → edit_answer rev t n k l c ≡ Ok m → EditMeets rev t n k l c m
  accepted_with m (Err r) w h = absurd (let d = sym (last_of_all rev t n k l c r.refusal r.line w) ∙ h in let z : ◌≡◌ {A = ℕ} 0 1 = cc in omega arith)
  accepted_with m (Ok j) w h =
      let o = stands rev t n k l j w in
      let r = edit_done rev t n k l c m h in
      let d : j ≡ m = same_meeting j m r w in
      subst (EditMeets rev t n k l c) d
      (record { meets = (meets_exactly rev t n k l j).0 w; old = o.0; stand = o.1; no_fault = (accepted_so rev t n k l c j o.0 w o.1).0 (h ∙ ap Ok (sym d)) })

  done_with : (m : ℕ) → EditMeets rev t n k l c m → edit_answer rev t n k l c ≡ Ok m
  done_with m x = (accepted_so rev t n k l c m x.old ((meets_exactly rev t n k l m).1 x.meets) x.stand).1 x.no_fault

pub edit_refused_exactly : EditRefusedExactly
edit_refused_exactly = record {
  refused = λ rev t n k l c e i. (why rev t n k l c e i (meeting_answer rev t n k l) refl, refused_with rev t n k l c);
  done = λ rev t n k l c m. (accepted_with rev t n k l c m (meeting_answer rev t n k l) refl, done_with rev t n k l c m);
  stays = stays_exactly;
  would_meet = meets_exactly;
}
