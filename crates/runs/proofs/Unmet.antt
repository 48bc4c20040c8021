-- How a rerun ends, also of rows that are not all found whole: it goes on without agreement up to a row at which old and new
-- states agree, or to one that stops it, or past the last. Each way out is taken exactly where this is so.
use mathlib.Core.Path.{◌≡◌, refl, sym, ap, ◌∙◌, subst}
use mathlib.Core.Bool.{Bool, true, false, false≢true}
use mathlib.Core.List.{List, [], ◌∷◌, ◌++◌, append-nil}
use Prim.Native.Nat.{ℕ, suc, ◌+◌}
use native.Mathlib.Omega.{arith}
use native.Mathlib.Nat.{add-zero}
use lib.ListN.{length}
use Rattle.lists.specs.Exactly.{Exactly}
use Rattle.lists.proofs.Choice.{cond_all}
use Rattle.runs.specs.Machine.{Out, yields, stops, Verdict, accepted, refused, Row, Entry, holds, bad, all_hold, Span, widen, last_of, rerun, StepBy}
use Rattle.runs.specs.Agreement.{Unmet, nothing, further}
use Rattle.runs.proofs.Ways.{out_all}

-- relations that say more
pub unmet_map : {C S : Type 0} {Takes Takes' : S → C → S → Type 0} → ((p : S) (c : C) (q : S) → Takes p c q → Takes' p c q)
    → {p : S} {old new : List (Row C S)} → Unmet Takes p old new → Unmet Takes' p old new
unmet_map f nothing = nothing
unmet_map f {p} (further {q = q} {r = r} t n u) = further (f p r.command q t) n (unmet_map f u)

pub unmet_length : {C S : Type 0} {Takes : S → C → S → Type 0} {p : S} {old new : List (Row C S)} → Unmet Takes p old new → length new ≡ length old
unmet_length nothing = refl
unmet_length (further t n u) = ap suc (unmet_length u)

-- what stops a rerun in state s, at the first of the rows left
pub data Halts {C S R : Type 0} (step : S → C → Out S R) (final : S → Bool) (bad_row short : R) (s : S) : List (Entry C S) → R → Type 0 where
  row_is_bad : {es : List (Entry C S)} → Halts step final bad_row short s (bad ∷ es) bad_row
  untaken : {r : Row C S} {es : List (Entry C S)} {e : R} → step s r.command ≡ stops e → Halts step final bad_row short s (holds r ∷ es) e
  too_soon : final s ≡ false → Halts step final bad_row short s [] short

module _ {C S R : Type 0} (step : S → C → Out S R) (same : S → S → Bool) (final : S → Bool) (bad_row short : R)
    (same_eq : (a b : S) → same a b ≡ true → a ≡ b) (same_refl : (a : S) → same a a ≡ true) where
  -- rows after i others rerun from state p
  pub data Ends (p : S) (i : ℕ) : List (Entry C S) → Verdict (Span C S) R → Type 0 where
    halted : {old new : List (Row C S)} {rest : List (Entry C S)} {e : R} {j : ℕ} → Unmet (StepBy step) p old new
        → Halts step final bad_row short (last_of p new) rest e → i + length new + 1 ≡ j → Ends p i (all_hold old ++ rest) (refused e j)
    met : {old new : List (Row C S)} {r : Row C S} (rest : List (Entry C S)) {s : Span C S} → Unmet (StepBy step) p old new
        → step (last_of p new) r.command ≡ yields r.state → i + length new + 1 ≡ s.meeting → new ++ (r ∷ []) ≡ s.rows
        → Ends p i (all_hold old ++ (holds r ∷ rest)) (accepted s)
    past : {old new : List (Row C S)} {s : Span C S} → Unmet (StepBy step) p old new → final (last_of p new) ≡ true
        → i + length new ≡ s.meeting → new ≡ s.rows → Ends p i (all_hold old) (accepted s)

  more : {p q : S} {i : ℕ} {r : Row C S} {es : List (Entry C S)} {v : Verdict (Span C S) R} → step p r.command ≡ yields q → (q ≡ r.state → ⊥)
      → Ends q (i + 1) es v → Ends p i (holds r ∷ es) (widen (record { command = r.command; state = q }) v)
  unfolding all_hold last_of
  more f n (halted {j = j} u h c) = halted {j = j} (further f n u) h (omega (arith, c))
  more {q = q} {r = r} f n (met rest {s = s} u h c d) =
      met rest {s = record { meeting = s.meeting; rows = record { command = r.command; state = q } ∷ s.rows }} (further f n u) h (omega (arith, c))
      (ap (λ (z : List (Row C S)). record { command = r.command; state = q } ∷ z) d)
  more {q = q} {r = r} f n (past {s = s} u h c d) =
      past {s = record { meeting = s.meeting; rows = record { command = r.command; state = q } ∷ s.rows }} (further f n u) h (omega (arith, c))
      (ap (λ (z : List (Row C S)). record { command = r.command; state = q } ∷ z) d)

  abbrev again : S → List (Entry C S) → ℕ → Verdict (Span C S) R
  again p es i = rerun step same final bad_row short p es i

  rerun_ends : (es : List (Entry C S)) (p : S) (i : ℕ) → Ends p i es (again p es i)
  unfolding rerun all_hold last_of
  rerun_ends [] p i =
      cond_all (Ends p i []) (final p) {b = refused short (i + 1)} (λ h. past nothing h (omega arith) refl)
      (λ h. halted {j = i + 1} nothing (too_soon h) (omega arith))
  rerun_ends (bad ∷ es) p i = halted {j = i + 1} nothing row_is_bad (omega arith)
  rerun_ends (holds r ∷ es) p i =
      out_all (Ends p i (holds r ∷ es)) (step p r.command) (λ e h. halted {j = i + 1} nothing (untaken h) (omega arith))
      (λ q h. cond_all (Ends p i (holds r ∷ es)) (same q r.state)
      (λ d.
      let w : q ≡ r.state = same_eq q r.state d in
      met es nothing (h ∙ ap yields w) (omega arith) (ap (λ (z : S). record { command = r.command; state = z } ∷ []) (sym w)))
      (λ d. more h (λ w. false≢true (sym d ∙ ap (same q) (sym w) ∙ same_refl q)) (rerun_ends es q (i + 1))))

  -- ---- and the other way

  widens : List (Row C S) → Verdict (Span C S) R → Verdict (Span C S) R
  widens [] v = v
  widens (r ∷ rs) v = widen r (widens rs v)

  differs : (a b : S) → (a ≡ b → ⊥) → same a b ≡ false
  differs a b n = by (same a b) refl
    where
      by : (t : Bool) → same a b ≡ t → same a b ≡ false
      by true e = absurd (n (same_eq a b e))
      by false e = e

  through : {p : S} {old new : List (Row C S)} → Unmet (StepBy step) p old new → (i : ℕ) (es : List (Entry C S))
      → again p (all_hold old ++ es) i ≡ widens new (again (last_of p new) es (i + length new))
  unfolding rerun all_hold last_of widens
  through nothing i es = rw (add-zero i) refl
  through (further {q = q} {r = r} {new = new} f n u) i es =
      let m : i + 1 + length new ≡ i + suc (length new) = omega arith in
      rw (f, differs q r.state n, through u (i + 1) es, m) refl

  widens_refused : (rs : List (Row C S)) (e : R) (j : ℕ) → widens rs (refused e j) ≡ refused e j
  unfolding widens
  widens_refused [] e j = refl
  widens_refused (r ∷ rs) e j = ap (widen r) (widens_refused rs e j)

  widens_accepted : (rs : List (Row C S)) (s : Span C S) → widens rs (accepted s) ≡ accepted (record { meeting = s.meeting; rows = rs ++ s.rows })
  unfolding widens
  widens_accepted [] s = refl
  widens_accepted (r ∷ rs) s = ap (widen r) (widens_accepted rs s)

  halts_first : {s : S} {es : List (Entry C S)} {e : R} → Halts step final bad_row short s es e → (i : ℕ)
      → again s es i ≡ refused e (i + 1)
  unfolding rerun
  halts_first row_is_bad i = refl
  halts_first (untaken h) i = rw h
  halts_first (too_soon h) i = rw h

  met_first : (s : S) (r : Row C S) (es : List (Entry C S)) (i : ℕ) → step s r.command ≡ yields r.state
      → again s (holds r ∷ es) i ≡ accepted (record { meeting = i + 1; rows = r ∷ [] })
  unfolding rerun
  met_first s r es i h = rw (h, same_refl r.state)

  past_last : (s : S) (i : ℕ) → final s ≡ true → again s [] i ≡ accepted (record { meeting = i; rows = [] })
  unfolding rerun
  past_last s i h = rw h

  ends_rerun : {p : S} {i : ℕ} {es : List (Entry C S)} {v : Verdict (Span C S) R} → Ends p i es v → again p es i ≡ v
  ends_rerun {i = i} (halted {new = new} {rest = rest} {e = e} u h c) =
      through u i rest ∙ ap (widens new) (halts_first h (i + length new)) ∙ widens_refused new e (i + length new + 1) ∙ ap (refused e) c
  ends_rerun {p} {i} (met {new = new} {r = r} rest {s = s} u h c d) =
      through u i (holds r ∷ rest) ∙ ap (widens new) (met_first (last_of p new) r rest (i + length new) h)
      ∙ widens_accepted new (record { meeting = i + length new + 1; rows = r ∷ [] }) ∙ (λ x. accepted (record { meeting = c x; rows = d x }))
  ends_rerun {p} {i} (past {old = old} {new = new} {s = s} u h c d) =
      ap (λ (z : List (Entry C S)). again p z i) (sym (append-nil (all_hold old)))
      ∙ through u i [] ∙ ap (widens new) (past_last (last_of p new) (i + length new) h)
      ∙ widens_accepted new (record { meeting = i + length new; rows = [] })
      ∙ (λ x. accepted (record { meeting = c x; rows = (append-nil new ∙ d) x }))

  -- ---- each way out is taken exactly where this is so

  pub rerun_iff : (p : S) (es : List (Entry C S)) (i : ℕ) (v : Verdict (Span C S) R)
      → Exactly (rerun step same final bad_row short p es i ≡ v) (Ends p i es v)
  rerun_iff p es i v = (λ h. subst (Ends p i es) h (rerun_ends es p i), ends_rerun)
