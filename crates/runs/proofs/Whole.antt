-- The rows in whose place an accepted rerun's rows come are whole.
use mathlib.Core.Path.{◌≡◌, refl, sym, ap, ◌∙◌, subst}
use mathlib.Core.Bool.{Bool}
use mathlib.Core.List.{List, [], ◌∷◌}
use Prim.Native.Nat.{ℕ, ◌+◌}
use lib.ListN.{length, take, drop}
use Rattle.lists.proofs.Choice.{cond_all}
use Rattle.runs.specs.Machine.{Out, Verdict, accepted, refused, Row, Entry, holds, bad, all_hold, whole_rows, Span, widen, rerun}
use Rattle.runs.proofs.Ways.{out_all}
use Rattle.runs.proofs.Hold.{hold_take, hold_drop}

abbrev pub AllWhole : {C S : Type 0} → List (Entry C S) → Type 0
AllWhole [] = Unit {0}
AllWhole (holds r ∷ es) = AllWhole es
AllWhole (bad ∷ es) = ⊥

module _ {C S : Type 0} where
  pub whole_all : (es : List (Entry C S)) → AllWhole es → es ≡ all_hold (whole_rows es)
  unfolding all_hold whole_rows
  whole_all [] h = refl
  whole_all (holds r ∷ es) h = ap (◌∷◌ (holds r)) (whole_all es h)
  whole_all (bad ∷ es) h = absurd h

  hold_whole : (rs : List (Row C S)) → whole_rows (all_hold rs) ≡ rs
  unfolding whole_rows all_hold
  hold_whole [] = refl
  hold_whole (r ∷ rs) = ap (◌∷◌ r) (hold_whole rs)

  -- some of rows that are
  pub whole_part : (rs : List (Row C S)) (i j : ℕ) → whole_rows (take j (drop i (all_hold rs))) ≡ take j (drop i rs)
  whole_part rs i j = rw (hold_drop i rs, hold_take j (drop i rs)) (hold_whole (take j (drop i rs)))

  -- rows that stand whole are these
  pub hold_one : (rs ss : List (Row C S)) → all_hold rs ≡ all_hold ss → rs ≡ ss
  hold_one rs ss e = sym (hold_whole rs) ∙ ap whole_rows e ∙ hold_whole ss

module _ {C S R : Type 0} (step : S → C → Out S R) (same : S → S → Bool) (final : S → Bool) (bad_row short : R) where
  Whole : List (Entry C S) → Verdict (Span C S) R → Type 0
  Whole es (accepted s) = AllWhole (take (length s.rows) es)
  Whole es (refused e i) = Unit {0}

  whole_widen : (new r : Row C S) (es : List (Entry C S)) (v : Verdict (Span C S) R) → Whole es v → Whole (holds r ∷ es) (widen new v)
  unfolding Whole
  whole_widen new r es (accepted s) h = h
  whole_widen new r es (refused e i) h = tt

  rerun_stood : (p : S) (es : List (Entry C S)) (i : ℕ) → Whole es (rerun step same final bad_row short p es i)
  unfolding rerun Whole
  rerun_stood p [] i = cond_all (Whole []) (final p) (λ _. tt) (λ _. tt)
  rerun_stood p (bad ∷ es) i = tt
  rerun_stood p (holds r ∷ es) i =
      out_all (Whole (holds r ∷ es)) (step p r.command) (λ _ _. tt)
      (λ q _. cond_all (Whole (holds r ∷ es)) (same q r.state) (λ _. tt)
      (λ _. whole_widen (record { command = r.command; state = q }) r es (rerun step same final bad_row short q es (i + 1)) (rerun_stood q es (i + 1))))

  pub rerun_whole : (p : S) (es : List (Entry C S)) (i : ℕ) (s : Span C S) → rerun step same final bad_row short p es i ≡ accepted s → AllWhole (take (length s.rows) es)
  unfolding Whole
  rerun_whole p es i s e = subst (Whole es) e (rerun_stood p es i)
