-- The general law of runs: if two runs agree in state after the same line and the lines after it are the same, everything
-- after it is the same. A run from a state is a function of that state, the lines left and their numbers.
use mathlib.Core.Path.{◌≡◌, refl, sym, ap, ap₂, ◌∙◌, subst, subst₂}
use mathlib.Core.Bool.{Bool}
use mathlib.Core.List.{List, ◌∷◌, ◌++◌}
use Prim.Native.Nat.{ℕ, ◌+◌, ◌≤◌}
use native.Mathlib.Omega.{arith}
use lib.ListN.{length, drop}
use Rattle.runs.specs.Machine.{Out, Verdict, accepted, refused, Row, last_of, run, nil, link}
use Rattle.runs.specs.Agreement.{state_after, NothingFurther}
use Rattle.runs.proofs.Chains.{chain_drop}
use Rattle.runs.proofs.Append.{befores, Reads, run_append, run_reads}

-- a refusal after some rows is the same after others
refused_after : {C S R : Type 0} (rs ss : List (Row C S)) (v : Verdict (List (Row C S)) R) (e : R) (j : ℕ) → befores rs v ≡ refused e j → befores ss v ≡ refused e j
refused_after rs ss (accepted a) e j h = absurd (let z : ◌≡◌ {A = ℕ} 0 1 = cc in omega arith)
refused_after rs ss (refused a k) e j h = h

module _ {L C S R : Type 0} (read : ℕ → L → Out C R) (step : S → C → Out S R) where
  -- lines read as no other rows
  pub reads_same : {p : S} {ls : List L} {i : ℕ} {rs ss : List (Row C S)} → Reads read step p ls i rs → Reads read step p ls i ss → rs ≡ ss
  reads_same nil nil = refl
  reads_same (link {ls = ls} {i} {r} e f h) (link {r = q} {rs = ss} e' f' h') =
      let c : r.command ≡ q.command = cc in
      let d : r.state ≡ q.state = cc in
      ap₂ ◌∷◌ (λ j. record { command = c j; state = d j }) (reads_same h (subst (λ (s : S). Reads read step s ls (i + 1) ss) (sym d) h'))

  module _ (final : S → Bool) (short : R) where
    refusal_after : (p q : S) (xs ys : List L) (i : ℕ) (rs ss : List (Row C S)) → Reads read step p xs i rs → Reads read step q ys i ss
        → length xs ≡ length ys → last_of p rs ≡ last_of q ss → (ls : List L) (e : R) (j : ℕ)
        → run read step final short p (xs ++ ls) i ≡ refused e j → run read step final short q (ys ++ ls) i ≡ refused e j
    refusal_after p q xs ys i rs ss g h n d ls e j w =
        let same : run read step final short (last_of q ss) ls (i + length ys) ≡ run read step final short (last_of p rs) ls (i + length xs) = rw (d, n) in
        run_append read step final short h ls ∙ ap (befores ss) same
        ∙ refused_after rs ss (run read step final short (last_of p rs) ls (i + length xs)) e j (sym (run_append read step final short g ls) ∙ w)

    rows_after : (p q : S) (xs ys : List L) (i m : ℕ) (rs ss : List (Row C S))
        → run read step final short p xs i ≡ accepted rs → run read step final short q ys i ≡ accepted ss
        → m ≤ length xs → m ≤ length ys → drop m xs ≡ drop m ys → state_after p rs m ≡ state_after q ss m → drop m rs ≡ drop m ss
    rows_after p q xs ys i m rs ss g h a b e d =
        reads_same (chain_drop m (run_reads read step final short p xs i rs g).reads a)
        (subst₂ (λ (z : S) (ls : List L). Reads read step z ls (i + m) (drop m ss)) (sym d) (sym e) (chain_drop m (run_reads read step final short q ys i ss h).reads b))

    -- THE GENERAL LAW
    pub nothing_further : NothingFurther read step final short
    nothing_further = record { rows = rows_after; refusal = refusal_after }
