-- A run, taken apart: which rows lines read as, whether or not the run ends there; a run accepts exactly the rows that its
-- lines read as, where the last state has final; and a run of lines and then others goes on from the state reached.
use mathlib.Core.Path.{◌≡◌, refl, sym, ap, subst}
use mathlib.Core.Bool.{Bool, true, false, cond}
use mathlib.Core.List.{List, [], ◌∷◌, ◌++◌}
use Prim.Native.Nat.{ℕ, suc, ◌+◌, ◌≤◌}
use native.Mathlib.Omega.{arith}
use native.Mathlib.Nat.{add-zero}
use lib.ListN.{length}
use Rattle.runs.specs.Machine.{Out, yields, stops, on_out, Verdict, accepted, refused, Row, before, last_of, run, Chain, nil, link, ReadBy, StepBy}

-- rows before what a run gives: its rows, or its refusal
abbrev pub befores : {C S R : Type 0} → List (Row C S) → Verdict (List (Row C S)) R → Verdict (List (Row C S)) R
befores rs (accepted ss) = accepted (rs ++ ss)
befores rs (refused e i) = refused e i

-- lines after i others, from state p, read as rows: each as the row's command, whose step yields the row's state
abbrev pub Reads : {L C S R : Type 0} → (ℕ → L → Out C R) → (S → C → Out S R) → S → List L → ℕ → List (Row C S) → Type 0
Reads read step p ls i rs = Chain (ReadBy read) (StepBy step) p i ls rs

-- what an accepted run has: rows that its lines read as, and a last state that has final
pub record Accepts {L C S R : Type 0} (read : ℕ → L → Out C R) (step : S → C → Out S R) (final : S → Bool) (p : S) (ls : List L) (i : ℕ) (rs : List (Row C S)) : Type 0 where
  pub reads : Reads read step p ls i rs
  pub ends : final (last_of p rs) ≡ true

befores_none : {C S R : Type 0} (v : Verdict (List (Row C S)) R) → befores [] v ≡ v
befores_none (accepted rs) = refl
befores_none (refused e i) = refl

befores_one : {C S R : Type 0} (r : Row C S) (rs : List (Row C S)) (v : Verdict (List (Row C S)) R) → before r (befores rs v) ≡ befores (r ∷ rs) v
befores_one r rs (accepted ss) = refl
befores_one r rs (refused e i) = refl

module _ {L C S R : Type 0} (read : ℕ → L → Out C R) (step : S → C → Out S R) (final : S → Bool) (short : R) where
  -- ---- lines, and then others

  -- lines that read as rows, and then others: those rows, and then a run from the state reached
  pub run_append : {p : S} {xs : List L} {i : ℕ} {rs : List (Row C S)} → Reads read step p xs i rs → (ys : List L)
      → run read step final short p (xs ++ ys) i ≡ befores rs (run read step final short (last_of p rs) ys (i + length xs))
  unfolding run last_of
  run_append {p} {i = i} nil ys = rw (add-zero i) (sym (befores_none (run read step final short p ys i)))
  run_append {p} (link {l = l} {ls} {i} {r} {rs} e f h) ys =
      let n : i + 1 + length ls ≡ i + suc (length ls) = omega arith in
      rw (e, f, run_append h ys, n) (befores_one r rs (run read step final short (last_of r.state rs) ys (i + suc (length ls))))

  -- a fault among the lines is the fault of those lines with any others after them
  not_before : (r : Row C S) (v : Verdict (List (Row C S)) R) {e : R} {j : ℕ} → before r v ≡ refused e j → v ≡ refused e j
  not_before r (accepted rs) h = absurd (let z : ◌≡◌ {A = ℕ} 0 1 = cc in omega arith)
  not_before r (refused e i) h = h

  stop_step : (p : S) (c : C) (i : ℕ) (v w : S → Verdict (List (Row C S)) R) (e : R) (j : ℕ) (x : Out S R)
      → ((q : S) → v q ≡ refused e j → w q ≡ refused e j)
      → on_out x (λ a. refused a (i + 1)) (λ q. before (record { command = c; state = q }) (v q)) ≡ refused e j
      → on_out x (λ a. refused a (i + 1)) (λ q. before (record { command = c; state = q }) (w q)) ≡ refused e j
  stop_step p c i v w e j (stops a) ih h = h
  stop_step p c i v w e j (yields q) ih h = ap (before (record { command = c; state = q })) (ih q (not_before (record { command = c; state = q }) (v q) h))

  stop_line : (p : S) (i : ℕ) (v w : S → Verdict (List (Row C S)) R) (e : R) (j : ℕ) (x : Out C R)
      → ((q : S) → v q ≡ refused e j → w q ≡ refused e j)
      → on_out x (λ a. refused a (i + 1)) (λ c. on_out (step p c) (λ a. refused a (i + 1)) (λ q. before (record { command = c; state = q }) (v q))) ≡ refused e j
      → on_out x (λ a. refused a (i + 1)) (λ c. on_out (step p c) (λ a. refused a (i + 1)) (λ q. before (record { command = c; state = q }) (w q))) ≡ refused e j
  stop_line p i v w e j (stops a) ih h = h
  stop_line p i v w e j (yields c) ih h = stop_step p c i v w e j (step p c) ih h

  stop_end : (b : Bool) (i j : ℕ) (e : R) → j ≤ i → ◌≡◌ {A = Verdict (List (Row C S)) R} (cond b (accepted []) (refused short (i + 1))) (refused e j) → ⊥
  stop_end true i j e h w = let z : ◌≡◌ {A = ℕ} 0 1 = cc in omega arith
  stop_end false i j e h w = let z : i + 1 ≡ j = cc in omega arith

  pub run_stops : (p : S) (xs ys : List L) (i : ℕ) (e : R) (j : ℕ) → j ≤ i + length xs
      → run read step final short p xs i ≡ refused e j → run read step final short p (xs ++ ys) i ≡ refused e j
  unfolding run
  run_stops p [] ys i e j h w = absurd (stop_end (final p) i j e (omega arith) w)
  run_stops p (x ∷ xs) ys i e j h w =
      stop_line p i (λ q. run read step final short q xs (i + 1)) (λ q. run read step final short q (xs ++ ys) (i + 1)) e j (read (i + 1) x)
      (λ q. run_stops q xs ys (i + 1) e j (omega arith)) w

  -- ---- a run accepts what its lines read as

  pub reads_run : {p : S} {ls : List L} {i : ℕ} {rs : List (Row C S)} → Reads read step p ls i rs → final (last_of p rs) ≡ true
      → run read step final short p ls i ≡ accepted rs
  unfolding run last_of
  reads_run nil d = rw d
  reads_run (link {i = i} e f h) d = rw (e, f, reads_run h d)

  accepts_none : (p : S) (i : ℕ) (rs : List (Row C S)) (b : Bool) → b ≡ final p
      → ◌≡◌ {A = Verdict (List (Row C S)) R} (cond b (accepted []) (refused short (i + 1))) (accepted rs) → Accepts read step final p [] i rs
  unfolding last_of
  accepts_none p i rs true d h = let e : [] ≡ rs = cc in subst (Accepts read step final p [] i) e (record { reads = nil; ends = sym d })
  accepts_none p i rs false d h = absurd (let z : ◌≡◌ {A = ℕ} 0 1 = cc in omega arith)

  module _ (p : S) (l : L) (ls : List L) (i : ℕ) (rs : List (Row C S))
      (ih : (q : S) (ss : List (Row C S)) → run read step final short q ls (i + 1) ≡ accepted ss → Accepts read step final q ls (i + 1) ss) where
    accepts_rest : (r : Row C S) (v : Verdict (List (Row C S)) R) → v ≡ run read step final short r.state ls (i + 1)
        → read (i + 1) l ≡ yields r.command → step p r.command ≡ yields r.state → before r v ≡ accepted rs → Accepts read step final p (l ∷ ls) i rs
    unfolding last_of
    accepts_rest r (accepted ss) w e f h =
        let a = ih r.state ss (sym w) in
        let d : r ∷ ss ≡ rs = cc in
        subst (Accepts read step final p (l ∷ ls) i) d (record { reads = link e f a.reads; ends = a.ends })
    accepts_rest r (refused a j) w e f h = absurd (let z : ◌≡◌ {A = ℕ} 0 1 = cc in omega arith)

    accepts_step : (c : C) (x : Out S R) → x ≡ step p c → read (i + 1) l ≡ yields c
        → on_out x (λ a. refused a (i + 1)) (λ q. before (record { command = c; state = q }) (run read step final short q ls (i + 1))) ≡ accepted rs
        → Accepts read step final p (l ∷ ls) i rs
    accepts_step c (yields q) w e h = accepts_rest (record { command = c; state = q }) (run read step final short q ls (i + 1)) refl e (sym w) h
    accepts_step c (stops a) w e h = absurd (let z : ◌≡◌ {A = ℕ} 0 1 = cc in omega arith)

    accepts_line : (x : Out C R) → x ≡ read (i + 1) l
        → on_out x (λ a. refused a (i + 1)) (λ c. on_out (step p c) (λ a. refused a (i + 1)) (λ q. before (record { command = c; state = q }) (run read step final short q ls (i + 1)))) ≡ accepted rs
        → Accepts read step final p (l ∷ ls) i rs
    accepts_line (yields c) w h = accepts_step c (step p c) refl (sym w) h
    accepts_line (stops a) w h = absurd (let z : ◌≡◌ {A = ℕ} 0 1 = cc in omega arith)

  pub run_reads : (p : S) (ls : List L) (i : ℕ) (rs : List (Row C S)) → run read step final short p ls i ≡ accepted rs → Accepts read step final p ls i rs
  unfolding run
  run_reads p [] i rs h = accepts_none p i rs (final p) refl h
  run_reads p (l ∷ ls) i rs h = accepts_line p l ls i rs (λ q ss. run_reads q ls (i + 1) ss) (read (i + 1) l) refl h
