-- A rerun of rows that lines read as is a fresh run of those lines: up to the meeting line it does what the run does, and
-- from there on the run is the old one, since it starts in the same state.
use mathlib.Core.Path.{◌≡◌, refl, sym, ap, ◌∙◌}
use mathlib.Core.Bool.{Bool, true, false, cond}
use mathlib.Core.List.{List, [], ◌∷◌, ◌++◌}
use Prim.Native.Nat.{ℕ, ◌+◌}
use lib.ListN.{length, drop}
use Rattle.runs.specs.Machine.{Out, yields, stops, on_out, Verdict, accepted, refused, Row, holds, all_hold, Span, before, widen, last_of, run, rerun, nil, link}
use Rattle.runs.proofs.Append.{Reads, reads_run}

-- what a rerun says of all the rows: the new ones, and after them the old
abbrev pub told : {C S R : Type 0} → List (Row C S) → Verdict (Span C S) R → Verdict (List (Row C S)) R
told rs (accepted s) = accepted (s.rows ++ drop (length s.rows) rs)
told rs (refused e i) = refused e i

told_widen : {C S R : Type 0} (n r : Row C S) (rs : List (Row C S)) (v : Verdict (Span C S) R) → before n (told rs v) ≡ told (r ∷ rs) (widen n v)
told_widen n r rs (accepted s) = refl
told_widen n r rs (refused e i) = refl

told_past : {C S R : Type 0} (b : Bool) (i : ℕ) (e : R)
    → ◌≡◌ {A = Verdict (List (Row C S)) R} (cond b (accepted []) (refused e (i + 1))) (told [] (cond b (accepted (record { meeting = i; rows = [] })) (refused e (i + 1))))
told_past true i e = refl
told_past false i e = refl

module _ {L C S R : Type 0} (read : ℕ → L → Out C R) (step : S → C → Out S R) (same : S → S → Bool) (final : S → Bool) (short bad_row : R)
    (same_eq : (a b : S) → same a b ≡ true → a ≡ b) where
  module _ (r : Row C S) (ls : List L) (rs : List (Row C S)) (i : ℕ) (h : Reads read step r.state ls (i + 1) rs) (d : final (last_of r.state rs) ≡ true)
      (ih : (q : S) → run read step final short q ls (i + 1) ≡ told rs (rerun step same final bad_row short q (all_hold rs) (i + 1))) where
    fresh_next : (n : Row C S) (b : Bool) → b ≡ same n.state r.state
        → before n (run read step final short n.state ls (i + 1))
        ≡ told (r ∷ rs) (cond b (accepted (record { meeting = i + 1; rows = n ∷ [] })) (widen n (rerun step same final bad_row short n.state (all_hold rs) (i + 1))))
    fresh_next n true w =
        let e : run read step final short n.state ls (i + 1) ≡ accepted rs = rw (same_eq n.state r.state (sym w)) (reads_run read step final short h d) in
        ap (before n) e
    fresh_next n false w = ap (before n) (ih n.state) ∙ told_widen n r rs (rerun step same final bad_row short n.state (all_hold rs) (i + 1))

    fresh_out : (x : Out S R)
        → on_out x (λ e. refused e (i + 1)) (λ q. before (record { command = r.command; state = q }) (run read step final short q ls (i + 1)))
        ≡ told (r ∷ rs) (on_out x (λ e. refused e (i + 1))
        (λ q. cond (same q r.state) (accepted (record { meeting = i + 1; rows = record { command = r.command; state = q } ∷ [] }))
        (widen (record { command = r.command; state = q }) (rerun step same final bad_row short q (all_hold rs) (i + 1)))))
    fresh_out (stops e) = refl
    fresh_out (yields q) = fresh_next (record { command = r.command; state = q }) (same q r.state) refl

  -- lines that read as rows from some state, run from another
  pub rerun_fresh : {o : S} {ls : List L} {i : ℕ} {rs : List (Row C S)} → Reads read step o ls i rs → final (last_of o rs) ≡ true → (q : S)
      → run read step final short q ls i ≡ told rs (rerun step same final bad_row short q (all_hold rs) i)
  unfolding run rerun all_hold last_of
  rerun_fresh {i = i} nil d q = told_past (final q) i short
  rerun_fresh (link {ls = ls} {i} {r} {rs} e f h) d q = rw e (fresh_out r ls rs i h d (rerun_fresh h d) (step q r.command))

  -- the same where the first row's state need not be its command's: a line given another command
  pub rerun_line : (l : L) (ls : List L) (r : Row C S) (rs : List (Row C S)) (i : ℕ) → read (i + 1) l ≡ yields r.command
      → Reads read step r.state ls (i + 1) rs → final (last_of r.state rs) ≡ true → (q : S)
      → run read step final short q (l ∷ ls) i ≡ told (r ∷ rs) (rerun step same final bad_row short q (holds r ∷ all_hold rs) i)
  unfolding run rerun
  rerun_line l ls r rs i e h d q = rw e (fresh_out r ls rs i h d (rerun_fresh h d) (step q r.command))

  -- a line that no command reads from is a refusal at its place
  pub run_unread : (l : L) (ls : List L) (i : ℕ) (e : R) → read (i + 1) l ≡ stops e → (q : S) → run read step final short q (l ∷ ls) i ≡ refused e (i + 1)
  unfolding run
  run_unread l ls i e h q = rw h
