-- Where a rerun ends: at the first line after which old and new states agree, or past the last row with the run final.
-- The rows that it makes, with the old ones after them, follow one from another.
use mathlib.Core.Path.{◌≡◌, refl, sym, ap, ◌∙◌, subst}
use mathlib.Core.Bool.{Bool, true, false, false≢true, cond}
use mathlib.Core.List.{List, [], ◌∷◌, ◌++◌}
use Prim.Native.Nat.{ℕ, zero, suc, ◌+◌, ◌<◌, ◌≤◌}
use native.Mathlib.Omega.{arith}
use native.Mathlib.Decide.{dec_lt}
use lib.ListN.{length, take, drop}
use Rattle.runs.specs.Machine.{Out, yields, stops, on_out, Verdict, accepted, refused, Row, Entry, holds, bad, all_hold, Span, widen, commands_of, last_of, rerun, nil, link, Follows, StepBy}
use Rattle.runs.specs.Agreement.{state_after, FirstAgreement}
use Rattle.runs.specs.Edits.{Ended}
use Rattle.runs.proofs.Chains.{follows_tail}

-- old rows redone from a state as new rows: each command's step, up to the first whose state is the old one
pub data Redone {C S R : Type 0} (step : S → C → Out S R) (final : S → Bool) : S → List (Row C S) → List (Row C S) → Type 0 where
  past : {p : S} → final p ≡ true → Redone step final p [] []
  met : {p q : S} {r : Row C S} {rs : List (Row C S)} → step p r.command ≡ yields q → r.state ≡ q
      → Redone step final p (r ∷ rs) (record { command = r.command; state = q } ∷ [])
  on : {p q : S} {r : Row C S} {rs ns : List (Row C S)} → step p r.command ≡ yields q → (r.state ≡ q → ⊥) → Redone step final q rs ns
      → Redone step final p (r ∷ rs) (record { command = r.command; state = q } ∷ ns)

-- an accepted rerun: its rows, and its meeting line by their count
pub record Met {C S R : Type 0} (step : S → C → Out S R) (final : S → Bool) (p : S) (rs : List (Row C S)) (i : ℕ) (s : Span C S) : Type 0 where
  pub redone : Redone step final p rs s.rows
  pub counted : s.meeting ≡ i + length s.rows

module _ {C S R : Type 0} (step : S → C → Out S R) (same : S → S → Bool) (final : S → Bool) (bad_row short : R)
    (same_eq : (a b : S) → same a b ≡ true → a ≡ b) (same_refl : (a : S) → same a a ≡ true) where
  met_past : (p : S) (i : ℕ) (s : Span C S) (b : Bool) → b ≡ final p
      → ◌≡◌ {A = Verdict (Span C S) R} (cond b (accepted (record { meeting = i; rows = [] })) (refused short (i + 1))) (accepted s) → Met step final p [] i s
  met_past p i s true d h =
      let e : record { meeting = i; rows = [] } ≡ s = cc in
      subst (Met step final p [] i) e (record { redone = past (sym d); counted = omega arith })
  met_past p i s false d h = absurd (let z : ◌≡◌ {A = ℕ} 0 1 = cc in omega arith)

  module _ (p : S) (r : Row C S) (rs : List (Row C S)) (i : ℕ) (s : Span C S)
      (ih : (q : S) (s : Span C S) → rerun step same final bad_row short q (all_hold rs) (i + 1) ≡ accepted s → Met step final q rs (i + 1) s) where
    module _ (q : S) (f : step p r.command ≡ yields q) where
      met_on : (r.state ≡ q → ⊥) → (v : Verdict (Span C S) R) → v ≡ rerun step same final bad_row short q (all_hold rs) (i + 1)
          → widen (record { command = r.command; state = q }) v ≡ accepted s → Met step final p (r ∷ rs) i s
      met_on ne (accepted t) w h =
          let a = ih q t (sym w) in
          let e : record { meeting = t.meeting; rows = record { command = r.command; state = q } ∷ t.rows } ≡ s = cc in
          subst (Met step final p (r ∷ rs) i) e (record { redone = on f ne a.redone; counted = omega (arith, a.counted) })
      met_on ne (refused e j) w h = absurd (let z : ◌≡◌ {A = ℕ} 0 1 = cc in omega arith)

      met_next : (b : Bool) → b ≡ same q r.state
          → cond b (accepted (record { meeting = i + 1; rows = record { command = r.command; state = q } ∷ [] }))
          (widen (record { command = r.command; state = q }) (rerun step same final bad_row short q (all_hold rs) (i + 1))) ≡ accepted s
          → Met step final p (r ∷ rs) i s
      met_next true w h =
          let e : record { meeting = i + 1; rows = record { command = r.command; state = q } ∷ [] } ≡ s = cc in
          subst (Met step final p (r ∷ rs) i) e (record { redone = met f (sym (same_eq q r.state (sym w))); counted = omega arith })
      met_next false w h =
          met_on (λ e. false≢true (w ∙ rw e (same_refl q))) (rerun step same final bad_row short q (all_hold rs) (i + 1)) refl h

    met_out : (x : Out S R) → x ≡ step p r.command
        → on_out x (λ e. refused e (i + 1))
        (λ q. cond (same q r.state) (accepted (record { meeting = i + 1; rows = record { command = r.command; state = q } ∷ [] }))
        (widen (record { command = r.command; state = q }) (rerun step same final bad_row short q (all_hold rs) (i + 1)))) ≡ accepted s
        → Met step final p (r ∷ rs) i s
    met_out (stops e) w h = absurd (let z : ◌≡◌ {A = ℕ} 0 1 = cc in omega arith)
    met_out (yields q) w h = met_next q (sym w) (same q r.state) refl h

  pub rerun_met : (p : S) (rs : List (Row C S)) (i : ℕ) (s : Span C S) → rerun step same final bad_row short p (all_hold rs) i ≡ accepted s
      → Met step final p rs i s
  unfolding rerun all_hold
  rerun_met p [] i s h = met_past p i s (final p) refl h
  rerun_met p (r ∷ rs) i s h = met_out p r rs i s (λ q t. rerun_met q rs (i + 1) t) (step p r.command) refl h

-- ---- what redone rows have

module _ {C S R : Type 0} (step : S → C → Out S R) (final : S → Bool) where
  pub redone_upto : {p : S} {rs ns : List (Row C S)} → Redone step final p rs ns → length ns ≤ length rs
  redone_upto (past d) = omega arith
  redone_upto (met f e) = omega arith
  redone_upto (on f ne h) = omega (arith, redone_upto h)

  pub redone_some : {p : S} {rs ns : List (Row C S)} → Redone step final p rs ns → 0 < length rs → 0 < length ns
  redone_some (past d) h = h
  redone_some (met f e) h = omega arith
  redone_some (on f ne g) h = omega arith

  -- the commands stay
  pub redone_commands : {p : S} {rs ns : List (Row C S)} → Redone step final p rs ns
      → commands_of ns ≡ commands_of (take (length ns) rs)
  unfolding commands_of
  redone_commands (past d) = refl
  redone_commands (met f e) = refl
  redone_commands (on {r = r} f ne h) = ap (λ (cs : List C). r.command ∷ cs) (redone_commands h)

  -- before the meeting line the states differ
  pub redone_differ : {p : S} {rs ns : List (Row C S)} → Redone step final p rs ns → (o : S) (j : ℕ) → suc j < length ns
      → state_after o rs (suc j) ≡ state_after p ns (suc j) → ⊥
  unfolding last_of
  redone_differ (past d) o j h e = omega arith
  redone_differ (met f g) o j h e = omega arith
  redone_differ (on f ne g) o zero h e = ne e
  redone_differ (on {r = r} f ne g) o (suc j) h e = redone_differ g r.state j (omega arith) e

  -- at it they agree, unless it is the last
  pub redone_agrees : {p : S} {rs ns : List (Row C S)} → Redone step final p rs ns → (o : S) → length ns < length rs
      → state_after o rs (length ns) ≡ last_of p ns
  unfolding last_of
  redone_agrees (past d) o h = absurd (omega arith)
  redone_agrees (met f e) o h = e
  redone_agrees (on {r = r} f ne g) o h = redone_agrees g r.state (omega arith)

  -- rows after i others that follow and end, but for the first, whose state is taken as it stands
  abbrev Stands : ℕ → List (Row C S) → Type 0
  Stands i [] = Unit {0}
  Stands i (r ∷ rs) = Follows (StepBy step) r.state (i + 1) rs × (final (last_of r.state rs) ≡ true)

  stands : (o : S) (i : ℕ) (rs : List (Row C S)) → Follows (StepBy step) o i rs → final (last_of o rs) ≡ true → Stands i rs
  unfolding last_of
  stands o i [] g d = tt
  stands o i (r ∷ rs) g d = (follows_tail g, d)

  redone_ended : {p : S} {rs ns : List (Row C S)} (i : ℕ) → Redone step final p rs ns → Stands i rs → Ended step final p i (ns ++ drop (length ns) rs)
  unfolding last_of
  redone_ended i (past d) g = record { follows = nil; ends = d }
  redone_ended i (met {rs = rs} f e) g = record {
    follows = link refl f (subst (λ (z : S). Follows (StepBy step) z (i + 1) rs) e g.0);
    ends = subst (λ (z : S). final (last_of z rs) ≡ true) e g.1;
  }
  redone_ended i (on {r = r} {rs} f ne h) g =
      let a = redone_ended (i + 1) h (stands r.state (i + 1) rs g.0 g.1) in
      record { follows = link refl f a.follows; ends = a.ends }

  -- the new rows, and the old ones after them, make a table
  pub redone_follows : {p : S} {r : Row C S} {rs ns : List (Row C S)} (i : ℕ) → Redone step final p (r ∷ rs) ns
      → Follows (StepBy step) r.state (i + 1) rs → final (last_of r.state rs) ≡ true → Ended step final p i (ns ++ drop (length ns) (r ∷ rs))
  redone_follows i h g d = redone_ended i h (g, d)

-- ---- how many rows a rerun makes, also of rows that are not all found whole

-- the rows of a span after i others: its meeting line by their count, and at most n of them
abbrev Counts : {C S R : Type 0} → ℕ → ℕ → Verdict (Span C S) R → Type 0
Counts i n (accepted s) = (s.meeting ≡ i + length s.rows) × (length s.rows ≤ n)
Counts i n (refused e j) = Unit {0}

counts_widen : {C S R : Type 0} (r : Row C S) (i n : ℕ) (v : Verdict (Span C S) R) → Counts (i + 1) n v → Counts i (suc n) (widen r v)
counts_widen r i n (accepted s) h = (omega arith, omega arith)
counts_widen r i n (refused e j) h = tt

module _ {C S R : Type 0} (step : S → C → Out S R) (same : S → S → Bool) (final : S → Bool) (bad_row short : R) where
  counts_next : (n : Row C S) (o : S) (es : List (Entry C S)) (i : ℕ) (b : Bool) → Counts (i + 1) (length es) (rerun step same final bad_row short n.state es (i + 1))
      → Counts i (suc (length es)) (cond b (accepted (record { meeting = i + 1; rows = n ∷ [] })) (widen n (rerun step same final bad_row short n.state es (i + 1))))
  counts_next n o es i true h = (omega arith, omega arith)
  counts_next n o es i false h = counts_widen n i (length es) (rerun step same final bad_row short n.state es (i + 1)) h

  counts_out : (r : Row C S) (es : List (Entry C S)) (i : ℕ) (x : Out S R)
      → ((q : S) → Counts (i + 1) (length es) (rerun step same final bad_row short q es (i + 1)))
      → Counts i (suc (length es)) (on_out x (λ e. refused e (i + 1))
      (λ q. cond (same q r.state) (accepted (record { meeting = i + 1; rows = record { command = r.command; state = q } ∷ [] }))
      (widen (record { command = r.command; state = q }) (rerun step same final bad_row short q es (i + 1)))))
  counts_out r es i (stops e) ih = tt
  counts_out r es i (yields q) ih = counts_next (record { command = r.command; state = q }) r.state es i (same q r.state) (ih q)

  counts_past : (b : Bool) (i : ℕ) → Counts {C = C} {S = S} i 0 (cond b (accepted (record { meeting = i; rows = [] })) (refused short (i + 1)))
  counts_past true i = (omega arith, omega arith)
  counts_past false i = tt

  rerun_counts : (p : S) (es : List (Entry C S)) (i : ℕ) → Counts i (length es) (rerun step same final bad_row short p es i)
  unfolding rerun
  rerun_counts p [] i = counts_past (final p) i
  rerun_counts p (bad ∷ es) i = tt
  rerun_counts p (holds r ∷ es) i = counts_out r es i (step p r.command) (λ q. rerun_counts q es (i + 1))

  pub rerun_counted : (p : S) (es : List (Entry C S)) (i : ℕ) (s : Span C S) → rerun step same final bad_row short p es i ≡ accepted s
      → (s.meeting ≡ i + length s.rows) × (length s.rows ≤ length es)
  rerun_counted p es i s e = subst (Counts i (length es)) e (rerun_counts p es i)

-- ---- one meeting line

not_earlier : {C S : Type 0} {p : S} {old new : List (Row C S)} {k m n : ℕ} → FirstAgreement p old new k m → FirstAgreement p old new k n → m < n → ⊥
not_earlier {m = m} a b h = b.differ m a.from h (a.agrees (omega (arith, h, b.upto)))

pub one_meeting : {C S : Type 0} {p : S} {old new : List (Row C S)} {k m n : ℕ} → FirstAgreement p old new k m → FirstAgreement p old new k n → m ≡ n
one_meeting {m = m} {n} a b = go (dec_lt m n) (dec_lt n m)
  where
    go : Dec (m < n) → Dec (n < m) → m ≡ n
    go (yes h) _ = absurd (not_earlier a b h)
    go (no h) (yes j) = absurd (not_earlier b a j)
    go (no h) (no j) = omega arith
