-- The walk over rows that must follow stops exactly at the first that is unfit, or past the last where the run has not ended.
use mathlib.Core.Path.{◌≡◌, refl, sym, ap, ◌∙◌}
use mathlib.Core.Bool.{false, false≢true}
use mathlib.Core.List.{List, [], ◌∷◌, ◌++◌}
use Prim.Native.Nat.{ℕ, ◌+◌}
use native.Mathlib.Omega.{arith}
use lib.ListN.{length}
use Rattle.lists.proofs.Choice.{cond_all}
use Rattle.runs.specs.Machine.{yields, Verdict, accepted, refused, Row, Entry, holds, bad, all_hold, before, last_of, follow, nil, link, Follows, StepBy}
use Rattle.runs.proofs.Chains.{follows_head, follows_tail}
use Rattle.runs.proofs.Ways.{out_all}
use Rattle.rules.specs.declared.Command.{Command}
use Rattle.rules.specs.declared.State.{State}
use Rattle.rules.specs.declared.Refusal.{Refusal}
use Rattle.rules.specs.Refusals.{bad_table}
use Rattle.rules.specs.State.{taken, has_ended, same_state}
use Rattle.rules.specs.Reading.{Rows}
use Rattle.rules.specs.Writing.{follow_from}
use Rattle.rules.proofs.Same.{same_state_iff}
use Rattle.demands.specs.WriteRefused.{Unfit, NotTable, unfit, unended}

-- where the walk stops, the rows are none of a good table
abbrev pub Stopped : State → ℕ → List (Entry Command State) → Verdict Rows Refusal → Type 0
Stopped p i es (accepted rs) = Unit {0}
Stopped p i es (refused e j) = (e ≡ bad_table) × NotTable p i es j

later : (p : State) (i : ℕ) (r : Row Command State) {es : List (Entry Command State)} {j : ℕ} → taken p r.command ≡ yields r.state
    → NotTable r.state (i + 1) es j → NotTable p i (holds r ∷ es) j
unfolding all_hold last_of
later p i r t (unfit rs e es {j = j} f u c) = unfit (r ∷ rs) e es {j = j} (link refl t f) u (omega (arith, c))
later p i r t (unended rs {j = j} f d c) = unended (r ∷ rs) {j = j} (link refl t f) d (omega (arith, c))

stopped_later : (p : State) (i : ℕ) (r : Row Command State) (es : List (Entry Command State)) (v : Verdict Rows Refusal)
    → taken p r.command ≡ yields r.state → Stopped r.state (i + 1) es v → Stopped p i (holds r ∷ es) (before r v)
stopped_later p i r es (accepted rs) t h = tt
stopped_later p i r es (refused e j) t h = (h.0, later p i r t h.1)

here : (p : State) (i : ℕ) (e : Entry Command State) (es : List (Entry Command State)) → Unfit p e → NotTable p i (e ∷ es) (i + 1)
unfolding all_hold last_of
here p i e es u = unfit [] e es {j = i + 1} nil u (omega arith)

pub walk_stops : (es : List (Entry Command State)) (p : State) (i : ℕ) → Stopped p i es (follow_from p es i)
unfolding follow all_hold last_of
walk_stops [] p i = cond_all (Stopped p i []) (has_ended p) (λ _. tt) (λ h. (refl, unended [] {j = i} nil h (omega arith)))
walk_stops (bad ∷ es) p i = (refl, here p i bad es tt)
walk_stops (holds r ∷ es) p i =
    out_all (Stopped p i (holds r ∷ es)) (taken p r.command)
    (λ e h. (refl, here p i (holds r) es (λ w. let z : ◌≡◌ {A = ℕ} 0 1 = cc in omega arith)))
    (λ q h. cond_all (Stopped p i (holds r ∷ es)) (same_state q r.state)
    (λ e. let d : q ≡ r.state = (same_state_iff q r.state).0 e in
    rw d (stopped_later p i r es (follow_from r.state es (i + 1)) (h ∙ ap yields d) (walk_stops es r.state (i + 1))))
    (λ e. (refl, here p i (holds r) es (λ w. let d : q ≡ r.state = cc in false≢true (sym e ∙ (same_state_iff q r.state).1 d)))))

-- and the other way
here_stops : (p : State) (i : ℕ) (r : Row Command State) (es : List (Entry Command State)) → Unfit p (holds r) → follow_from p (holds r ∷ es) i ≡ refused bad_table (i + 1)
unfolding follow
here_stops p i r es u =
    out_all (λ v. v ≡ refused bad_table (i + 1)) (taken p r.command) (λ _ _. refl)
    (λ q h. cond_all (λ v. v ≡ refused bad_table (i + 1)) (same_state q r.state)
    (λ e. absurd (u (h ∙ ap yields ((same_state_iff q r.state).0 e)))) (λ _. refl))

unfit_stops : (rs : Rows) (p : State) (i j : ℕ) (e : Entry Command State) (es : List (Entry Command State)) → Follows (StepBy taken) p i rs → Unfit (last_of p rs) e → i + length rs + 1 ≡ j
    → follow_from p (all_hold rs ++ (e ∷ es)) i ≡ refused bad_table j
unfolding follow all_hold last_of
unfit_stops [] p i j bad es f u c = ap (refused bad_table) (omega arith)
unfit_stops [] p i j (holds r) es f u c = here_stops p i r es u ∙ ap (refused bad_table) (omega arith)
unfit_stops (r ∷ rs) p i j e es f u c = rw (follows_head f, (same_state_iff r.state r.state).1 refl, unfit_stops rs r.state (i + 1) j e es (follows_tail f) u (omega arith))

unended_stops : (rs : Rows) (p : State) (i j : ℕ) → Follows (StepBy taken) p i rs → has_ended (last_of p rs) ≡ false → i + length rs ≡ j → follow_from p (all_hold rs) i ≡ refused bad_table j
unfolding follow all_hold last_of
unended_stops [] p i j f d c = rw d (ap (refused bad_table) (omega arith))
unended_stops (r ∷ rs) p i j f d c = rw (follows_head f, (same_state_iff r.state r.state).1 refl, unended_stops rs r.state (i + 1) j (follows_tail f) d (omega arith))

pub stops_walk : {p : State} {i j : ℕ} {es : List (Entry Command State)} → NotTable p i es j → follow_from p es i ≡ refused bad_table j
stops_walk {p} {i} (unfit rs e es {j = j} f u c) = unfit_stops rs p i j e es f u c
stops_walk {p} {i} (unended rs {j = j} f d c) = unended_stops rs p i j f d c
