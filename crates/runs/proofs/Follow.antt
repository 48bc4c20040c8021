-- The test that rows follow accepts exactly the rows that do, to an final state, each of them found whole.
use mathlib.Core.Path.{◌≡◌, refl, sym, ap, subst}
use mathlib.Core.Bool.{Bool, true, false, cond}
use mathlib.Core.List.{List, [], ◌∷◌}
use Prim.Native.Nat.{ℕ, ◌+◌}
use native.Mathlib.Omega.{arith}
use Rattle.runs.specs.Machine.{Out, yields, stops, on_out, Verdict, accepted, refused, Row, Entry, holds, bad, all_hold, before, last_of, follow, nil, link, Follows, StepBy}
use Rattle.runs.proofs.Chains.{follows_head, follows_tail}

-- entries that are rows which follow and end
pub record Table {C S R : Type 0} (step : S → C → Out S R) (final : S → Bool) (p : S) (i : ℕ) (es : List (Entry C S)) (rs : List (Row C S)) : Type 0 where
  pub whole : es ≡ all_hold rs
  pub follows : Follows (StepBy step) p i rs
  pub ends : final (last_of p rs) ≡ true

module _ {C S R : Type 0} (step : S → C → Out S R) (same : S → S → Bool) (final : S → Bool) (bad_row : R) where
  pub follows_follow : ((a : S) → same a a ≡ true) → (p : S) (rs : List (Row C S)) (i : ℕ) → Follows (StepBy step) p i rs → final (last_of p rs) ≡ true
      → follow step same final bad_row p (all_hold rs) i ≡ accepted rs
  unfolding follow all_hold last_of
  follows_follow same_refl p [] i g d = rw d
  follows_follow same_refl p (r ∷ rs) i g d = rw (follows_head g, same_refl r.state, follows_follow same_refl r.state rs (i + 1) (follows_tail g) d)

  module _ (same_eq : (a b : S) → same a b ≡ true → a ≡ b) where
    table_none : (p : S) (i : ℕ) (rs : List (Row C S)) (b : Bool) → b ≡ final p
        → ◌≡◌ {A = Verdict (List (Row C S)) R} (cond b (accepted []) (refused bad_row i)) (accepted rs) → Table step final p i [] rs
    unfolding all_hold last_of
    table_none p i rs true d h = let e : [] ≡ rs = cc in subst (Table step final p i []) e (record { whole = refl; follows = nil; ends = sym d })
    table_none p i rs false d h = absurd (let z : ◌≡◌ {A = ℕ} 0 1 = cc in omega arith)

    module _ (p : S) (r : Row C S) (es : List (Entry C S)) (i : ℕ) (rs : List (Row C S))
        (ih : (q : S) (ss : List (Row C S)) → follow step same final bad_row q es (i + 1) ≡ accepted ss → Table step final q (i + 1) es ss) where
      table_rest : step p r.command ≡ yields r.state → (v : Verdict (List (Row C S)) R) → v ≡ follow step same final bad_row r.state es (i + 1)
          → before r v ≡ accepted rs → Table step final p i (holds r ∷ es) rs
      unfolding all_hold last_of
      table_rest f (accepted ss) w h =
          let a = ih r.state ss (sym w) in
          let e : r ∷ ss ≡ rs = cc in
          subst (Table step final p i (holds r ∷ es)) e (record { whole = ap (λ (z : List (Entry C S)). holds r ∷ z) a.whole; follows = link refl f a.follows; ends = a.ends })
      table_rest f (refused e j) w h = absurd (let z : ◌≡◌ {A = ℕ} 0 1 = cc in omega arith)

      table_next : (q : S) → step p r.command ≡ yields q → (b : Bool) → b ≡ same q r.state
          → cond b (before r (follow step same final bad_row q es (i + 1))) (refused bad_row (i + 1)) ≡ accepted rs → Table step final p i (holds r ∷ es) rs
      table_next q f true w h =
          let e : q ≡ r.state = same_eq q r.state (sym w) in
          table_rest (rw e at f) (follow step same final bad_row q es (i + 1)) (rw e refl) h
      table_next q f false w h = absurd (let z : ◌≡◌ {A = ℕ} 0 1 = cc in omega arith)

      table_out : (x : Out S R) → x ≡ step p r.command
          → on_out x (λ _. refused bad_row (i + 1)) (λ q. cond (same q r.state) (before r (follow step same final bad_row q es (i + 1))) (refused bad_row (i + 1))) ≡ accepted rs
          → Table step final p i (holds r ∷ es) rs
      table_out (yields q) w h = table_next q (sym w) (same q r.state) refl h
      table_out (stops e) w h = absurd (let z : ◌≡◌ {A = ℕ} 0 1 = cc in omega arith)

    pub follow_follows : (p : S) (es : List (Entry C S)) (i : ℕ) (rs : List (Row C S)) → follow step same final bad_row p es i ≡ accepted rs → Table step final p i es rs
    unfolding follow
    follow_follows p [] i rs h = table_none p i rs (final p) refl h
    follow_follows p (bad ∷ es) i rs h = absurd (let z : ◌≡◌ {A = ℕ} 0 1 = cc in omega arith)
    follow_follows p (holds r ∷ es) i rs h = table_out p r es i rs (λ q ss. follow_follows q es (i + 1) ss) (step p r.command) refl h
