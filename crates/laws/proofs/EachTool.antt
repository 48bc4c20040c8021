-- A number for each tool, and a test for each: a list is told by its tools' numbers, and a test of all by those of each.
use mathlib.Core.Path.{◌≡◌, refl, sym, ap, ap₂, ◌∙◌}
use mathlib.Core.Bool.{Bool, true, false, ◌&&◌, false≢true}
use mathlib.Core.List.{List, [], ◌∷◌}
use Prim.Native.Nat.{ℕ, zero, suc, ◌+◌, ◌-◌, ◌<◌, ◌≤◌}
use native.Mathlib.Omega.{arith}
use native.Mathlib.Decide.{ℕ_discrete}
use lib.ListN.{length, get_or, set, length-set}
use lib.Seq.{get_or-set_same, get_or-set_other}
use Rattle.lists.proofs.Choice.{both}
use Rattle.rules.specs.Numbers.{max_tool}
use Rattle.rules.specs.Counting.{from_tool, each_tool, of_tool, from_tool_all, for_each_tool}

-- ---- numbers

get_from : (k t j : ℕ) (f : ℕ → ℕ) → j < k → get_or (from_tool t k f) j 0 ≡ f (t + j)
unfolding from_tool
get_from zero t j f h = absurd (omega arith)
get_from (suc k) t zero f h = let e : t ≡ t + 0 = omega arith in ap f e
get_from (suc k) t (suc j) f h = let e : t + 1 + j ≡ t + suc j = omega arith in get_from k (t + 1) j f (omega arith) ∙ ap f e

length_from : (k t : ℕ) (f : ℕ → ℕ) → length (from_tool t k f) ≡ k
unfolding from_tool
length_from zero t f = refl
length_from (suc k) t f = ap suc (length_from k (t + 1) f)

is_from : (l : List ℕ) (t : ℕ) (f : ℕ → ℕ) → ((j : ℕ) → j < length l → get_or l j 0 ≡ f (t + j)) → l ≡ from_tool t (length l) f
unfolding from_tool
is_from [] t f h = refl
is_from (x ∷ xs) t f h =
    let z : t + 0 ≡ t = omega arith in
    ap₂ ◌∷◌ (h 0 (omega arith) ∙ ap f z)
    (is_from xs (t + 1) f (λ j q. let e : t + suc j ≡ t + 1 + j = omega arith in h (suc j) (omega arith) ∙ ap f e))

pub of_each : (f : ℕ → ℕ) (t : ℕ) → 1 ≤ t → t ≤ max_tool → of_tool (each_tool f) t ≡ f t
of_each f t a b = let e : 1 + (t - 1) ≡ t = omega arith in get_from max_tool 1 (t - 1) f (omega arith) ∙ ap f e

pub length_each : (f : ℕ → ℕ) → length (each_tool f) ≡ max_tool
length_each f = length_from max_tool 1 f

-- a list with a number for each tool is told by them
pub is_each : (l : List ℕ) (f : ℕ → ℕ) → length l ≡ max_tool → ((t : ℕ) → 1 ≤ t → t ≤ max_tool → of_tool l t ≡ f t) → l ≡ each_tool f
is_each l f n h =
    is_from l 1 f (λ j q. let e : 1 + j - 1 ≡ j = omega arith in ap (λ (i : ℕ). get_or l i 0) (sym e) ∙ h (1 + j) (omega arith) (omega arith))
    ∙ ap (λ (k : ℕ). from_tool 1 k f) n

pub each_same : (f g : ℕ → ℕ) → ((t : ℕ) → 1 ≤ t → t ≤ max_tool → f t ≡ g t) → each_tool f ≡ each_tool g
each_same f g h = is_each (each_tool f) g (length_each f) (λ t a b. of_each f t a b ∙ h t a b)

-- one tool's number set
pub set_each : (l : List ℕ) (f : ℕ → ℕ) (tool v : ℕ) → length l ≡ max_tool → 1 ≤ tool → tool ≤ max_tool → v ≡ f tool
    → ((t : ℕ) → 1 ≤ t → t ≤ max_tool → (t ≡ tool → ⊥) → of_tool l t ≡ f t) → set l (tool - 1) v ≡ each_tool f
set_each l f tool v n a b e h = is_each (set l (tool - 1) v) f (length-set l (tool - 1) v ∙ n) (λ t p q. by t p q (ℕ_discrete t tool))
  where
    by : (t : ℕ) → 1 ≤ t → t ≤ max_tool → Dec (t ≡ tool) → of_tool (set l (tool - 1) v) t ≡ f t
    by t p q (yes s) = let z : t - 1 ≡ tool - 1 = omega arith in
        ap (λ (i : ℕ). get_or (set l (tool - 1) v) i 0) z ∙ get_or-set_same l (tool - 1) v 0 (omega arith) ∙ e ∙ ap f (sym s)
    by t p q (no s) = get_or-set_other l (tool - 1) (t - 1) v 0 (λ z. s (omega arith)) ∙ h t p q s

-- ---- tests

says_from : (k t : ℕ) (p : ℕ → Bool) → from_tool_all t k p ≡ true → (u : ℕ) → t ≤ u → u < t + k → p u ≡ true
unfolding from_tool_all
says_from zero t p h u a b = absurd (omega arith)
says_from (suc k) t p h u a b =
    let w = both (p t) (from_tool_all (t + 1) k p) h in
    by (ℕ_discrete t u) w.0 (λ i. says_from k (t + 1) p w.1 u i (omega arith))
  where
    by : Dec (t ≡ u) → p t ≡ true → (t + 1 ≤ u → p u ≡ true) → p u ≡ true
    by (yes e) x f = ap p (sym e) ∙ x
    by (no n) x f = f (omega arith)

so_from : (k t : ℕ) (p : ℕ → Bool) → ((u : ℕ) → t ≤ u → u < t + k → p u ≡ true) → from_tool_all t k p ≡ true
unfolding from_tool_all
so_from zero t p h = refl
so_from (suc k) t p h = rw (h t (omega arith) (omega arith)) (so_from k (t + 1) p (λ u a b. h u (omega arith) (omega arith)))

pub each_says : (p : ℕ → Bool) → for_each_tool p ≡ true → (t : ℕ) → 1 ≤ t → t ≤ max_tool → p t ≡ true
each_says p h t a b = says_from max_tool 1 p h t a (omega arith)

pub each_so : (p : ℕ → Bool) → ((t : ℕ) → 1 ≤ t → t ≤ max_tool → p t ≡ true) → for_each_tool p ≡ true
each_so p h = so_from max_tool 1 p (λ u a b. h u a (omega arith))

pub each_not : (p : ℕ → Bool) (t : ℕ) → 1 ≤ t → t ≤ max_tool → p t ≡ false → for_each_tool p ≡ false
each_not p t a b e = by (for_each_tool p) refl
  where
    by : (v : Bool) → for_each_tool p ≡ v → for_each_tool p ≡ false
    by true h = absurd (false≢true (sym e ∙ each_says p h t a b))
    by false h = h

-- where the test of all fails, one fails
fails_from : (k t : ℕ) (p : ℕ → Bool) → from_tool_all t k p ≡ false → (u : ℕ) × ((t ≤ u) × (u < t + k) × (p u ≡ false))
unfolding from_tool_all
fails_from zero t p h = absurd (false≢true (sym h))
fails_from (suc k) t p h = by (p t) refl (λ e. fails_from k (t + 1) p (rw e at h))
  where
    by : (v : Bool) → p t ≡ v → (p t ≡ true → (u : ℕ) × ((t + 1 ≤ u) × (u < t + 1 + k) × (p u ≡ false)))
        → (u : ℕ) × ((t ≤ u) × (u < t + suc k) × (p u ≡ false))
    by false e f = (t, (omega arith, omega arith, e))
    by true e f = let w = f e in (w.0, (omega (arith, w.1.0), omega (arith, w.1.1), w.1.2))

pub each_fails : (p : ℕ → Bool) → for_each_tool p ≡ false → (t : ℕ) × ((1 ≤ t) × (t ≤ max_tool) × (p t ≡ false))
each_fails p h = let w = fails_from max_tool 1 p h in (w.0, (w.1.0, omega (arith, w.1.1), w.1.2))

-- two tests at once
both_from : (k t : ℕ) (p q : ℕ → Bool) → from_tool_all t k (λ u. p u && q u) ≡ (from_tool_all t k p && from_tool_all t k q)
unfolding from_tool_all
both_from zero t p q = refl
both_from (suc k) t p q = rw (both_from k (t + 1) p q) (by (p t) (q t) (from_tool_all (t + 1) k p) (from_tool_all (t + 1) k q))
  where
    by : (a b c d : Bool) → ((a && b) && (c && d)) ≡ ((a && c) && (b && d))
    by true true c d = refl
    by true false true d = refl
    by true false false d = refl
    by false b c d = refl

pub each_both : (p q : ℕ → Bool) → for_each_tool (λ t. p t && q t) ≡ (for_each_tool p && for_each_tool q)
each_both p q = both_from max_tool 1 p q

-- tests that agree for each tool
pub all_same : (p q : ℕ → Bool) → ((t : ℕ) → 1 ≤ t → t ≤ max_tool → p t ≡ q t) → for_each_tool p ≡ for_each_tool q
all_same p q h = by (for_each_tool p) refl
  where
    by : (v : Bool) → for_each_tool p ≡ v → for_each_tool p ≡ for_each_tool q
    by true e = e ∙ sym (each_so q (λ t a b. sym (h t a b) ∙ each_says p e t a b))
    by false e = let w = each_fails p e in e ∙ sym (each_not q w.0 w.1.0 w.1.1 (sym (h w.0 w.1.0 w.1.1) ∙ w.1.2))
