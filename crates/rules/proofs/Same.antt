-- The test of equality is true exactly where the states are equal.
use mathlib.Core.Path.{◌≡◌, refl}
use mathlib.Core.Bool.{true}
use lib.Dec.{eqb}
use borrow.Author.Tests.{eqb-true, eq-eqb}
use Rattle.lists.proofs.Choice.{both}
use Rattle.points.specs.Points.{same_point}
use Rattle.points.proofs.Same.{same_point_iff}
use Rattle.tools.proofs.Same.{same_tools_iff}
use Rattle.rules.specs.declared.State.{State}
use Rattle.rules.specs.State.{same_state}

same_state_true : (s t : State) → same_state s t ≡ true → s ≡ t
unfolding same_state
same_state_true s t e =
    let h1 = both (eqb s.phase t.phase) _ e in
    let h2 = both (eqb s.unit t.unit) _ h1.1 in
    let h3 = both (eqb s.motion t.motion) _ h2.1 in
    let h4 = both (eqb s.tool t.tool) _ h3.1 in
    let h5 = both (same_point s.at t.at) _ h4.1 in
    let phase = eqb-true s.phase t.phase h1.0 in
    let unit = eqb-true s.unit t.unit h2.0 in
    let motion = eqb-true s.motion t.motion h3.0 in
    let tool = eqb-true s.tool t.tool h4.0 in
    let at = (same_point_iff s.at t.at).0 h5.0 in
    let tools = (same_tools_iff s.tools t.tools).0 h5.1 in
    λ i. record { phase = phase i; unit = unit i; motion = motion i; tool = tool i; at = at i; tools = tools i }

same_state_refl : (s : State) → same_state s s ≡ true
unfolding same_state
same_state_refl s =
    simp (
      eq-eqb s.phase s.phase refl,
      eq-eqb s.unit s.unit refl,
      eq-eqb s.motion s.motion refl,
      eq-eqb s.tool s.tool refl,
      (same_point_iff s.at s.at).1 refl,
      (same_tools_iff s.tools s.tools).1 refl,
    )

pub same_state_iff : (s t : State) → (same_state s t ≡ true → s ≡ t) × (s ≡ t → same_state s t ≡ true)
same_state_iff s t = (same_state_true s t, λ e. rw e (same_state_refl t))
