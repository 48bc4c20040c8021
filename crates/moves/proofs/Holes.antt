-- Two holes are the same exactly where they are equal.
use mathlib.Core.Path.{◌≡◌, refl, sym, ◌∙◌}
use mathlib.Core.Bool.{Bool, true, false, ◌&&◌, false≢true}
use Rattle.std.proofs.lemmas.Bool.{eq-eqb, eqb-true}
use Rattle.std.specs.Prelude.{eqb, None, Ok, Err}
use Rattle.std.specs.Result.{result_unwrap_or}
use Rattle.rules.specs.declared.Hole.{Hole}
use Rattle.rules.specs.Results.{HoleAnswer}
use Rattle.points.specs.Points.{same_point}
use Rattle.points.proofs.Same.{same_point_iff}
use Rattle.moves.specs.Moves.{same_hole, made}

same_by_ends :
    (a b : Hole) → a.kind ≡ b.kind → a.tool ≡ b.tool → a.radius ≡ b.radius → same_point a.start b.start ≡ true →
    same_point a.end b.end ≡ same_hole a b
unfolding same_hole
same_by_ends a b k t r s = rw (eq-eqb a.kind b.kind k, eq-eqb a.tool b.tool t, eq-eqb a.radius b.radius r, s)

both : (a b : Bool) → (a && b) ≡ true → (a ≡ true) × (b ≡ true)
both true b e = (refl, e)
both false b e = absurd (false≢true e)

same_hole_true : (a b : Hole) → same_hole a b ≡ true → a ≡ b
unfolding same_hole
same_hole_true a b e =
    let h1 = both (eqb a.kind b.kind) _ e in
    let h2 = both (eqb a.tool b.tool) _ h1.1 in
    let h3 = both (eqb a.radius b.radius) _ h2.1 in
    let h4 = both (same_point a.start b.start) _ h3.1 in
    let kind = eqb-true a.kind b.kind h1.0 in
    let tool = eqb-true a.tool b.tool h2.0 in
    let radius = eqb-true a.radius b.radius h3.0 in
    let start = (same_point_iff a.start b.start).0 h4.0 in
    let end = (same_point_iff a.end b.end).0 h4.1 in
    λ i. record { kind = kind i; tool = tool i; start = start i; end = end i; radius = radius i }

same_hole_refl : (a : Hole) → same_hole a a ≡ true
same_hole_refl a =
    sym (same_by_ends a a refl refl refl ((same_point_iff a.start a.start).1 refl)) ∙ (same_point_iff a.end a.end).1 refl

pub same_hole_iff : (a b : Hole) → (same_hole a b ≡ true → a ≡ b) × (a ≡ b → same_hole a b ≡ true)
same_hole_iff a b = (same_hole_true a b, λ e. rw e (same_hole_refl b))

-- what is left of an answer where a refusal is none
pub made_is : (a : HoleAnswer) → result_unwrap_or a None ≡ made a
made_is (Ok h) = refl
made_is (Err r) = refl
