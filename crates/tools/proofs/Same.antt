-- The test of equality is true exactly where the sets are equal.
use mathlib.Core.Path.{◌≡◌, refl}
use mathlib.Core.Bool.{true}
use lib.Dec.{eqb}
use borrow.Author.Tests.{eqb-true, eq-eqb}
use Rattle.lists.proofs.Choice.{both}
use Rattle.tools.specs.declared.Tools.{Tools}
use Rattle.tools.specs.Set.{same_tools}

same_tools_true : (s t : Tools) → same_tools s t ≡ true → s ≡ t
unfolding same_tools
same_tools_true s t e =
    let h1 = both (eqb s.a t.a) _ e in
    let h2 = both (eqb s.b t.b) _ h1.1 in
    let h3 = both (eqb s.c t.c) _ h2.1 in
    let a = eqb-true s.a t.a h1.0 in
    let b = eqb-true s.b t.b h2.0 in
    let c = eqb-true s.c t.c h3.0 in
    let d = eqb-true s.d t.d h3.1 in
    λ i. record { a = a i; b = b i; c = c i; d = d i }

same_tools_refl : (s : Tools) → same_tools s s ≡ true
unfolding same_tools
same_tools_refl s =
    simp (
      eq-eqb s.a s.a refl,
      eq-eqb s.b s.b refl,
      eq-eqb s.c s.c refl,
      eq-eqb s.d s.d refl,
    )

pub same_tools_iff : (s t : Tools) → (same_tools s t ≡ true → s ≡ t) × (s ≡ t → same_tools s t ≡ true)
same_tools_iff s t = (same_tools_true s t, λ e. rw e (same_tools_refl t))
