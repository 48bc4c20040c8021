-- What holds of both ways holds of the one taken; what two tests joined by "and" say; and what a test came to.
use mathlib.Core.Path.{◌≡◌, refl, sym, ◌∙◌}
use mathlib.Core.Bool.{Bool, true, false, not, ◌&&◌, false≢true, cond}
use borrow.Author.Tests.{not-true, not-false}

pub cond_all {ℓ} : {A : Type ℓ} (P : A → Type 0) (t : Bool) {a b : A} → (t ≡ true → P a) → (t ≡ false → P b) → P (cond t a b)
cond_all P true f g = f refl
cond_all P false f g = g refl

pub both : (a b : Bool) → (a && b) ≡ true → (a ≡ true) × (b ≡ true)
both true b e = (refl, e)
both false b e = absurd (false≢true e)

-- r is what came of the test p, and the code asks whether it failed
pub failed : {r p : Bool} → r ≡ p → not r ≡ true → p ≡ false
failed {r} e n = sym e ∙ not-true r n

pub passed : {r p : Bool} → r ≡ p → not r ≡ false → p ≡ true
passed {r} e n = sym e ∙ not-false r n
