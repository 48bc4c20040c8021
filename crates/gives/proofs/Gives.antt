-- Commands that make no hole, told by the arm of the match that takes all of them; and what a command declares.
use mathlib.Core.Path.{◌≡◌, refl}
use mathlib.Core.List.{List, [], ◌∷◌}
use Prim.Native.Nat.{ℕ}
use denote.Enum.Declared.{tag_of}
use types.Run.{OneOf, miss}
use borrow.Author.Tests.{eq-eqb, ne_eqb}
use Rattle.std.specs.Prelude.{Some, None}
use Rattle.rules.specs.declared.Command.{Command}
use Rattle.rules.specs.contracts.Command.{the_type}
use Rattle.rules.specs.declared.Command.TheVariants.{Comment, M48, Metric, Inch, Declare, Percent, G05, G00, Select, Hit, M15, M16, G01, G02, G03, M30}
use Rattle.rules.specs.Asking.{declared_by}

abbrev others : List ℕ
others = 0 ∷ 1 ∷ 2 ∷ 3 ∷ 5 ∷ 6 ∷ 7 ∷ 8 ∷ 9 ∷ 10 ∷ 11 ∷ 12 ∷ 13 ∷ 14 ∷ 15 ∷ []

pub declared_other : (c : Command) (t : ℕ) → OneOf others (tag_of the_type c) → None ≡ declared_by t c
unfolding declared_by
declared_other Comment t h = refl
declared_other M48 t h = refl
declared_other Metric t h = refl
declared_other Inch t h = refl
declared_other (Declare u d) t h = absurd (miss others 4 tt h)
declared_other Percent t h = refl
declared_other G05 t h = refl
declared_other (G00 p) t h = refl
declared_other (Select u) t h = refl
declared_other (Hit p) t h = refl
declared_other M15 t h = refl
declared_other M16 t h = refl
declared_other (G01 p) t h = refl
declared_other (G02 a) t h = refl
declared_other (G03 a) t h = refl
declared_other M30 t h = refl

module _ (c : Command) (u d t : ℕ) (e : c ≡ Declare u d) where
  pub declared_this : u ≡ t → Some d ≡ declared_by t c
  unfolding declared_by
  declared_this h = rw (e, eq-eqb u t h)

  pub declared_not : (u ≡ t → ⊥) → None ≡ declared_by t c
  unfolding declared_by
  declared_not h = rw (e, ne_eqb u t h)
