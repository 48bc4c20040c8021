-- For contracts of private functions alone: fields after the first of a line, each behind a tab.
use Rattle.std.specs.Prelude.{List, [], ◌∷◌, ◌++◌, ℕ}
use Rattle.lists.specs.Words.{bytes}
use Rattle.points.specs.declared.Point.{Point}
use Rattle.rules.specs.Printing.{signed_decimal}

unfoldable pub tabbed : List (List ℕ) → List ℕ
tabbed [] = []
tabbed (g ∷ gs) = bytes "\t" ++ (g ++ tabbed gs)

abbrev pub point_fields : Point → List (List ℕ)
point_fields p = signed_decimal p.x ∷ signed_decimal p.y ∷ []
