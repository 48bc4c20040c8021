-- The bytes that are no line end are all of them where the definition finds none.
use Rattle.std.proofs.Common.{◌≡◌, ℕ, Bool, true, false, not, ◌&&◌, eqb, List, [], ◌∷◌, refl, ap, ◌∙◌, rules, tests}
use Rattle.std.specs.List.{list_all}
use Rattle.std.proofs.lemmas.Iterator.{YieldsList-from_slice}
use Rattle.std.proofs.lemmas.Iterator.Search.{all_from_yields_List}
use Rattle.rules.specs.Lines.{LF, CR}
use Rattle.rules.specs.Editing.{no_line_end}
use Rattle.editor.proofs.no_line_end.Goals as goal

abbrev in_line : ℕ → Bool
in_line b = not (eqb b LF) && not (eqb b CR)

all_in_line : (l : List ℕ) → list_all in_line l ≡ no_line_end l
unfolding no_line_end
all_in_line [] = refl
all_in_line (b ∷ l) = by (eqb b LF) ∙ ap (λ (r : Bool). not (eqb b LF) && (not (eqb b CR) && r)) (all_in_line l)
  where
    by : (x : Bool) → (not x && not (eqb b CR) && list_all in_line l) ≡ (not x && (not (eqb b CR) && list_all in_line l))
    by true = refl
    by false = refl

pub returns : goal.returns
returns c =
    all_from_yields_List in_line _ _ _ c.all.ensures.ran (YieldsList-from_slice c.args.text.now cc) (λ x b q k. search (rules, tests))
    ∙ all_in_line c.args.text.now
