-- A list that begins with a word is the word and then the rest.
use mathlib.Core.Path.{◌≡◌, refl, ap₂, sym, subst}
use mathlib.Core.Bool.{true, false≢true}
use mathlib.Core.List.{List, [], ◌∷◌, ◌++◌}
use Prim.Native.Nat.{ℕ}
use borrow.Author.Tests.{eqb-true}
use lib.Dec.{eqb}
use lib.ListN.{length, drop}
use Rattle.lists.specs.Words.{starts_with}
use Rattle.lists.proofs.Choice.{both}

pub starts_true : (l w : List ℕ) → starts_with l w ≡ true → l ≡ w ++ drop (length w) l
unfolding starts_with
starts_true l [] e = refl
starts_true [] (x ∷ w) e = absurd (false≢true e)
starts_true (a ∷ l) (x ∷ w) e = let h = both (eqb a x) (starts_with l w) e in ap₂ ◌∷◌ (eqb-true a x h.0) (starts_true l w h.1)

-- what holds of the word and what follows it holds of the list
pub begins : (l w : List ℕ) → starts_with l w ≡ true → (P : List ℕ → Type 0) → P (w ++ drop (length w) l) → P l
begins l w e P h = subst P (sym (starts_true l w e)) h
