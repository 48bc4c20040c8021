-- Which revision a word names: of four bytes each is looked at.
use mathlib.Core.Path.{◌≡◌, refl, ◌∙◌}
use mathlib.Core.Bool.{true, ◌&&◌, cond}
use mathlib.Core.List.{List, [], ◌∷◌}
use Prim.Native.Nat.{ℕ}
use Prim.Native.Char.{code}
use native.Mathlib.Omega.{arith}
use borrow.Author.Tests.{ne_eqb}
use lib.Dec.{eqb}
use lib.ListN.{length, get_or}
use Rattle.std.specs.Prelude.{Option, Some, None}
use Rattle.lists.specs.Words.{starts_with}
use Rattle.rules.specs.declared.Revision.{Revision}
use Rattle.rules.specs.declared.Revision.TheVariants.{Rev2019, Rev2021}
use Rattle.show.specs.Arguments.{named_by}

abbrev fourBytes : ℕ → ℕ → ℕ → ℕ → Option Revision
fourBytes a b c d =
    cond (eqb a (code "2") && (eqb b (code "0") && (eqb c (code "1") && (eqb d (code "9") && true)))) (Some Rev2019)
    (cond (eqb a (code "2") && (eqb b (code "0") && (eqb c (code "2") && (eqb d (code "1") && true)))) (Some Rev2021) None)

pub other_length : (s : List ℕ) → (length s ≡ 4 → ⊥) → None ≡ named_by s
other_length s h = rw (ne_eqb (length s) 4 h)

four : (s : List ℕ) → length s ≡ 4 → fourBytes (get_or s 0 0) (get_or s 1 0) (get_or s 2 0) (get_or s 3 0) ≡ named_by s
unfolding starts_with
four [] h = absurd (omega arith)
four (a ∷ []) h = absurd (omega arith)
four (a ∷ b ∷ []) h = absurd (omega arith)
four (a ∷ b ∷ c ∷ []) h = absurd (omega arith)
four (a ∷ b ∷ c ∷ d ∷ []) h = refl
four (a ∷ b ∷ c ∷ d ∷ e ∷ l) h = absurd (omega arith)

module _ (s : List ℕ) (h : length s ≡ 4) where
  -- what the four bytes give is what the word names
  given : {r : (Option Revision)} → r ≡ fourBytes (get_or s 0 0) (get_or s 1 0) (get_or s 2 0) (get_or s 3 0) → r ≡ named_by s
  given e = e ∙ four s h

  pub first_other : (get_or s 0 0 ≡ code "2" → ⊥) → None ≡ named_by s
  first_other p = given (rw (ne_eqb (get_or s 0 0) (code "2") p))

  module _ (a : get_or s 0 0 ≡ code "2") where
    pub second_other : (get_or s 1 0 ≡ code "0" → ⊥) → None ≡ named_by s
    second_other p = given (rw (a, ne_eqb (get_or s 1 0) (code "0") p))

    module _ (b : get_or s 1 0 ≡ code "0") where
      pub third_other : (get_or s 2 0 ≡ code "1" → ⊥) → (get_or s 2 0 ≡ code "2" → ⊥) → None ≡ named_by s
      third_other p q = given (rw (a, b, ne_eqb (get_or s 2 0) (code "1") p, ne_eqb (get_or s 2 0) (code "2") q))

      pub is_2019 : get_or s 2 0 ≡ code "1" → get_or s 3 0 ≡ code "9" → Some Rev2019 ≡ named_by s
      is_2019 c d = given (rw (a, b, c, d))

      pub not_2019 : get_or s 2 0 ≡ code "1" → (get_or s 3 0 ≡ code "9" → ⊥) → None ≡ named_by s
      not_2019 c p = given (rw (a, b, c, ne_eqb (get_or s 3 0) (code "9") p))

      pub is_2021 : get_or s 2 0 ≡ code "2" → get_or s 3 0 ≡ code "1" → Some Rev2021 ≡ named_by s
      is_2021 c d = given (rw (a, b, c, d))

      pub not_2021 : get_or s 2 0 ≡ code "2" → (get_or s 3 0 ≡ code "1" → ⊥) → None ≡ named_by s
      not_2021 c p = given (rw (a, b, c, ne_eqb (get_or s 3 0) (code "1") p))
