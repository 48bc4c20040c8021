-- Rows found whole, by their places.
use mathlib.Core.Path.{◌≡◌, refl, ap}
use mathlib.Core.List.{List, [], ◌∷◌, ◌++◌}
use Prim.Native.Nat.{ℕ, zero, suc}
use lib.ListN.{length, get_or, take, drop}
use Rattle.runs.specs.Machine.{Row, Entry, holds, bad, all_hold}

module _ {C S : Type 0} where
  pub hold_length : (rs : List (Row C S)) → length (all_hold rs) ≡ length rs
  unfolding all_hold
  hold_length [] = refl
  hold_length (r ∷ rs) = ap suc (hold_length rs)

  pub hold_append : (xs ys : List (Row C S)) → all_hold (xs ++ ys) ≡ all_hold xs ++ all_hold ys
  unfolding all_hold
  hold_append [] ys = refl
  hold_append (x ∷ xs) ys = ap (λ (z : List (Entry C S)). holds x ∷ z) (hold_append xs ys)

  pub hold_take : (n : ℕ) (rs : List (Row C S)) → take n (all_hold rs) ≡ all_hold (take n rs)
  unfolding all_hold
  hold_take zero rs = refl
  hold_take (suc n) [] = refl
  hold_take (suc n) (r ∷ rs) = ap (λ (z : List (Entry C S)). holds r ∷ z) (hold_take n rs)

  pub hold_drop : (n : ℕ) (rs : List (Row C S)) → drop n (all_hold rs) ≡ all_hold (drop n rs)
  unfolding all_hold
  hold_drop zero rs = refl
  hold_drop (suc n) [] = refl
  hold_drop (suc n) (r ∷ rs) = hold_drop n rs

  -- the row after others
  pub hold_at : (xs : List (Row C S)) (r : Row C S) (ys : List (Row C S)) → get_or (all_hold (xs ++ (r ∷ ys))) (length xs) bad ≡ holds r
  unfolding all_hold
  hold_at [] r ys = refl
  hold_at (x ∷ xs) r ys = hold_at xs r ys
