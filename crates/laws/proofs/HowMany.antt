-- How many holes rows make: of rows one after another, and of new rows in the place of old ones.
use mathlib.Core.Path.{◌≡◌, sym, ap, ◌∙◌}
use mathlib.Core.Bool.{Bool, true, false, ◌&&◌}
use mathlib.Core.List.{[], ◌∷◌, ◌++◌}
use Prim.Native.Nat.{ℕ, ◌+◌, ◌-◌, ◌≤◌}
use native.Mathlib.Omega.{arith}
use lib.Dec.{eqb}
use lib.ListN.{length, take, drop, take-append-drop}
use lib.Seq.{drop-drop}
use Rattle.lists.specs.Put.{put_at}
use Rattle.rules.specs.declared.Way.{Way}
use Rattle.rules.specs.Reading.{Rows}
use Rattle.rules.specs.Counting.{one, is_by, how_many}

module _ (w : Way) (t : ℕ) where
  pub how_many-append : (xs ys : Rows) → how_many w (xs ++ ys) t ≡ how_many w xs t + how_many w ys t
  unfolding how_many
  how_many-append [] ys = omega arith
  how_many-append (x ∷ xs) ys = omega (arith, how_many-append xs ys)

  one_small : (b : Bool) → one b ≤ 1
  one_small true = omega arith
  one_small false = omega arith

  pub how_many-few : (rs : Rows) → how_many w rs t ≤ length rs
  unfolding how_many
  how_many-few [] = omega arith
  how_many-few (r ∷ rs) = omega (arith, one_small (is_by w r.command && eqb r.state.tool t), how_many-few rs)

  -- the rows before, j of them, and those after
  parted : (rs : Rows) (i j : ℕ) → how_many w rs t ≡ how_many w (take i rs) t + (how_many w (take j (drop i rs)) t + how_many w (drop (i + j) rs) t)
  parted rs i j =
      let e : how_many w rs t ≡ how_many w (take i rs) t + how_many w (drop i rs) t = ap (λ (z : Rows). how_many w z t) (sym (take-append-drop i rs)) ∙ how_many-append (take i rs) (drop i rs) in
      let f : how_many w (drop i rs) t ≡ how_many w (take j (drop i rs)) t + how_many w (drop j (drop i rs)) t
      = ap (λ (z : Rows). how_many w z t) (sym (take-append-drop j (drop i rs))) ∙ how_many-append (take j (drop i rs)) (drop j (drop i rs)) in
      let h : how_many w (drop j (drop i rs)) t ≡ how_many w (drop (i + j) rs) t = ap (λ (z : Rows). how_many w z t) (drop-drop j i rs) in
      omega (arith, e, f, h)

  pub how_many-part : (rs : Rows) (i j : ℕ) → how_many w (take j (drop i rs)) t ≤ how_many w rs t
  how_many-part rs i j = omega (arith, parted rs i j)

  -- new rows in the place of as many old ones
  pub how_many-put : (rs new : Rows) (i : ℕ) → how_many w rs t - how_many w (take (length new) (drop i rs)) t + how_many w new t ≡ how_many w (put_at rs i new) t
  how_many-put rs new i =
      let e : how_many w (put_at rs i new) t ≡ how_many w (take i rs ++ new) t + how_many w (drop (i + length new) rs) t
      = how_many-append (take i rs ++ new) (drop (i + length new) rs) in
      omega (arith, parted rs i (length new), e, how_many-append (take i rs) new)
