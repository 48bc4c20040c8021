-- What the tests of sizes, of a line's number and of room say.
use mathlib.Core.Path.{◌≡◌, refl, sym, ◌∙◌}
use mathlib.Core.Bool.{Bool, true, false, false≢true}
use mathlib.Core.List.{List}
use Prim.Native.Nat.{ℕ, ◌*◌, ◌/◌, ◌<◌, ◌≤◌}
use native.Mathlib.Omega.{arith}
use borrow.Author.Tests.{le-leb, lt-leb, leb-true, leb-false}
use lib.Dec.{leb}
use lib.IntN.{ℤ}
use lib.ListN.{length}
use Rattle.lists.proofs.Choice.{both}
use Rattle.rules.specs.Numbers.{max_lines}
use Rattle.rules.specs.Rows.{row_width, sizes_fit, Sizes}
use Rattle.rules.specs.Reading.{has_room}
use Rattle.rules.specs.Editing.{is_line}

module _ (n k : ℕ) where
  pub line_says : is_line n k ≡ true → (1 ≤ k) × (k ≤ n)
  unfolding is_line
  line_says h = let p = both (leb 1 k) (leb k n) h in (leb-true 1 k p.0, leb-true k n p.1)

  pub line_is : 1 ≤ k → k ≤ n → is_line n k ≡ true
  unfolding is_line
  line_is a b = rw (le-leb 1 k a, le-leb k n b)

module _ (t : List ℤ) (n : ℕ) where
  pub sizes_fit_lem : Sizes t n → sizes_fit t n ≡ true
  unfolding sizes_fit
  sizes_fit_lem z = rw (le-leb 1 n z.some, le-leb n max_lines z.few, le-leb n (length t / row_width) (omega (arith, z.room)))

  pub sizes_say : sizes_fit t n ≡ true → Sizes t n
  unfolding sizes_fit
  sizes_say h =
      let p = both (leb 1 n) _ h in
      let q = both (leb n max_lines) _ p.1 in
      record { some = leb-true 1 n p.0; few = leb-true n max_lines q.0; room = omega (arith, leb-true n (length t / row_width) q.1) }

  pub bad_sizes : sizes_fit t n ≡ false → Sizes t n → ⊥
  bad_sizes h z = false≢true (sym h ∙ sizes_fit_lem z)

  pub sizes_bad : (Sizes t n → ⊥) → sizes_fit t n ≡ false
  sizes_bad h = by (sizes_fit t n) refl
    where
      by : (b : Bool) → sizes_fit t n ≡ b → sizes_fit t n ≡ false
      by true e = absurd (h (sizes_say e))
      by false e = e

  pub room_says : has_room t n ≡ true → row_width * n ≤ length t
  unfolding has_room
  room_says h = omega (arith, leb-true n (length t / row_width) h)

  pub room_is : row_width * n ≤ length t → has_room t n ≡ true
  unfolding has_room
  room_is h = le-leb n (length t / row_width) (omega arith)

  pub no_room_says : has_room t n ≡ false → length t < row_width * n
  unfolding has_room
  no_room_says h = omega (arith, leb-false n (length t / row_width) h)

  pub no_room_is : length t < row_width * n → has_room t n ≡ false
  unfolding has_room
  no_room_is h = lt-leb n (length t / row_width) (omega arith)
