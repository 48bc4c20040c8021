-- The tests of ranges: what they say where they are passed, and what passes them.
use mathlib.Core.Path.{◌≡◌}
use mathlib.Core.Bool.{true, ◌&&◌}
use Prim.Native.Nat.{ℕ, ◌≤◌}
use borrow.Author.Tests.{le-leb, leb-true}
use lib.Dec.{leb}
use Rattle.lists.proofs.Choice.{both}
use Rattle.rules.specs.Numbers.{max_number, max_tool, max_places, Decimal, millionths, is_coordinate, is_size, is_tool}

module _ (d : Decimal) where
  pub coordinate_says : is_coordinate d ≡ true → (d.places ≤ max_places) × (millionths d ≤ max_number)
  unfolding is_coordinate
  coordinate_says e =
      let h = both (leb d.places max_places) (leb (millionths d) max_number) e in
      (leb-true d.places max_places h.0, leb-true (millionths d) max_number h.1)

  pub coordinate_passes : d.places ≤ max_places → millionths d ≤ max_number → is_coordinate d ≡ true
  unfolding is_coordinate
  coordinate_passes p q = rw (le-leb d.places max_places p, le-leb (millionths d) max_number q)

  pub size_says : is_size d ≡ true → (d.places ≤ max_places) × (1 ≤ millionths d) × (millionths d ≤ max_number)
  unfolding is_size
  size_says e =
      let h = both (leb d.places max_places) (leb 1 (millionths d) && leb (millionths d) max_number) e in
      let g = both (leb 1 (millionths d)) (leb (millionths d) max_number) h.1 in
      (leb-true d.places max_places h.0, leb-true 1 (millionths d) g.0, leb-true (millionths d) max_number g.1)

  pub size_passes : d.places ≤ max_places → 1 ≤ millionths d → millionths d ≤ max_number → is_size d ≡ true
  unfolding is_size
  size_passes p o q = rw (le-leb d.places max_places p, le-leb 1 (millionths d) o, le-leb (millionths d) max_number q)

pub tool_says : (t : ℕ) → is_tool t ≡ true → (1 ≤ t) × (t ≤ max_tool)
unfolding is_tool
tool_says t e = let h = both (leb 1 t) (leb t max_tool) e in (leb-true 1 t h.0, leb-true t max_tool h.1)

pub tool_passes : (t : ℕ) → 1 ≤ t → t ≤ max_tool → is_tool t ≡ true
unfolding is_tool
tool_passes t p q = rw (le-leb 1 t p, le-leb t max_tool q)
