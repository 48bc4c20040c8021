-- Whole lines: each has room in a block of line_room bytes, and its parts one after the other are the line.
use mathlib.Core.Path.{◌≡◌, ap}
use mathlib.Core.Bool.{Bool, true, false, false≢true}
use mathlib.Core.List.{List, [], ◌∷◌, ◌++◌}
use Prim.Native.Nat.{ℕ, ◌+◌, ◌<◌, ◌≤◌}
use native.Mathlib.Omega.{arith}
use borrow.Author.Tests.{leb-true}
use Rattle.std.proofs.lemmas.Bool.{and_parts}
use lib.Dec.{eqb}
use lib.ListN.{length, length-append}
use lib.Signed.{mag}
use Rattle.lists.proofs.Choice.{cond_all}
use Rattle.rules.specs.declared.Hole.{Hole}
use Rattle.rules.specs.Kinds as Kinds
use Rattle.rules.specs.Lines.{LF}
use Rattle.rules.specs.Printing.{printed_line, letter, hole_fields}
use Rattle.text.specs.Wrote.{Wrote}
use Rattle.text.proofs.Decimals.{decimal_short}
use Rattle.text.proofs.Signs.{signed_short}
use Rattle.text.proofs.Wrote.{wrote_more, wrote_all}
use Rattle.print.specs.Fields.{tabbed}
use Rattle.print.specs.Line.{PutIn, line_room, most_word, most_numbers, line_fits}
use Rattle.print.proofs.Tabs.{line_tabbed, none_short, field_short}

-- ---- with room and without

pub line_put : (room : Bool) {b l b' : List ℕ} {r : ℕ} → room ≡ true → Wrote b 0 l b' r → length l ≤ length b → PutIn room b l b' r
line_put true e w h = let a = wrote_all (omega arith) w in record { bytes = a.0; count = omega arith; inside = omega arith }
line_put false e w h = absurd (false≢true e)

-- a line by its parts, and its length
module _ (f : List ℕ) (gs : List (List ℕ)) where
  pub line_wrote : {b b₁ b₂ b₃ : List ℕ} {at r₁ r₂ r₃ : ℕ} → Wrote b at f b₁ r₁ → Wrote b₁ r₁ (tabbed gs) b₂ r₂ → Wrote b₂ r₂ (LF ∷ []) b₃ r₃
      → Wrote b at (printed_line f gs) b₃ r₃
  line_wrote w v u = rw (line_tabbed f gs) (wrote_more w (wrote_more v u))

  pub line_length : length (printed_line f gs) ≡ length f + length (tabbed gs) + 1
  line_length = omega (arith, ap length (line_tabbed f gs), length-append f (tabbed gs ++ (LF ∷ [])), length-append (tabbed gs) (LF ∷ []))

-- the room of a line of numbers
pub fits_says : (b word ns : List ℕ) → line_fits b word ns ≡ true → (line_room ≤ length b) × (length word ≤ most_word) × (length ns ≤ most_numbers)
unfolding line_fits
fits_says b word ns e =
    let p = and_parts _ _ e in
    let q = and_parts _ _ p.1 in (leb-true _ _ p.0, leb-true _ _ q.0, leb-true _ _ q.1)

-- ---- the length of a hole's fields

letter_short : (k : ℕ) → length (letter k) ≤ 1
letter_short k =
    let P : List ℕ → Type 0 = λ l. length l ≤ 1 in
    cond_all P (eqb k Kinds.hit) (λ _. omega arith)
    (λ _. cond_all P (eqb k Kinds.g01) (λ _. omega arith) (λ _. cond_all P (eqb k Kinds.g02) (λ _. omega arith) (λ _. omega arith)))

pub hole_short : (h : Hole) → h.tool < 4294967296 → mag h.start.x < 2147483648 → mag h.start.y < 2147483648
    → mag h.end.x < 2147483648 → mag h.end.y < 2147483648 → h.radius < 4294967296 → length (tabbed (hole_fields h)) ≤ 72
hole_short h t sx sy ex ey r =
    field_short _ _ (letter_short h.kind) (field_short _ _ (decimal_short h.tool t)
    (field_short _ _ (signed_short h.start.x sx) (field_short _ _ (signed_short h.start.y sy)
    (field_short _ _ (signed_short h.end.x ex) (field_short _ _ (signed_short h.end.y ey)
    (field_short _ _ (decimal_short h.radius r) none_short))))))
