-- Fields behind tabs: a line is its first field, the others behind their tabs, and LF; fields written one after another are one list of fields.
use mathlib.Core.Path.{◌≡◌, refl, sym, ap, ◌∙◌}
use mathlib.Core.List.{List, [], ◌∷◌, ◌++◌, append_assoc, append-nil}
use Prim.Native.Nat.{ℕ, ◌+◌, ◌≤◌}
use native.Mathlib.Omega.{arith}
use lib.ListN.{length, length-append}
use Rattle.lists.specs.Words.{bytes}
use Rattle.rules.specs.Lines.{LF}
use Rattle.rules.specs.Printing.{printed_line}
use Rattle.text.specs.Wrote.{Wrote}
use Rattle.text.proofs.Wrote.{wrote_more}
use Rattle.print.specs.Fields.{tabbed}

pub line_tabbed : (f : List ℕ) (gs : List (List ℕ)) → printed_line f gs ≡ f ++ (tabbed gs ++ (LF ∷ []))
unfolding printed_line tabbed
line_tabbed f [] = refl
line_tabbed f (g ∷ gs) = ap (λ (l : List ℕ). f ++ (bytes "\t" ++ l)) (line_tabbed g gs ∙ sym (append_assoc g (tabbed gs) (LF ∷ [])))

tabbed_one : (g : List ℕ) → tabbed (g ∷ []) ≡ bytes "\t" ++ g
unfolding tabbed
tabbed_one g = ap (λ (l : List ℕ). bytes "\t" ++ l) (append-nil g)

pub tabbed_append : (gs hs : List (List ℕ)) → tabbed (gs ++ hs) ≡ tabbed gs ++ tabbed hs
unfolding tabbed
tabbed_append [] hs = refl
tabbed_append (g ∷ gs) hs = ap (λ (l : List ℕ). bytes "\t" ++ l) (ap (λ (l : List ℕ). g ++ l) (tabbed_append gs hs) ∙ sym (append_assoc g (tabbed gs) (tabbed hs)))

module _ {b b₁ b₂ : List ℕ} {at r₁ r₂ : ℕ} where
  pub wrote_field : {g : List ℕ} → Wrote b at (bytes "\t") b₁ r₁ → Wrote b₁ r₁ g b₂ r₂ → Wrote b at (tabbed (g ∷ [])) b₂ r₂
  wrote_field {g} w v = rw (tabbed_one g) (wrote_more w v)

  pub wrote_fields : (gs hs : List (List ℕ)) → Wrote b at (tabbed gs) b₁ r₁ → Wrote b₁ r₁ (tabbed hs) b₂ r₂ → Wrote b at (tabbed (gs ++ hs)) b₂ r₂
  wrote_fields gs hs w v = rw (tabbed_append gs hs) (wrote_more w v)

pub none_short : length (tabbed []) ≤ 0
unfolding tabbed
none_short = omega arith

pub field_short : (g : List ℕ) (gs : List (List ℕ)) {k m : ℕ} → length g ≤ k → length (tabbed gs) ≤ m → length (tabbed (g ∷ gs)) ≤ 1 + k + m
unfolding tabbed
field_short g gs h i = omega (arith, length-append g (tabbed gs))
