-- The loop over numbers: a turn writes one number more.
use mathlib.Core.Path.{◌≡◌, refl, ap, ◌∙◌}
use mathlib.Core.List.{List, [], ◌∷◌, ◌++◌}
use Prim.Native.Nat.{ℕ, ◌+◌, ◌*◌, ◌<◌, ◌≤◌}
use native.Mathlib.Omega.{arith}
use lib.ListN.{length, take, get_or}
use Rattle.std.proofs.lemmas.List.{take_more}
use Rattle.rules.specs.Printing.{decimal}
use Rattle.text.proofs.Decimals.{decimal_range}
use Rattle.print.specs.Fields.{tabbed}
use Rattle.print.specs.Line.{decimals}
use Rattle.text.specs.Wrote.{Wrote}
use Rattle.text.proofs.Wrote.{wrote_nothing}
use Rattle.print.proofs.Tabs.{wrote_fields, none_short, field_short}

decimals_append : (ms ns : List ℕ) → decimals (ms ++ ns) ≡ decimals ms ++ decimals ns
unfolding decimals
decimals_append [] ns = refl
decimals_append (m ∷ ms) ns = ap (λ (l : List (List ℕ)). decimal m ∷ l) (decimals_append ms ns)

pub numbers_none : {b : List ℕ} {at : ℕ} → Wrote b at (tabbed (decimals [])) b at
unfolding tabbed decimals
numbers_none = wrote_nothing

-- one number more
pub numbers_more : {b b₁ b₂ : List ℕ} {at r₁ r₂ : ℕ} (ns : List ℕ) (i : ℕ) → i < length ns → Wrote b at (tabbed (decimals (take i ns))) b₁ r₁
    → Wrote b₁ r₁ (tabbed (decimal (get_or ns i 0) ∷ [])) b₂ r₂ → Wrote b at (tabbed (decimals (take (i + 1) ns))) b₂ r₂
unfolding decimals
numbers_more ns i h w v =
    let e = ap decimals (take_more ns i 0 h) ∙ decimals_append (take i ns) (get_or ns i 0 ∷ []) in
    rw e (wrote_fields (decimals (take i ns)) (decimal (get_or ns i 0) ∷ []) w v)

-- a tab and at most twenty digits for each
pub numbers_high : (ns : List ℕ) → length (tabbed (decimals ns)) ≤ 21 * length ns
unfolding decimals
numbers_high [] = none_short
numbers_high (n ∷ ns) = omega (arith, field_short (decimal n) (decimals ns) (decimal_range n).1 (numbers_high ns))
