-- The diameter of a tool is told by the rows' commands alone: it is that of the first that declares the tool, and every other is
-- passed over.
use mathlib.Core.Path.{◌≡◌, refl, ap, ◌∙◌}
use mathlib.Core.List.{List, [], ◌∷◌, ◌++◌}
use Prim.Native.Nat.{ℕ, suc, ◌+◌, ◌<◌}
use native.Mathlib.Omega.{arith}
use lib.ListN.{length, get_or}
use Rattle.std.specs.Prelude.{Option, Some, None, Ok}
use Rattle.runs.specs.Machine.{all_hold, commands_of}
use Rattle.rules.specs.declared.Command.{Command}
use Rattle.rules.specs.declared.Command.TheVariants.{Declare}
use Rattle.rules.specs.Results.{DiameterAnswer, refused_at}
use Rattle.rules.specs.Refusals.{not_declared}
use Rattle.rules.specs.Reading.{Rows, no_row}
use Rattle.rules.specs.Asking.{declared_by, on_declared, diameter_in}
use Rattle.laws.proofs.Declared.{declared_is, declares_none}

module _ (u : ℕ) where
  unfoldable pub diameter_by : List Command → DiameterAnswer
  diameter_by [] = refused_at not_declared 0
  diameter_by (c ∷ cs) = on_declared (declared_by u c) (diameter_by cs)

  -- some row of these declares the tool
  abbrev pub HasDiameter : Rows → Type 0
  HasDiameter rs = (d : ℕ) × (diameter_by (commands_of rs) ≡ Ok d)

  pub diameter_rows : (rs : Rows) (i : ℕ) → diameter_in u (all_hold rs) i ≡ diameter_by (commands_of rs)
  unfolding diameter_in all_hold commands_of diameter_by
  diameter_rows [] i = refl
  diameter_rows (r ∷ rs) i = ap (on_declared (declared_by u r.command)) (diameter_rows rs (i + 1))

  pub passed_over : (bs cs : List Command) (c : Command) → ((d : ℕ) → c ≡ Declare u d → ⊥) → diameter_by (bs ++ (c ∷ cs)) ≡ diameter_by (bs ++ cs)
  unfolding diameter_by
  passed_over [] cs c n = rw (declares_none u c n)
  passed_over (b ∷ bs) cs c n = ap (on_declared (declared_by u b)) (passed_over bs cs c n)

  -- what is found is declared by a row
  pub found_row : (rs : Rows) (d : ℕ) → diameter_by (commands_of rs) ≡ Ok d → (j : ℕ) × (j < length rs) × ((get_or rs j no_row).command ≡ Declare u d)
  unfolding commands_of diameter_by
  found_row [] d e = absurd (let z : ◌≡◌ {A = ℕ} 0 1 = cc in omega arith)
  found_row (r ∷ rs) d e = by (declared_by u r.command) refl (found_row rs d) e
    where
      by : (x : Option ℕ) → declared_by u r.command ≡ x
          → (diameter_by (commands_of rs) ≡ Ok d → (j : ℕ) × (j < length rs) × ((get_or rs j no_row).command ≡ Declare u d))
          → on_declared x (diameter_by (commands_of rs)) ≡ Ok d → (j : ℕ) × (j < length (r ∷ rs)) × ((get_or (r ∷ rs) j no_row).command ≡ Declare u d)
      by None f ih g = let w = ih g in (suc w.0, omega (arith, w.1), w.2)
      by (Some m) f ih g = let h : m ≡ d = cc in (0, omega arith, declared_is u r.command m f ∙ ap (Declare u) h)
