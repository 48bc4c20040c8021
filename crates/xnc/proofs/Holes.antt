-- The numbers of a hole fit a block's.
use mathlib.Core.Path.{◌≡◌, sym, ◌∙◌}
use mathlib.Core.List.{List}
use Prim.Native.Nat.{ℕ}
use native.Mathlib.Omega.{arith}
use lib.IntN.{ℤ}
use Rattle.std.specs.Prelude.{Some, Ok}
use Rattle.rules.specs.Results.{HoleAnswer}
use Rattle.rules.specs.declared.Hole.{Hole}
use Rattle.rules.specs.Answers.{hole_said}
use Rattle.rules.specs.Asking.{hole_answer}
use Rattle.rules.proofs.Said.{hole_said_one}
use Rattle.answers.proofs.HoleRanges.{hole_in_range}
use Rattle.xnc.specs.Door.{HoleOk}

-- a hole that the table gives fits
pub made_ok : (t : List ℤ) (n k : ℕ) {a : HoleAnswer} → hole_said a ≡ hole_said (hole_answer t n k) → (h : Hole) → a ≡ Ok (Some h) → HoleOk h
made_ok t n k e h w =
    let r = hole_in_range t n k h (sym (hole_said_one e) ∙ w) in
    record { kind_range = omega (arith, r.kind_range); tool_range = omega (arith, r.tool_range); radius_range = omega (arith, r.radius_range) }
