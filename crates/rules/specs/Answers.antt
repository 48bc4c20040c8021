-- Document 01, "The answers": the number and the values of each answer.
use Rattle.std.specs.Prelude.{List, [], ◌∷◌, ℕ, ℤ, pos, nat_abs, Some, None, Ok, Err}
use Rattle.rules.specs.Refusals.{refusal_number, refusal_column}
use Rattle.rules.specs.Results.{Answer, DiameterAnswer, HoleAnswer}
use Rattle.rules.specs.declared.Hole.{Hole}
use Rattle.rules.specs.declared.Refusal.{Refusal}

-- what is answered: on success values, and the number is 0; else the refusal's number, its line and its column
pub data Said : Type 0 where
  success : List ℤ → Said
  refusal : ℕ → ℕ → ℕ → Said

abbrev pub number_of : Said → ℕ
number_of (success vs) = 0
number_of (refusal e i c) = e

-- its one count on success, else the refusal's line
abbrev pub value_of : Said → ℕ
value_of (success []) = 0
value_of (success (v ∷ vs)) = nat_abs v
value_of (refusal e i c) = i

-- on success it is 0
abbrev pub column_of : Said → ℕ
column_of (success vs) = 0
column_of (refusal e i c) = c

abbrev pub refused : Refusal → ℕ → Said
refused e i = refusal (refusal_number e) i (refusal_column e)

-- read, edit and write: one count
abbrev pub said : Answer → Said
said (Ok n) = success (pos n ∷ [])
said (Err r) = refused r.refusal r.line

-- a hole's numbers: kind, tool, start, end, radius
unfoldable pub hole_numbers : Hole → List ℤ
hole_numbers h = pos h.kind ∷ pos h.tool ∷ h.start.x ∷ h.start.y ∷ h.end.x ∷ h.end.y ∷ pos h.radius ∷ []

-- the hole query: the hole, or none
abbrev pub hole_said : HoleAnswer → Said
hole_said (Ok (Some h)) = success (hole_numbers h)
hole_said (Ok None) = success []
hole_said (Err r) = refused r.refusal r.line

-- a tool's diameter
abbrev pub diameter_said : DiameterAnswer → Said
diameter_said (Ok d) = success (pos d ∷ [])
diameter_said (Err r) = refused r.refusal r.line
