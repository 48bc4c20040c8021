-- What a question or a call answers: a value, or a refusal and its line. And a row as it is found in lent numbers, where it is one.
use Rattle.std.specs.Prelude.{List, [], ◌∷◌, ℕ, Option, Some, Result, Ok, Err}
use Rattle.runs.specs.Machine.{Out, yields, stops}
use Rattle.rules.specs.declared.Command.{Command}
use Rattle.rules.specs.declared.State.{State}
use Rattle.rules.specs.declared.Hole.{Hole}
use Rattle.rules.specs.declared.Refusal.{Refusal}
use Rattle.rules.specs.declared.Refused.{Refused}
use Rattle.rules.specs.declared.Row.{Row}
use Rattle.rules.specs.Refusals.{refusal_number, refusal_column}

-- read, edit and write: one count
abbrev pub Answer : Type 0
Answer = Result ℕ Refused

-- the hole query: the hole, or none
abbrev pub HoleAnswer : Type 0
HoleAnswer = Result (Option Hole) Refused

-- a tool's diameter
abbrev pub DiameterAnswer : Type 0
DiameterAnswer = Result ℕ Refused

-- a refusal and its line
abbrev pub at_line : Refusal → ℕ → Refused
at_line e i = record { refusal = e; line = i }

-- its number, its line and its column, in the order in which they are printed
abbrev pub refused_numbers : Refused → List ℕ
refused_numbers r = refusal_number r.refusal ∷ r.line ∷ refusal_column r.refusal ∷ []

abbrev pub refused_at : {A : Type 0} → Refusal → ℕ → Result A Refused
refused_at e i = Err (at_line e i)

-- lent numbers that are a row, or none
abbrev pub Looked : Type 0
Looked = Option Row

abbrev pub row_found : Command → State → Looked
row_found c s = Some (record { command = c; state = s })

-- something, or a refusal, as a machine gives it
abbrev pub out_of : {A : Type 0} → Result A Refusal → Out A Refusal
out_of (Ok a) = yields a
out_of (Err e) = stops e
