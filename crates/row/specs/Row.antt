-- One row's numbers looked at, and the command in them.
use Rattle.rules.specs.Results.{Looked}
use Rattle.std.specs.Prelude.{cond, List, eqb, ℤ, length, None}
use Rattle.rules.specs.declared.Command.{Command}
use Rattle.rules.specs.declared.Command.TheVariants.{Comment}
use Rattle.rules.specs.Rows.{row_width, command_at, look_of}

-- what f says of a row's numbers, and z of too few or too many
abbrev pub of_row : {A : Type 0} → (List ℤ → A) → A → List ℤ → A
of_row f z a = cond (eqb (length a) row_width) (f a) z

-- numbers looked at: too few or too many for a row are none
unfoldable pub looked : List ℤ → Looked
looked a = of_row look_of None a

-- the command in a row's numbers, of which nothing is tested; in too few or too many there is none, as in a comment
unfoldable pub untested_in : List ℤ → Command
untested_in a = of_row command_at Comment a
