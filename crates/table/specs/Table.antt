-- A table in lent numbers: a row looked at, and one that follows. `i` counts the rows before it.
use Rattle.std.specs.Prelude.{cond, List, ℕ, ◌+◌, ◌-◌, ◌*◌, leb, ℤ, length, take, drop, Some, None}
use Rattle.runs.specs.Machine.{on_out, Entry}
use Rattle.rules.specs.declared.Command.{Command}
use Rattle.rules.specs.declared.Command.TheVariants.{Comment}
use Rattle.rules.specs.declared.State.{State}
use Rattle.rules.specs.Results.{Looked, row_found}
use Rattle.rules.specs.State.{taken, same_state}
use Rattle.rules.specs.Rows.{row_width, command_at, look_of, entry_of}

-- the numbers of the row after i others
abbrev pub numbers_at : List ℤ → ℕ → List ℤ
numbers_at t i = take row_width (drop (row_width * i) t)

-- what f says of them, and z past the end
abbrev pub at_row : {A : Type 0} → (List ℤ → A) → A → List ℤ → ℕ → A
at_row f z t i = cond (leb (row_width * i + row_width) (length t)) (f (numbers_at t i)) z

-- the row after i others; past the end there is none
unfoldable pub look_at : List ℤ → ℕ → Looked
look_at t i = at_row look_of None t i

-- the command in its numbers, of which nothing is tested; past the end there is none, as in a comment
unfoldable pub untested_at : List ℤ → ℕ → Command
untested_at t i = at_row command_at Comment t i

-- the row of line k, as it is found; lines count from 1
abbrev pub row_at : List ℤ → ℕ → Entry Command State
row_at t k = entry_of (look_at t (k - 1))

-- a row looked at, where its command may come after state p and its own state is the one that comes of it
unfoldable pub followed : State → Looked → Looked
followed p (Some r) = on_out (taken p r.command) (λ _. None) (λ q. cond (same_state q r.state) (row_found r.command r.state) None)
followed p None = None
