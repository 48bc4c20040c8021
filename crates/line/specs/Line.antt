-- A line in a file's bytes: how many bytes stand before the first LF, or before the end; and a line from its bytes.
use Rattle.std.specs.Prelude.{Bool, cond, List, [], ◌∷◌, ℕ, ◌+◌, eqb}
use Rattle.rules.specs.Lines.{LF, Line}

unfoldable pub find_lf : List ℕ → ℕ
find_lf [] = 0
find_lf (b ∷ bs) = cond (eqb b LF) 0 (find_lf bs + 1)

-- bytes up to the LF, and whether it is there
abbrev pub line_of_bytes : List ℕ → Bool → Line
line_of_bytes l e = record { bytes = l; ended = e }
