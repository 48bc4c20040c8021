-- For contracts of private functions alone: how many bytes the text of rows has, and the text of a table's commands.
use Rattle.std.specs.Prelude.{List, [], ◌++◌, ℕ, zero, suc, ◌+◌, ℤ, length, Ok}
use Rattle.runs.specs.Machine.{Verdict, accepted, refused}
use Rattle.rules.specs.declared.Refusal.{Refusal}
use Rattle.rules.specs.Results.{Answer, refused_at}
use Rattle.rules.specs.Reading.{Rows}
use Rattle.rules.specs.Writing.{line_text, text_of_rows}
use Rattle.table.specs.Table.{untested_at}

-- the bytes of the text of rows, after b others
abbrev pub bytes_from : ℕ → Verdict Rows Refusal → Answer
bytes_from b (accepted rs) = Ok (b + length (text_of_rows rs))
bytes_from b (refused e i) = refused_at e i

-- the text of the commands in a table's first rows
unfoldable pub text_to : List ℤ → ℕ → List ℕ
text_to t zero = []
text_to t (suc i) = text_to t i ++ line_text (untested_at t i)
