-- Rows without their comments, as a written file reads to them; and a text that has a line for each row, comments too.
use Rattle.std.specs.Prelude.{cond, List, [], ◌∷◌, ◌++◌, ℕ}
use Rattle.rules.specs.Lines.{LF}
use Rattle.rules.specs.Kinds.{is_comment}
use Rattle.rules.specs.Reading.{Rows}
use Rattle.rules.specs.Writing.{spelt}

unfoldable pub without_comments : Rows → Rows
without_comments [] = []
without_comments (r ∷ rs) = cond (is_comment r.command) (without_comments rs) (r ∷ without_comments rs)

unfoldable pub text_with_comments : Rows → List ℕ
text_with_comments [] = []
text_with_comments (r ∷ rs) = spelt r.command ++ (LF ∷ text_with_comments rs)
