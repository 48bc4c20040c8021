-- The edited file of demand 3: the same bytes, with the text of line k replaced and its line end kept.
use Rattle.std.specs.Prelude.{◌≡◌, List, [], ◌++◌, ℕ, suc}
use Rattle.rules.specs.Spelling.{FirstLine}

-- bytes that are whole lines, and how many
pub data WholeLines : List ℕ → ℕ → Type 0 where
  none : WholeLines [] 0
  one_more : {bs l rest : List ℕ} {n : ℕ} → FirstLine bs l rest → WholeLines rest n → WholeLines bs (suc n)

-- line k of a file: the bytes before it, which are whole lines, one fewer than k; and those from it on, which begin with its
-- text and its end
pub record LineOf (bs : List ℕ) (k : ℕ) : Type 0 where
  pub before : List ℕ
  pub from : List ℕ
  pub parts : bs ≡ before ++ from
  pub lines_before : ℕ
  pub whole_lines : WholeLines before lines_before
  pub number : k ≡ suc lines_before
  pub line : List ℕ
  pub after : List ℕ
  pub here : FirstLine from line after

-- the file with the text l in that line
abbrev pub edited : {bs : List ℕ} {k : ℕ} → LineOf bs k → List ℕ → List ℕ
edited w l = w.before ++ (l ++ (w.here.end ++ w.after))
