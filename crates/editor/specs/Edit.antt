-- An edit's answer, what it leaves of the table, and the counts that it hands back.
use Rattle.std.specs.Prelude.{◌≡◌, List, ℕ, ℤ}
use Rattle.rules.specs.declared.Counts.{Counts}
use Rattle.rules.specs.declared.Counted.{Counted}
use Rattle.rules.specs.declared.Revision.{Revision}
use Rattle.rules.specs.Answers.{said}
use Rattle.rules.specs.Editing.{edit_answer, edit_leaves, edit_counts}

pub record EditIs (rev : Revision) (t : List ℤ) (n k : ℕ) (l : List ℕ) (c : Counts) (r : Counted) (t' : List ℤ) : Type 0 where
  pub answer : said r.answer ≡ said (edit_answer rev t n k l c)
  pub leaves : t' ≡ edit_leaves rev t n k l c
  pub counts : r.counts ≡ edit_counts rev t n k l c
