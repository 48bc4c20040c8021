-- Reading's answer, what it leaves of the table, and the counts that it hands out.
use Rattle.std.specs.Prelude.{◌≡◌, List, ℕ, ℤ}
use Rattle.rules.specs.declared.Counted.{Counted}
use Rattle.rules.specs.declared.Revision.{Revision}
use Rattle.rules.specs.Answers.{said}
use Rattle.rules.specs.Reading.{read_answer, read_leaves}
use Rattle.rules.specs.Counting.{read_counts}

pub record ReadIs (rev : Revision) (bs : List ℕ) (t : List ℤ) (r : Counted) (t' : List ℤ) : Type 0 where
  pub answer : said r.answer ≡ said (read_answer rev bs t)
  pub leaves : t' ≡ read_leaves rev bs t
  pub counts : r.counts ≡ read_counts rev bs t
