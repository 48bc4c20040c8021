-- A table is good exactly when some accepted file reads to it, by each revision. So it has none of its own.
use Rattle.std.specs.Prelude.{◌≡◌, List, ℕ, ℤ, Ok}
use Rattle.rules.specs.declared.Revision.{Revision}
use Rattle.rules.specs.Reading.{read_answer, read_leaves}
use Rattle.demands.specs.GoodTable.{GoodTable}

-- the numbers t are left by reading a file of n lines by a revision into lent numbers
pub record ReadTo (rev : Revision) (t : List ℤ) (n : ℕ) : Type 0 where
  pub file : List ℕ
  pub lent : List ℤ
  pub answer : read_answer rev file lent ≡ Ok n
  pub table : read_leaves rev file lent ≡ t

pub record GoodExactly : Type 0 where
  pub good_read : (rev : Revision) (t : List ℤ) (n : ℕ) → GoodTable t n → ReadTo rev t n
  pub read_good : (rev : Revision) (t : List ℤ) (n : ℕ) → ReadTo rev t n → GoodTable t n
