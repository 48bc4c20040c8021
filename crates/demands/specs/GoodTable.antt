-- A good table of n rows, whatever its rows.
use Rattle.std.specs.Prelude.{List, ℕ, ℤ}
use Rattle.rules.specs.Rows.{Good}
use Rattle.rules.specs.Reading.{Rows}

pub record GoodTable (t : List ℤ) (n : ℕ) : Type 0 where
  pub rows : Rows
  pub good : Good t n rows
