-- What is written reads back the same by either revision: the writer writes 2021, whatever was read. Which table it is, demand 2 says
-- for each revision (WriteBack).
use Rattle.std.specs.Prelude.{◌≡◌, List, ℕ, ℤ, take, Ok}
use Rattle.rules.specs.declared.Revision.TheVariants.{Rev2019, Rev2021}
use Rattle.rules.specs.Reading.{read_answer, read_leaves}
use Rattle.rules.specs.Writing.{write_answer, write_leaves}

-- the bytes x, read into lent numbers u
pub record SameByEither (x : List ℕ) (u : List ℤ) : Type 0 where
  pub answer : read_answer Rev2019 x u ≡ read_answer Rev2021 x u
  pub table : read_leaves Rev2019 x u ≡ read_leaves Rev2021 x u

pub record ReadsBackByEither : Type 0 where
  -- a table of n rows in numbers t was written as the first m of lent bytes b
  pub written : (t : List ℤ) (n : ℕ) (b : List ℕ) (m : ℕ) → write_answer t n b ≡ Ok m
      → (u : List ℤ) → SameByEither (take m (write_leaves t n b)) u
