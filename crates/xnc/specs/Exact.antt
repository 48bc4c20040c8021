-- An answer at the door is exact: its parts are found again as include/xnc.h takes them apart, and it is below 2^32 exactly on success.
use Rattle.rules.specs.Results.{Answer}
use Rattle.std.specs.Prelude.{◌≡◌, List, ℕ, ◌*◌, ◌/◌, ◌%◌, ◌<◌, ℤ, get_or, Ok}
use Rattle.lists.specs.Exactly.{Exactly}
use Rattle.rules.specs.declared.Revision.{Revision}
use Rattle.rules.specs.Answers.{number_of, value_of, column_of, said, hole_said}
use Rattle.rules.specs.Counting.{hits_answer, routs_answer}
use Rattle.rules.specs.Writing.{write_answer}
use Rattle.rules.specs.Asking.{hole_answer}
use Rattle.xnc.specs.Door.{narrow, wide, packed, with_block, hole_value, hole_packed}
use Rattle.xnc.specs.Counts.{counts_in, last_block, read_there, edit_there}

-- the bits of r: the upper sixteen, the sixteen below them, and the lower thirty-two
pub record TakenApart (r number column value : ℕ) : Type 0 where
  pub number_is : r / (narrow * wide) ≡ number
  pub column_is : r / wide % narrow ≡ column
  pub value_is : r % wide ≡ value

-- of reading, editing and writing
pub record ExactAnswer (a : Answer) : Type 0 where
  pub parts : TakenApart (packed a) (number_of (said a)) (column_of (said a)) (value_of (said a))
  pub success : Exactly (packed a < wide) ((n : ℕ) × (a ≡ Ok n))

-- 32-bit numbers, as a lent block of counts has them
abbrev pub Block : List ℕ → Type 0
Block b = (i : ℕ) → get_or b i 0 < wide

pub record DoorExact : Type 0 where
  pub read : (rev : Revision) (bs : List ℕ) (t : List ℤ) (b : List ℕ) → ExactAnswer (read_there rev bs t b)
  pub edit : (rev : Revision) (t : List ℤ) (n k : ℕ) (l b : List ℕ) → ExactAnswer (edit_there rev t n k l b)
  pub write : (t : List ℤ) (n : ℕ) (b : List ℕ) → ExactAnswer (write_answer t n b)
  pub hits : (b : List ℕ) → Block b → (tool : ℕ) → ExactAnswer (last_block b (hits_answer (counts_in b) tool))
  pub routs : (b : List ℕ) → Block b → (tool : ℕ) → ExactAnswer (last_block b (routs_answer (counts_in b) tool))
  -- the question for a hole, whose block is b
  pub hole : (t : List ℤ) (n k : ℕ) (b : List ℤ)
      → TakenApart (hole_packed (hole_answer t n k) b) (number_of (hole_said (with_block (hole_answer t n k) b)))
      (column_of (hole_said (with_block (hole_answer t n k) b))) (hole_value (hole_said (with_block (hole_answer t n k) b)))
