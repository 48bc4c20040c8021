-- What writing a text leaves.
use Rattle.std.specs.Prelude.{◌≡◌, List, ℕ, ◌+◌, length}
use Rattle.lists.specs.Put.{fitting, put_in}

-- from b, the text x written from place at on, as much of it as there is room for: the bytes afterwards, all else as it was,
-- and the place after what was written
pub record Wrote (b : List ℕ) (at : ℕ) (x : List ℕ) (b' : List ℕ) (r : ℕ) : Type 0 where
  pub bytes : b' ≡ put_in b at x
  pub end : r ≡ at + length (fitting b at x)
