-- How numbers are written: what is written is the one text that document 01's rule allows, for a radius document 02's #104.
use Rattle.std.specs.Prelude.{◌≡◌, List, ℕ, ◌%◌, ◌≤◌, ℤ, nat_abs}
use Rattle.points.specs.Points.{place_of}
use Rattle.rules.specs.Numbers.{max_number, max_tool, max_places}
use Rattle.rules.specs.Rows.{Good}
use Rattle.rules.specs.Reading.{Rows}
use Rattle.rules.specs.Writing.{number_text, radius_text, coordinate_text, tool_text, text_of_rows}
use Rattle.rules.specs.Written.{WritesNumber, WritesRadius, WritesCoordinate, WritesTool, WritesRows}

-- the text x is allowed, and no other
pub record OnlyText (Allowed : List ℕ → Type 0) (x : List ℕ) : Type 0 where
  pub allowed : Allowed x
  pub only : (b : List ℕ) → Allowed b → b ≡ x

pub record OneSpelling : Type 0 where
  pub number : (v : ℕ) → v ≤ max_number → OnlyText (λ b. WritesNumber b v) (number_text v)
  -- a radius of v millionths, which is a multiple of the last of d decimals
  pub radius : (v d : ℕ) → v ≤ max_number → d ≤ max_places → v % place_of d ≡ 0 → OnlyText (λ b. WritesRadius b v d) (radius_text d v)
  pub coordinate : (z : ℤ) → nat_abs z ≤ max_number → OnlyText (λ b. WritesCoordinate b z) (coordinate_text z)
  pub tool : (t : ℕ) → t ≤ max_tool → OnlyText (λ b. WritesTool b t) (tool_text t)
  -- the text of a good table
  pub text : (t : List ℤ) (n : ℕ) (rs : Rows) → Good t n rs → OnlyText (λ b. WritesRows b rs) (text_of_rows rs)
