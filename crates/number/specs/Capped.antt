-- A number as the code holds it: its digits as one number, exact below 1,000,000,000, which stands for all from there on
-- (such a number is out of every range), and the place after it in place of the bytes after it.
use Rattle.rules.specs.declared.Refusal.{Refusal}
use Rattle.std.specs.Prelude.{ℤ, ◌≡◌, cond, List, ℕ, ◌+◌, ◌-◌, ◌*◌, ◌^◌, ◌≤◌, min, length, drop, Option, Some, None, Result, Ok, Err}
use Rattle.rules.specs.Refusals.{out_of_range}
use Rattle.rules.specs.Numbers.{DigitRun, Decimal, NumberRead, got, no_number, millionths, is_coordinate, coordinate_of, is_size}
use Rattle.number.specs.declared.Run.{Run}
use Rattle.number.specs.declared.Written.{Written}

abbrev pub cap : ℕ
cap = 1000000000

-- one more digit
abbrev pub pushed : ℕ → ℕ → ℕ
pushed n d = min (n * 10 + d) cap

-- the digits after those of the number c, from the place at on
abbrev pub held_run : ℕ → ℕ → DigitRun → Run
held_run at c w = record { value = min (c * 10 ^ w.count + w.value) cap; next = at + w.count }

-- a number in n bytes, with its first byte in column c
abbrev pub number_at : ℕ → ℕ → NumberRead → Option Written
number_at c n (got d rest) =
    Some (record { column = c; negative = d.negative; digits = min d.digits cap; places = d.places; next = n - length rest })
number_at c n no_number = None

-- a decimal as it is held, and a reading: where the held number ends the bytes after it begin
pub record HeldAs (w : Written) (d : Decimal) : Type 0 where
  pub negative_is : w.negative ≡ d.negative
  pub digits_is : w.digits ≡ min d.digits cap
  pub places_is : w.places ≡ d.places

pub record ReadsTo (s : List ℕ) (c : ℕ) (r : NumberRead) (w : Written) : Type 0 where
  pub decimal : Decimal
  pub column_is : w.column ≡ c
  pub reading : r ≡ got decimal (drop w.next s)
  pub holds : HeldAs w decimal
  pub within : w.next ≤ length s

-- the number that is held
abbrev pub decimal_of : Written → Decimal
decimal_of w = record { negative = w.negative; digits = w.digits; places = w.places }

-- what a number in column c is as a coordinate, and as a diameter or radius
unfoldable pub coordinate_read : ℕ → Decimal → Result ℤ Refusal
coordinate_read c d = cond (is_coordinate d) (Ok (coordinate_of d)) (Err (out_of_range c))

unfoldable pub size_read : ℕ → Decimal → Result ℕ Refusal
size_read c d = cond (is_size d) (Ok (millionths d)) (Err (out_of_range c))
