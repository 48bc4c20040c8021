-- Document 01, "Numbers and sizes": how a number is written, and which numbers are in range. Digits are counted exactly,
-- however many a line holds: nothing here is capped.
use Rattle.std.specs.Prelude.{Bool, true, false, ◌&&◌, cond, List, [], ◌∷◌, ℕ, suc, ◌+◌, ◌-◌, ◌*◌, ◌^◌, leb, eqb, ℤ, pos, neg_ℤ, drop}
use Prim.Native.Char.{code}
use Rattle.lists.specs.Words.{bytes, starts_with}

-- sizes
abbrev pub max_file : ℕ
max_file = 65536

abbrev pub max_lines : ℕ
max_lines = 1000

abbrev pub max_line : ℕ
max_line = 256

-- the largest coordinate, diameter and radius, in millionths
abbrev pub max_number : ℕ
max_number = 999999999

abbrev pub max_tool : ℕ
max_tool = 99

-- most digits after the point
abbrev pub max_places : ℕ
max_places = 6

-- ---- how a number is written

unfoldable pub is_digit : ℕ → Bool
is_digit b = leb (code "0") b && leb b (code "9")

-- the digits that bytes begin with: their value, how many they are, and the bytes after them
pub record DigitRun : Type 0 where
  pub value : ℕ
  pub count : ℕ
  pub rest : List ℕ

abbrev pub no_digits : List ℕ → DigitRun
no_digits l = record { value = 0; count = 0; rest = l }

abbrev pub one_more : ℕ → DigitRun → DigitRun
one_more d r = record { value = d * 10 ^ r.count + r.value; count = suc r.count; rest = r.rest }

unfoldable pub digits_of : List ℕ → DigitRun
digits_of [] = no_digits []
digits_of (b ∷ l) = cond (is_digit b) (one_more (b - code "0") (digits_of l)) (no_digits (b ∷ l))

-- a number as it is written: its sign, its digits as one number, and how many of them stand after the point
pub record Decimal : Type 0 where
  pub negative : Bool
  pub digits : ℕ
  pub places : ℕ

-- such a number and the bytes after it, or none
pub data NumberRead : Type 0 where
  got : Decimal → List ℕ → NumberRead
  no_number : NumberRead

abbrev pub on_number {ℓ} : {A : Type ℓ} → NumberRead → A → (Decimal → List ℕ → A) → A
on_number (got d rest) z f = f d rest
on_number no_number z f = z

-- digits with at most one point, at least one digit in all
abbrev pub whole_number : Bool → DigitRun → NumberRead
whole_number neg w = cond (eqb w.count 0) no_number (got (record { negative = neg; digits = w.value; places = 0 }) w.rest)

abbrev pub with_fraction : Bool → DigitRun → DigitRun → NumberRead
with_fraction neg w f =
    cond (eqb (w.count + f.count) 0) no_number
    (got (record { negative = neg; digits = w.value * 10 ^ f.count + f.value; places = f.count }) f.rest)

abbrev pub after_digits : Bool → DigitRun → NumberRead
after_digits neg w = cond (starts_with w.rest (bytes ".")) (with_fraction neg w (digits_of (drop 1 w.rest))) (whole_number neg w)

unfoldable pub magnitude_of : Bool → List ℕ → NumberRead
magnitude_of neg l = after_digits neg (digits_of l)

-- a diameter or a radius has no sign; a coordinate may have one
unfoldable pub unsigned_of : List ℕ → NumberRead
unsigned_of l = magnitude_of false l

unfoldable pub signed_of : List ℕ → NumberRead
signed_of l =
    cond (starts_with l (bytes "-")) (magnitude_of true (drop 1 l))
    (cond (starts_with l (bytes "+")) (magnitude_of false (drop 1 l)) (magnitude_of false l))

-- ---- which numbers are in range

-- at most six places: the number in whole millionths
unfoldable pub millionths : Decimal → ℕ
millionths d = d.digits * 10 ^ (max_places - d.places)

abbrev pub with_sign : Bool → ℕ → ℤ
with_sign neg n = cond neg (neg_ℤ (pos n)) (pos n)

-- a coordinate lies in -999,999,999 to 999,999,999
unfoldable pub is_coordinate : Decimal → Bool
is_coordinate d = leb d.places max_places && leb (millionths d) max_number

unfoldable pub coordinate_of : Decimal → ℤ
coordinate_of d = with_sign d.negative (millionths d)

-- a diameter or a radius lies in 1 to 999,999,999
unfoldable pub is_size : Decimal → Bool
is_size d = leb d.places max_places && (leb 1 (millionths d) && leb (millionths d) max_number)

-- a tool number lies in 1 to 99
unfoldable pub is_tool : ℕ → Bool
is_tool t = leb 1 t && leb t max_tool
