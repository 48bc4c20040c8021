-- A line that a program prints, as bytes in a lent block.
use Rattle.std.specs.Prelude.{◌≡◌, Bool, ◌&&◌, cond, List, [], ◌∷◌, ℕ, ◌≤◌, leb, length}
use Rattle.lists.specs.Put.{put_at}
use Rattle.rules.specs.Printing.{decimal}

-- the decimals of some numbers, as fields
unfoldable pub decimals : List ℕ → List (List ℕ)
decimals [] = []
decimals (n ∷ ns) = decimal n ∷ decimals ns

-- a block with room for every line: under 128 bytes there is none
abbrev pub line_room : ℕ
line_room = 128

-- a line in a block where there is room; else nothing, and the block stays as it was
pub record PutIn (room : Bool) (b l b' : List ℕ) (r : ℕ) : Type 0 where
  pub bytes : b' ≡ cond room (put_at b 0 l) b
  pub count : r ≡ cond room (length l) 0
  pub inside : r ≤ length b

-- most bytes of the word that a line of numbers begins with, and most numbers behind it
abbrev pub most_word : ℕ
most_word = 32

abbrev pub most_numbers : ℕ
most_numbers = 4

-- a block with room, a short word and few numbers
unfoldable pub line_fits : List ℕ → List ℕ → List ℕ → Bool
line_fits b word ns = leb line_room (length b) && (leb (length word) most_word && leb (length ns) most_numbers)
