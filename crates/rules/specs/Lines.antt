-- Document 01, "Numbers and sizes": how a file's bytes fall into lines.
use Rattle.std.specs.Prelude.{◌≡◌, Bool, true, false, ◌&&◌, cond, List, [], ◌∷◌, ℕ, suc, ◌-◌, eqb, ltb, leb, length, get_or, take}

abbrev pub LF : ℕ
LF = 10

abbrev pub CR : ℕ
CR = 13

-- a line: its bytes up to its LF, and whether the LF is there
pub record Line : Type 0 where
  pub bytes : List ℕ
  pub ended : Bool

abbrev pub empty_line : Line
empty_line = record { bytes = []; ended = true }

abbrev pub add_byte : ℕ → List Line → List Line
add_byte b [] = record { bytes = b ∷ []; ended = false } ∷ []
add_byte b (l ∷ ls) = record { bytes = b ∷ l.bytes; ended = l.ended } ∷ ls

-- each LF ends a line; bytes after the last LF are a line that is not ended
unfoldable pub lines_of : List ℕ → List Line
lines_of [] = []
lines_of (b ∷ bs) = cond (eqb b LF) (empty_line ∷ lines_of bs) (add_byte b (lines_of bs))

-- one CR right before the LF belongs to the line's end
unfoldable pub ends_in_cr : List ℕ → Bool
ends_in_cr l = ltb 0 (length l) && eqb (get_or l (length l - 1) 0) CR

unfoldable pub text_of : List ℕ → List ℕ
text_of l = cond (ends_in_cr l) (take (length l - 1) l) l

-- bytes that a line may hold
abbrev pub is_allowed : ℕ → Bool
is_allowed b = leb 32 b && leb b 126

unfoldable pub is_printable : List ℕ → Bool
is_printable [] = true
is_printable (b ∷ l) = is_allowed b && is_printable l

-- how many of them it begins with: the first forbidden byte stands behind these
unfoldable pub allowed_bytes : List ℕ → ℕ
allowed_bytes [] = 0
allowed_bytes (b ∷ l) = cond (is_allowed b) (suc (allowed_bytes l)) 0

-- bytes without a given one, and without LF
abbrev pub NoByte : ℕ → List ℕ → Type 0
NoByte v [] = Unit {0}
NoByte v (b ∷ l) = (b ≡ v → ⊥) × NoByte v l

abbrev pub NoLF : List ℕ → Type 0
NoLF l = NoByte LF l

-- every line has its LF
abbrev pub AllEnded : List Line → Type 0
AllEnded [] = Unit {0}
AllEnded (l ∷ ls) = (l.ended ≡ true) × AllEnded ls
