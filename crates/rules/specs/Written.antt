-- Document 01, "Writing", once more as a relation: which bytes write which number, which command, which rows. A radius is written by
-- document 02's #104. What the writer writes is the one text that this allows (one_spelling).
use Rattle.std.specs.Prelude.{List, [], ◌∷◌, ◌++◌, ℕ, suc, ◌+◌, ◌-◌, ◌*◌, ◌^◌, ◌<◌, ◌≤◌, ◌≡◌, ℤ, pos, negsuc}
use Prim.Native.Char.{code}
use Rattle.lists.specs.Words.{bytes}
use Rattle.points.specs.declared.Point.{Point}
use Rattle.points.specs.declared.Arc.{Arc}
use Rattle.rules.specs.declared.Command.{Command}
use Rattle.rules.specs.declared.Command.TheVariants.{Comment, M48, Metric, Inch, Declare, Percent, G05, G00, Select, Hit, M15, M16, G01, G02, G03, M30}
use Rattle.rules.specs.Numbers.{max_places}
use Rattle.rules.specs.Lines.{LF}
use Rattle.rules.specs.Reading.{Rows}
use Rattle.rules.specs.Spelling.{Digits}

-- ---- numbers

-- no spare leading zeros: one digit alone, or the first is not 0
pub data NoSpareZero : List ℕ → Type 0 where
  alone : {b : ℕ} → NoSpareZero (b ∷ [])
  first : {b c : ℕ} {ds : List ℕ} → (b ≡ code "0" → ⊥) → NoSpareZero (b ∷ c ∷ ds)

-- no trailing zeros: the last digit is not 0
pub data NoTrailingZero : List ℕ → Type 0 where
  last : {b : ℕ} → (b ≡ code "0" → ⊥) → NoTrailingZero (b ∷ [])
  more : {b : ℕ} {ds : List ℕ} → NoTrailingZero ds → NoTrailingZero (b ∷ ds)

-- a number of millionths: at least one digit before the point, and no point for a whole number
pub data WritesNumber : List ℕ → ℕ → Type 0 where
  whole : {ds : List ℕ} {k n : ℕ} → Digits ds k n → NoSpareZero ds → WritesNumber ds (n * 10 ^ max_places)
  point : {ds fs : List ℕ} {k n j m : ℕ} → Digits ds k n → NoSpareZero ds → Digits fs j m → NoTrailingZero fs → j ≤ max_places
      → WritesNumber (ds ++ (bytes "." ++ fs)) (n * 10 ^ max_places + m * 10 ^ (max_places - j))

-- a radius of millionths with just so many decimals: with none there is no point
pub data WritesRadius : List ℕ → ℕ → ℕ → Type 0 where
  whole : {ds : List ℕ} {k n : ℕ} → Digits ds k n → NoSpareZero ds → WritesRadius ds (n * 10 ^ max_places) 0
  point : {ds fs : List ℕ} {k n j m : ℕ} → Digits ds k n → NoSpareZero ds → Digits fs j m → 0 < j → j ≤ max_places
      → WritesRadius (ds ++ (bytes "." ++ fs)) (n * 10 ^ max_places + m * 10 ^ (max_places - j)) j

-- minus where negative, no plus
pub data WritesCoordinate : List ℕ → ℤ → Type 0 where
  plain : {b : List ℕ} {v : ℕ} → WritesNumber b v → WritesCoordinate b (pos v)
  minus : {b : List ℕ} {v : ℕ} → WritesNumber b (suc v) → WritesCoordinate (bytes "-" ++ b) (negsuc v)

-- two digits
abbrev pub WritesTool : List ℕ → ℕ → Type 0
WritesTool b t = Digits b 2 t

-- ---- lines

pub data WritesPoint : List ℕ → Point → Type 0 where
  xy : {a b : List ℕ} {p : Point} → WritesCoordinate a p.x → WritesCoordinate b p.y
      → WritesPoint (bytes "X" ++ (a ++ (bytes "Y" ++ b))) p

pub data WritesArc : List ℕ → Arc → Type 0 where
  xya : {b c : List ℕ} {a : Arc} → WritesPoint b a.to → WritesRadius c a.radius a.decimals → WritesArc (b ++ (bytes "A" ++ c)) a

-- a line without its end
pub data WritesCommand : List ℕ → Command → Type 0 where
  m48 : WritesCommand (bytes "M48") M48
  metric : WritesCommand (bytes "METRIC") Metric
  inch : WritesCommand (bytes "INCH") Inch
  declare : {a b : List ℕ} {t d : ℕ} → WritesTool a t → WritesNumber b d → WritesCommand (bytes "T" ++ (a ++ (bytes "C" ++ b))) (Declare t d)
  percent : WritesCommand (bytes "%") Percent
  g05 : WritesCommand (bytes "G05") G05
  g00 : {b : List ℕ} {p : Point} → WritesPoint b p → WritesCommand (bytes "G00" ++ b) (G00 p)
  select : {b : List ℕ} {t : ℕ} → WritesTool b t → WritesCommand (bytes "T" ++ b) (Select t)
  hit : {b : List ℕ} {p : Point} → WritesPoint b p → WritesCommand b (Hit p)
  m15 : WritesCommand (bytes "M15") M15
  m16 : WritesCommand (bytes "M16") M16
  g01 : {b : List ℕ} {p : Point} → WritesPoint b p → WritesCommand (bytes "G01" ++ b) (G01 p)
  g02 : {b : List ℕ} {a : Arc} → WritesArc b a → WritesCommand (bytes "G02" ++ b) (G02 a)
  g03 : {b : List ℕ} {a : Arc} → WritesArc b a → WritesCommand (bytes "G03" ++ b) (G03 a)
  m30 : WritesCommand (bytes "M30") M30

-- LF only; comments are dropped
pub data WritesLine : List ℕ → Command → Type 0 where
  dropped : WritesLine [] Comment
  line : {b : List ℕ} {c : Command} → WritesCommand b c → WritesLine (b ++ (LF ∷ [])) c

pub data WritesRows : List ℕ → Rows → Type 0 where
  no_row : WritesRows [] []
  row : {b x : List ℕ} {c : Command} {s : _} {rs : Rows} → WritesLine b c → WritesRows x rs
      → WritesRows (b ++ x) (record { command = c; state = s } ∷ rs)
