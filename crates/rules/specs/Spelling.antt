-- The rules once more, as a relation and with no reader in it: which bytes spell which number, which command, which file.
use Rattle.std.specs.Prelude.{true, false, ◌≡◌, List, [], ◌∷◌, ◌++◌, ℕ, suc, ◌+◌, ◌*◌, ◌^◌, ◌<◌, ◌≤◌, length, ℤ}
use Prim.Native.Char.{code}
use Rattle.lists.specs.Words.{bytes}
use Rattle.rules.specs.declared.Command.{Command}
use Rattle.rules.specs.declared.Command.TheVariants.{Comment, M48, Metric, Inch, Declare, Percent, G05, G00, Select, Hit, M15, M16, G01, G02, G03, M30}
use Rattle.rules.specs.declared.Revision.{Revision}
use Rattle.rules.specs.Numbers.{max_line, max_number, max_tool, max_places, Decimal, millionths, with_sign}
use Rattle.rules.specs.Lines.{LF, CR, NoLF}
use Rattle.rules.specs.Commands.{fewest_declared, fewest_selected, most_digits, Form, comment, m48, metric, inch, declare, percent, g05, g00, select, hit, m15, m16, g01, g02, g03, m30}

-- ---- numbers

-- k digits, of value n
pub data Digits : List ℕ → ℕ → ℕ → Type 0 where
  no_digit : Digits [] 0 0
  digit : {d : ℕ} {ds : List ℕ} {k n : ℕ} → d < 10 → Digits ds k n → Digits ((code "0" + d) ∷ ds) (suc k) (d * 10 ^ k + n)

-- digits with at most one point among them, at least one digit: all digits as one number, and how many stand after the point
pub data Magnitude : List ℕ → ℕ → ℕ → Type 0 where
  whole : {ds : List ℕ} {k n : ℕ} → Digits ds k n → 0 < k → Magnitude ds n 0
  point : {ds fs : List ℕ} {k n j m : ℕ} → Digits ds k n → Digits fs j m → 0 < k + j → Magnitude (ds ++ (bytes "." ++ fs)) (n * 10 ^ j + m) j

pub data Unsigned : List ℕ → Decimal → Type 0 where
  plain : {b : List ℕ} {m j : ℕ} → Magnitude b m j → Unsigned b (record { negative = false; digits = m; places = j })

pub data Signed : List ℕ → Decimal → Type 0 where
  bare : {b : List ℕ} {m j : ℕ} → Magnitude b m j → Signed b (record { negative = false; digits = m; places = j })
  plus : {b : List ℕ} {m j : ℕ} → Magnitude b m j → Signed (bytes "+" ++ b) (record { negative = false; digits = m; places = j })
  minus : {b : List ℕ} {m j : ℕ} → Magnitude b m j → Signed (bytes "-" ++ b) (record { negative = true; digits = m; places = j })

-- ---- forms

pub data SpellsPoint : List ℕ → Decimal → Decimal → Type 0 where
  xy : {a b : List ℕ} {x y : Decimal} → Signed a x → Signed b y → SpellsPoint (bytes "X" ++ (a ++ (bytes "Y" ++ b))) x y

pub data SpellsArc : List ℕ → Decimal → Decimal → Decimal → Type 0 where
  xya : {a b : List ℕ} {x y r : Decimal} → SpellsPoint a x y → Unsigned b r → SpellsArc (a ++ (bytes "A" ++ b)) x y r

-- a declaration behind its T: a tool number of k digits, and its diameter
pub data SpellsDeclared : List ℕ → ℕ → ℕ → Decimal → Type 0 where
  tc : {a b : List ℕ} {k t : ℕ} {d : Decimal} → Digits a k t → Unsigned b d → SpellsDeclared (a ++ (bytes "C" ++ b)) k t d

pub data NoSemicolon : List ℕ → Type 0 where
  nothing : NoSemicolon []
  other : {b : ℕ} {l : List ℕ} → (b ≡ code ";" → ⊥) → NoSemicolon l → NoSemicolon (b ∷ l)

pub data Spells (rev : Revision) : List ℕ → Form → Type 0 where
  comment_is : {l : List ℕ} → NoSemicolon l → Spells rev (bytes ";" ++ l) comment
  m48_is : Spells rev (bytes "M48") m48
  metric_is : Spells rev (bytes "METRIC") metric
  inch_is : Spells rev (bytes "INCH") inch
  declare_is : {b : List ℕ} {k t : ℕ} {d : Decimal} → SpellsDeclared b k t d → fewest_declared rev ≤ k → k ≤ most_digits
      → Spells rev (bytes "T" ++ b) (declare t d)
  percent_is : Spells rev (bytes "%") percent
  g05_is : Spells rev (bytes "G05") g05
  g00_is : {b : List ℕ} {x y : Decimal} → SpellsPoint b x y → Spells rev (bytes "G00" ++ b) (g00 x y)
  select_is : {ds : List ℕ} {k t : ℕ} → Digits ds k t → fewest_selected ≤ k → k ≤ most_digits → Spells rev (bytes "T" ++ ds) (select t)
  hit_is : {b : List ℕ} {x y : Decimal} → SpellsPoint b x y → Spells rev b (hit x y)
  m15_is : Spells rev (bytes "M15") m15
  m16_is : Spells rev (bytes "M16") m16
  g01_is : {b : List ℕ} {x y : Decimal} → SpellsPoint b x y → Spells rev (bytes "G01" ++ b) (g01 x y)
  g02_is : {b : List ℕ} {x y r : Decimal} → SpellsArc b x y r → Spells rev (bytes "G02" ++ b) (g02 x y r)
  g03_is : {b : List ℕ} {x y r : Decimal} → SpellsArc b x y r → Spells rev (bytes "G03" ++ b) (g03 x y r)
  m30_is : Spells rev (bytes "M30") m30

-- ---- ranges

pub data Coordinate : Decimal → ℤ → Type 0 where
  coordinate : {d : Decimal} → d.places ≤ max_places → millionths d ≤ max_number → Coordinate d (with_sign d.negative (millionths d))

pub data Size : Decimal → ℕ → Type 0 where
  size : {d : Decimal} → d.places ≤ max_places → 1 ≤ millionths d → millionths d ≤ max_number → Size d (millionths d)

pub record Tool (t : ℕ) : Type 0 where
  pub low : 1 ≤ t
  pub high : t ≤ max_tool

pub data Means : Form → Command → Type 0 where
  comment_means : Means comment Comment
  m48_means : Means m48 M48
  metric_means : Means metric Metric
  inch_means : Means inch Inch
  declare_means : {t n : ℕ} {d : Decimal} → Tool t → Size d n → Means (declare t d) (Declare t n)
  percent_means : Means percent Percent
  g05_means : Means g05 G05
  g00_means : {a b : Decimal} {x y : ℤ} → Coordinate a x → Coordinate b y → Means (g00 a b) (G00 (record { x = x; y = y }))
  select_means : {t : ℕ} → Tool t → Means (select t) (Select t)
  hit_means : {a b : Decimal} {x y : ℤ} → Coordinate a x → Coordinate b y → Means (hit a b) (Hit (record { x = x; y = y }))
  m15_means : Means m15 M15
  m16_means : Means m16 M16
  g01_means : {a b : Decimal} {x y : ℤ} → Coordinate a x → Coordinate b y → Means (g01 a b) (G01 (record { x = x; y = y }))
  g02_means : {a b c : Decimal} {x y : ℤ} {n : ℕ} → Coordinate a x → Coordinate b y → Size c n
      → Means (g02 a b c) (G02 (record { to = record { x = x; y = y }; radius = n; decimals = c.places }))
  g03_means : {a b c : Decimal} {x y : ℤ} {n : ℕ} → Coordinate a x → Coordinate b y → Size c n
      → Means (g03 a b c) (G03 (record { to = record { x = x; y = y }; radius = n; decimals = c.places }))
  m30_means : Means m30 M30

-- ---- lines and files

pub data Printable : List ℕ → Type 0 where
  no_byte : Printable []
  byte : {b : ℕ} {l : List ℕ} → 32 ≤ b → b ≤ 126 → Printable l → Printable (b ∷ l)

-- bytes that spell a command
pub record SpellsCommand (rev : Revision) (l : List ℕ) (c : Command) : Type 0 where
  pub form : Form
  pub spelt : Spells rev l form
  pub means : Means form c

-- the same as a line of a file: short enough, and without a forbidden byte
pub record SpellsLine (rev : Revision) (l : List ℕ) (c : Command) : Type 0 where
  pub short : length l ≤ max_line
  pub printable : Printable l
  pub command : SpellsCommand rev l c

pub data LineEnd : List ℕ → Type 0 where
  lf : LineEnd (LF ∷ [])
  crlf : LineEnd (CR ∷ LF ∷ [])

-- bytes that begin with an ended line: its text, its end, and the bytes after it; a CR right before the LF belongs to the end
pub record FirstLine (bs text rest : List ℕ) : Type 0 where
  pub end : List ℕ
  pub ends : LineEnd end
  pub parts : bs ≡ text ++ (end ++ rest)
  pub one_line : NoLF text
  pub no_cr_left : end ≡ LF ∷ [] → (b : List ℕ) → text ≡ b ++ (CR ∷ []) → ⊥

-- each line ended, to the last
pub data SpellsFile (rev : Revision) : List ℕ → List Command → Type 0 where
  empty : SpellsFile rev [] []
  line : {l e rest : List ℕ} {c : Command} {cs : List Command} → SpellsLine rev l c → LineEnd e → SpellsFile rev rest cs
      → SpellsFile rev (l ++ (e ++ rest)) (c ∷ cs)
