-- Where and why a file is refused: at its lowest faulty line, and with that line's own fault. As in Obeys, no reader is in it.
use Rattle.std.specs.Prelude.{◌≡◌, true, false, List, [], ◌∷◌, ◌++◌, ℕ, ◌+◌, ◌<◌, ◌≤◌, ℤ, length}
use Rattle.lists.specs.Words.{bytes}
use Rattle.runs.specs.Machine.{commands_of, last_of, Follows}
use Rattle.points.specs.declared.Point.{Point}
use Rattle.points.specs.declared.Arc.{Arc}
use Rattle.rules.specs.declared.Command.{Command}
use Rattle.rules.specs.declared.Command.TheVariants.{Comment, M48, Metric, Inch, Declare, Percent, G05, G00, Select, Hit, M15, M16, G01, G02, G03, M30}
use Rattle.rules.specs.declared.State.{State}
use Rattle.rules.specs.declared.Refusal.{Refusal}
use Rattle.rules.specs.declared.Revision.{Revision}
use Rattle.rules.specs.Refusals.{file_too_long, too_many_lines, line_not_ended, line_too_long, forbidden_byte, no_such_form, out_of_range, wrong_phase, wrong_motion, declared_already, not_declared, no_tool_selected, impossible_arc, ends_too_soon}
use Rattle.rules.specs.Numbers.{max_file, max_lines, max_line, Decimal}
use Rattle.rules.specs.Lines.{NoLF}
use Rattle.rules.specs.Commands.{Form, declare, g00, select, hit, g01, g02, g03}
use Rattle.tools.specs.Set.{has}
use Rattle.rules.specs.State.{before_m48, bare_header, header, body, over, drill, tool_up, tool_down, no_tool, start}
use Rattle.rules.specs.Reading.{Rows}
use Rattle.rules.specs.Obeys.{Free, Moving, Possible, Takes}
use Rattle.rules.specs.Spelling.{Digits, Unsigned, Signed, SpellsPoint, SpellsDeclared, Spells, Coordinate, Size, Tool, Printable, SpellsLine, FirstLine, SpellsFile}

-- ---- a command that may not come

-- the phases in which a command is allowed
abbrev pub InItsPhase : Command → ℕ → Type 0
InItsPhase Comment p = p < over
InItsPhase M48 p = p ≡ before_m48
InItsPhase Metric p = p ≡ bare_header
InItsPhase Inch p = p ≡ bare_header
InItsPhase (Declare t d) p = p ≡ header
InItsPhase Percent p = p ≡ header
InItsPhase G05 p = p ≡ body
InItsPhase (G00 q) p = p ≡ body
InItsPhase (Select t) p = p ≡ body
InItsPhase (Hit q) p = p ≡ body
InItsPhase M15 p = p ≡ body
InItsPhase M16 p = p ≡ body
InItsPhase (G01 q) p = p ≡ body
InItsPhase (G02 a) p = p ≡ body
InItsPhase (G03 a) p = p ≡ body
InItsPhase M30 p = p ≡ body

-- the motions in which it is: all of them for a comment and what stands in a header
abbrev pub InItsMotion : Command → ℕ → Type 0
InItsMotion Comment m = Unit {0}
InItsMotion M48 m = Unit {0}
InItsMotion Metric m = Unit {0}
InItsMotion Inch m = Unit {0}
InItsMotion (Declare t d) m = Unit {0}
InItsMotion Percent m = Unit {0}
InItsMotion G05 m = m ≡ tool_down → ⊥
InItsMotion (G00 q) m = m ≡ tool_down → ⊥
InItsMotion (Select t) m = m ≡ tool_down → ⊥
InItsMotion (Hit q) m = m ≡ drill
InItsMotion M15 m = m ≡ tool_up
InItsMotion M16 m = m ≡ tool_down
InItsMotion (G01 q) m = m ≡ tool_down
InItsMotion (G02 a) m = m ≡ tool_down
InItsMotion (G03 a) m = m ≡ tool_down
InItsMotion M30 m = m ≡ tool_down → ⊥

-- 8; or 12, in the right phase; or, with these two in order, 9, 10, 11 or 13
pub data Untaken (s : State) : Command → Refusal → Type 0 where
  in_wrong_phase : {c : Command} → (InItsPhase c s.phase → ⊥) → Untaken s c wrong_phase
  in_wrong_motion : {c : Command} → InItsPhase c s.phase → (InItsMotion c s.motion → ⊥) → Untaken s c wrong_motion
  declared : {t d : ℕ} → s.phase ≡ header → has s.tools t ≡ true → Untaken s (Declare t d) declared_already
  undeclared : {t : ℕ} → Free s → has s.tools t ≡ false → Untaken s (Select t) not_declared
  hit_without : {p : Point} → Moving drill s → s.tool ≡ no_tool → Untaken s (Hit p) no_tool_selected
  down_without : Moving tool_up s → s.tool ≡ no_tool → Untaken s M15 no_tool_selected
  g02_impossible : {a : Arc} → Moving tool_down s → (Possible s.at a → ⊥) → Untaken s (G02 a) impossible_arc
  g03_impossible : {a : Arc} → Moving tool_down s → (Possible s.at a → ⊥) → Untaken s (G03 a) impossible_arc

-- ---- a number out of range: document 02, #106

abbrev pub NoCoordinate : Decimal → Type 0
NoCoordinate d = (v : ℤ) → Coordinate d v → ⊥

abbrev pub NoSize : Decimal → Type 0
NoSize d = (n : ℕ) → Size d n → ⊥

-- Its column is one more than the bytes before it. It is the leftmost: every number before it is in range.

-- in a point's bytes, before which k others stand
pub data PointOut (k : ℕ) : List ℕ → Decimal → Decimal → ℕ → Type 0 where
  x_out : {a b : List ℕ} {x y : Decimal} → Signed a x → Signed b y → NoCoordinate x
      → PointOut k (bytes "X" ++ (a ++ (bytes "Y" ++ b))) x y (k + length (bytes "X") + 1)
  y_out : {a b : List ℕ} {x y : Decimal} {v : ℤ} → Signed a x → Signed b y → Coordinate x v → NoCoordinate y
      → PointOut k (bytes "X" ++ (a ++ (bytes "Y" ++ b))) x y (k + length (bytes "X" ++ (a ++ bytes "Y")) + 1)

pub data ArcOut (k : ℕ) : List ℕ → Decimal → Decimal → Decimal → ℕ → Type 0 where
  point_out : {a b : List ℕ} {x y r : Decimal} {c : ℕ} → PointOut k a x y c → Unsigned b r → ArcOut k (a ++ (bytes "A" ++ b)) x y r c
  radius_out : {a b : List ℕ} {x y r : Decimal} {v w : ℤ} → SpellsPoint a x y → Unsigned b r → Coordinate x v → Coordinate y w → NoSize r
      → ArcOut k (a ++ (bytes "A" ++ b)) x y r (k + length (a ++ bytes "A") + 1)

-- in bytes that spell a form
pub data OutAt : List ℕ → Form → ℕ → Type 0 where
  declared_tool_out : {b : List ℕ} {k t : ℕ} {d : Decimal} → SpellsDeclared b k t d → (Tool t → ⊥)
      → OutAt (bytes "T" ++ b) (declare t d) (length (bytes "T") + 1)
  diameter_out : {a b : List ℕ} {k t : ℕ} {d : Decimal} → Digits a k t → Unsigned b d → Tool t → NoSize d
      → OutAt (bytes "T" ++ (a ++ (bytes "C" ++ b))) (declare t d) (length (bytes "T" ++ (a ++ bytes "C")) + 1)
  selected_tool_out : {b : List ℕ} {k t : ℕ} → Digits b k t → (Tool t → ⊥) → OutAt (bytes "T" ++ b) (select t) (length (bytes "T") + 1)
  g00_out : {b : List ℕ} {x y : Decimal} {c : ℕ} → PointOut (length (bytes "G00")) b x y c → OutAt (bytes "G00" ++ b) (g00 x y) c
  hit_out : {b : List ℕ} {x y : Decimal} {c : ℕ} → PointOut 0 b x y c → OutAt b (hit x y) c
  g01_out : {b : List ℕ} {x y : Decimal} {c : ℕ} → PointOut (length (bytes "G01")) b x y c → OutAt (bytes "G01" ++ b) (g01 x y) c
  g02_out : {b : List ℕ} {x y r : Decimal} {c : ℕ} → ArcOut (length (bytes "G02")) b x y r c → OutAt (bytes "G02" ++ b) (g02 x y r) c
  g03_out : {b : List ℕ} {x y r : Decimal} {c : ℕ} → ArcOut (length (bytes "G03")) b x y r c → OutAt (bytes "G03" ++ b) (g03 x y r) c

-- ---- a line that is no command

-- why a line's bytes, without their end, spell no command: 6; or 4 in the column of a byte that it may not hold, where it may hold those
-- before; or 5; or 7 in the column of the leftmost number out of range
pub data LineRefused (rev : Revision) (l : List ℕ) : Refusal → Type 0 where
  too_long : max_line < length l → LineRefused rev l line_too_long
  forbidden : (rest : List ℕ) {a : List ℕ} {b : ℕ} → length l ≤ max_line → l ≡ a ++ (b ∷ rest) → Printable a → (Printable (b ∷ []) → ⊥)
      → LineRefused rev l (forbidden_byte (length a + 1))
  no_form : length l ≤ max_line → Printable l → ((f : Form) → Spells rev l f → ⊥) → LineRefused rev l no_such_form
  number_out_of_range : {f : Form} {c : ℕ} → length l ≤ max_line → Printable l → Spells rev l f → OutAt l f c → LineRefused rev l (out_of_range c)

-- ---- a file that is refused

-- at line i the bytes bs are left, in state p: there is no line, and the run has not ended; or there is one too many; or it
-- isn't ended; or it is no command; or it is one that may not come
pub data Fault (rev : Revision) (i : ℕ) (p : State) (bs : List ℕ) : Refusal → Type 0 where
  missing : bs ≡ [] → (p.phase ≡ over → ⊥) → Fault rev i p bs ends_too_soon
  too_many : (bs ≡ [] → ⊥) → max_lines < i → Fault rev i p bs too_many_lines
  not_ended : (bs ≡ [] → ⊥) → i ≤ max_lines → NoLF bs → Fault rev i p bs line_not_ended
  unread : {l rest : List ℕ} {e : Refusal} → i ≤ max_lines → FirstLine bs l rest → LineRefused rev l e → Fault rev i p bs e
  untaken : {l rest : List ℕ} {c : Command} {e : Refusal} → i ≤ max_lines → FirstLine bs l rest → SpellsLine rev l c → Untaken p c e
      → Fault rev i p bs e

-- a file is too large; or its first lines are as those of a file that obeys, and the line after them is at fault
pub data Faulty (rev : Revision) (bs : List ℕ) : Refusal → ℕ → Type 0 where
  too_large : max_file < length bs → Faulty rev bs file_too_long 0
  at_line : {head left : List ℕ} {rs : Rows} {e : Refusal} → length bs ≤ max_file → bs ≡ head ++ left → length rs ≤ max_lines
      → SpellsFile rev head (commands_of rs) → Follows Takes start 0 rs → Fault rev (length rs + 1) (last_of start rs) left e
      → Faulty rev bs e (length rs + 1)
