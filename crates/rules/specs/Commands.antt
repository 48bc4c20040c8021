-- Document 01, "Command kinds": which line has which form, and which command a form means. The form of the whole line
-- is decided before any range. By document 02's #102 the form of a declaration depends on the revision, and no other does; by its #106
-- a number out of range is refused in its column; by its #104 an arc holds the decimals that are written in its radius.
use Rattle.std.specs.Prelude.{Ok, Err, Bool, true, false, ◌&&◌, not, cond, List, [], ◌∷◌, ℕ, suc, ◌+◌, leb, eqb, length, drop}
use Prim.Native.Char.{code}
use Rattle.lists.specs.Words.{bytes, starts_with}
use Rattle.rules.specs.declared.Command.{Command}
use Rattle.rules.specs.declared.Command.TheVariants.{Comment, M48, Metric, Inch, Declare, Percent, G05, G00, Select, Hit, M15, M16, G01, G02, G03, M30}
use Rattle.points.specs.declared.Point.{Point}
use Rattle.points.specs.declared.Arc.{Arc}
use Rattle.rules.specs.declared.Revision.{Revision}
use Rattle.rules.specs.declared.Revision.TheVariants.{Rev2019, Rev2021}
use Rattle.rules.specs.declared.Refusal.{Refusal}
use Rattle.rules.specs.declared.LineAnswer.{LineAnswer}
use Rattle.rules.specs.Refusals.{line_too_long, forbidden_byte, no_such_form, out_of_range}
use Rattle.rules.specs.Numbers.{max_line, DigitRun, digits_of, Decimal, on_number, unsigned_of, signed_of, millionths, is_coordinate, coordinate_of, is_size, is_tool}
use Rattle.rules.specs.Lines.{is_printable, allowed_bytes}

-- ---- the forms: a kind with its numbers as they are written

pub data Form : Type 0 where
  comment : Form
  m48 : Form
  metric : Form
  inch : Form
  declare : ℕ → Decimal → Form
  percent : Form
  g05 : Form
  g00 : Decimal → Decimal → Form
  select : ℕ → Form
  hit : Decimal → Decimal → Form
  m15 : Form
  m16 : Form
  g01 : Decimal → Decimal → Form
  g02 : Decimal → Decimal → Decimal → Form
  g03 : Decimal → Decimal → Decimal → Form
  m30 : Form

pub data Formed : Type 0 where
  is : Form → Formed
  no_form : Formed

-- nothing may follow
abbrev pub at_end : List ℕ → Form → Formed
at_end [] f = is f
at_end (b ∷ l) f = no_form

-- after its `;` a comment holds no second one
unfoldable pub no_semicolon : List ℕ → Bool
no_semicolon [] = true
no_semicolon (b ∷ l) = not (eqb b (code ";")) && no_semicolon l

unfoldable pub comment_form : List ℕ → Formed
comment_form l = cond (no_semicolon l) (is comment) no_form

-- X, a number, Y, a number
unfoldable pub point_form : List ℕ → (Decimal → Decimal → List ℕ → Formed) → Formed
point_form l f =
    cond (starts_with l (bytes "X"))
    (on_number (signed_of (drop 1 l)) no_form
    (λ x rest. cond (starts_with rest (bytes "Y")) (on_number (signed_of (drop 1 rest)) no_form (λ y rest'. f x y rest')) no_form))
    no_form

-- and then A, a number
unfoldable pub arc_form : List ℕ → (Decimal → Decimal → Decimal → Form) → Formed
arc_form l f =
    point_form l
    (λ x y rest. cond (starts_with rest (bytes "A")) (on_number (unsigned_of (drop 1 rest)) no_form (λ r rest'. at_end rest' (f x y r))) no_form)

-- how many digits a tool number has: a declaration's two, by the 2019 revision one or two; a selection's one or two
abbrev pub fewest_declared : Revision → ℕ
fewest_declared Rev2019 = 1
fewest_declared Rev2021 = 2

abbrev pub fewest_selected : ℕ
fewest_selected = 1

abbrev pub most_digits : ℕ
most_digits = 2

abbrev pub tool_digits : ℕ → ℕ → Bool
tool_digits fewest k = leb fewest k && leb k most_digits

abbrev pub declare_form : Revision → DigitRun → Formed
declare_form rev t =
    cond (tool_digits (fewest_declared rev) t.count) (on_number (unsigned_of (drop 1 t.rest)) no_form (λ d rest. at_end rest (declare t.value d))) no_form

abbrev pub select_form : DigitRun → Formed
select_form t = cond (tool_digits fewest_selected t.count) (at_end t.rest (select t.value)) no_form

abbrev pub after_tool : Revision → DigitRun → Formed
after_tool rev t = cond (starts_with t.rest (bytes "C")) (declare_form rev t) (select_form t)

unfoldable pub tool_form : Revision → List ℕ → Formed
tool_form rev l = after_tool rev (digits_of l)

unfoldable pub form_of : Revision → List ℕ → Formed
form_of rev l =
    cond (starts_with l (bytes ";")) (comment_form (drop 1 l))
    (cond (starts_with l (bytes "M48")) (at_end (drop 3 l) m48)
    (cond (starts_with l (bytes "METRIC")) (at_end (drop 6 l) metric)
    (cond (starts_with l (bytes "INCH")) (at_end (drop 4 l) inch)
    (cond (starts_with l (bytes "%")) (at_end (drop 1 l) percent)
    (cond (starts_with l (bytes "G05")) (at_end (drop 3 l) g05)
    (cond (starts_with l (bytes "G00")) (point_form (drop 3 l) (λ x y rest. at_end rest (g00 x y)))
    (cond (starts_with l (bytes "T")) (tool_form rev (drop 1 l))
    (cond (starts_with l (bytes "X")) (point_form l (λ x y rest. at_end rest (hit x y)))
    (cond (starts_with l (bytes "M15")) (at_end (drop 3 l) m15)
    (cond (starts_with l (bytes "M16")) (at_end (drop 3 l) m16)
    (cond (starts_with l (bytes "G01")) (point_form (drop 3 l) (λ x y rest. at_end rest (g01 x y)))
    (cond (starts_with l (bytes "G02")) (arc_form (drop 3 l) g02)
    (cond (starts_with l (bytes "G03")) (arc_form (drop 3 l) g03)
    (cond (starts_with l (bytes "M30")) (at_end (drop 3 l) m30)
    no_form))))))))))))))

-- ---- where a number stands: behind its letter, which a form has once

-- the column behind the first byte c of l, before which k others stand; columns count from 1
unfoldable pub column_after : ℕ → List ℕ → ℕ → ℕ
column_after k [] c = 0
column_after k (b ∷ l) c = cond (eqb b c) (k + 2) (column_after (suc k) l c)

-- a tool number's: T is the first byte of its line
abbrev pub tool_column : ℕ
tool_column = 2

-- ---- what a form means: the command, or that a number is out of range. Numbers are asked from left to right

abbrev pub says : Command → LineAnswer
says c = record { command = Ok c }

abbrev pub says_no : Refusal → LineAnswer
says_no e = record { command = Err e }

abbrev pub point_of : Decimal → Decimal → Point
point_of x y = record { x = coordinate_of x; y = coordinate_of y }

abbrev pub arc_of : Decimal → Decimal → Decimal → Arc
arc_of x y r = record { to = point_of x y; radius = millionths r; decimals = r.places }

-- a number in column c, in range or not, and what is answered where it is
unfoldable pub in_range : Bool → ℕ → LineAnswer → LineAnswer
in_range true c a = a
in_range false c a = says_no (out_of_range c)

-- a point's two, given the column behind each letter
abbrev pub point_in_range : (ℕ → ℕ) → Decimal → Decimal → LineAnswer → LineAnswer
point_in_range after x y a = in_range (is_coordinate x) (after (code "X")) (in_range (is_coordinate y) (after (code "Y")) a)

abbrev pub arc_in_range : (ℕ → ℕ) → Decimal → Decimal → Decimal → LineAnswer → LineAnswer
arc_in_range after x y r a = point_in_range after x y (in_range (is_size r) (after (code "A")) a)

unfoldable pub meaning_of : (ℕ → ℕ) → Form → LineAnswer
meaning_of after comment = says Comment
meaning_of after m48 = says M48
meaning_of after metric = says Metric
meaning_of after inch = says Inch
meaning_of after (declare t d) = in_range (is_tool t) tool_column (in_range (is_size d) (after (code "C")) (says (Declare t (millionths d))))
meaning_of after percent = says Percent
meaning_of after g05 = says G05
meaning_of after (g00 x y) = point_in_range after x y (says (G00 (point_of x y)))
meaning_of after (select t) = in_range (is_tool t) tool_column (says (Select t))
meaning_of after (hit x y) = point_in_range after x y (says (Hit (point_of x y)))
meaning_of after m15 = says M15
meaning_of after m16 = says M16
meaning_of after (g01 x y) = point_in_range after x y (says (G01 (point_of x y)))
meaning_of after (g02 x y r) = arc_in_range after x y r (says (G02 (arc_of x y r)))
meaning_of after (g03 x y r) = arc_in_range after x y r (says (G03 (arc_of x y r)))
meaning_of after m30 = says M30

abbrev pub on_form : (ℕ → ℕ) → Formed → LineAnswer
on_form after (is f) = meaning_of after f
on_form after no_form = says_no no_such_form

unfoldable pub command_of : Revision → List ℕ → LineAnswer
command_of rev l = on_form (column_after 0 l) (form_of rev l)

-- ---- a line's bytes without its end: 6, 4, 5, 7 in this order

unfoldable pub line_of : Revision → List ℕ → LineAnswer
line_of rev l = cond (leb (length l) max_line) (cond (is_printable l) (command_of rev l) (says_no (forbidden_byte (allowed_bytes l + 1)))) (says_no line_too_long)
