-- Document 01, "A row": its numbers, which of them a row may have, and when a table is good. By document 02's #104 a row has a
-- sixteenth number, the decimals written in the radius. It is one of the command's, and stands last.
use Rattle.std.specs.Prelude.{◌≡◌, Bool, true, false, cond, ◌&&◌, List, [], ◌∷◌, ◌++◌, ℕ, zero, suc, ◌*◌, ◌/◌, ◌%◌, ◌≤◌, leb, eqb, ℤ, pos, negsuc, nat_abs, length, get_or, take, drop, Some, None}
use Rattle.runs.specs.Machine as M
use Rattle.runs.specs.Machine.{Entry, holds, bad, all_hold, last_of, Follows, StepBy}
use Rattle.points.specs.declared.Point.{Point}
use Rattle.points.specs.Points.{place_of}
use Rattle.rules.specs.declared.Command.{Command}
use Rattle.rules.specs.declared.Command.TheVariants.{Comment, M48, Metric, Inch, Declare, Percent, G05, G00, Select, Hit, M15, M16, G01, G02, G03, M30}
use Rattle.rules.specs.declared.State.{State}
use Rattle.rules.specs.Results.{Looked, row_found}
use Rattle.rules.specs.Numbers.{max_lines, max_number, max_tool, max_places}
use Rattle.rules.specs.Kinds.{kind_of, carries_tool, carries_point, carries_radius, carries_size}
use Rattle.rules.specs.Kinds as Kinds
use Rattle.rules.specs.State.{over, inch_unit, tool_down, start, taken, has_ended}
use Rattle.tools.specs.Set.{max_word}

-- how many numbers a row has
abbrev pub row_width : ℕ
row_width = 16

-- ---- the numbers of a row

-- kind, tool, x, y, and diameter or radius
abbrev pub five_of : ℕ → ℕ → ℤ → ℤ → ℕ → List ℤ
five_of k t x y d = pos k ∷ pos t ∷ x ∷ y ∷ pos d ∷ []

-- each 0 where the kind has none
unfoldable pub command_numbers : Command → List ℤ
command_numbers Comment = five_of (kind_of Comment) 0 (pos 0) (pos 0) 0
command_numbers M48 = five_of (kind_of M48) 0 (pos 0) (pos 0) 0
command_numbers Metric = five_of (kind_of Metric) 0 (pos 0) (pos 0) 0
command_numbers Inch = five_of (kind_of Inch) 0 (pos 0) (pos 0) 0
command_numbers (Declare t d) = five_of (kind_of (Declare t d)) t (pos 0) (pos 0) d
command_numbers Percent = five_of (kind_of Percent) 0 (pos 0) (pos 0) 0
command_numbers G05 = five_of (kind_of G05) 0 (pos 0) (pos 0) 0
command_numbers (G00 p) = five_of (kind_of (G00 p)) 0 p.x p.y 0
command_numbers (Select t) = five_of (kind_of (Select t)) t (pos 0) (pos 0) 0
command_numbers (Hit p) = five_of (kind_of (Hit p)) 0 p.x p.y 0
command_numbers M15 = five_of (kind_of M15) 0 (pos 0) (pos 0) 0
command_numbers M16 = five_of (kind_of M16) 0 (pos 0) (pos 0) 0
command_numbers (G01 p) = five_of (kind_of (G01 p)) 0 p.x p.y 0
command_numbers (G02 a) = five_of (kind_of (G02 a)) 0 a.to.x a.to.y a.radius
command_numbers (G03 a) = five_of (kind_of (G03 a)) 0 a.to.x a.to.y a.radius
command_numbers M30 = five_of (kind_of M30) 0 (pos 0) (pos 0) 0

-- the decimals written in the radius
unfoldable pub decimals_of : Command → ℕ
decimals_of Comment = 0
decimals_of M48 = 0
decimals_of Metric = 0
decimals_of Inch = 0
decimals_of (Declare t d) = 0
decimals_of Percent = 0
decimals_of G05 = 0
decimals_of (G00 p) = 0
decimals_of (Select t) = 0
decimals_of (Hit p) = 0
decimals_of M15 = 0
decimals_of M16 = 0
decimals_of (G01 p) = 0
decimals_of (G02 a) = a.decimals
decimals_of (G03 a) = a.decimals
decimals_of M30 = 0

-- phase, unit, motion, selected tool, point, and the four words of the declared set
unfoldable pub state_numbers : State → List ℤ
state_numbers s =
    pos s.phase ∷ pos s.unit ∷ pos s.motion ∷ pos s.tool ∷ s.at.x ∷ s.at.y
    ∷ pos s.tools.a ∷ pos s.tools.b ∷ pos s.tools.c ∷ pos s.tools.d ∷ []

-- the command's five, the state's ten, and the decimals
unfoldable pub row_numbers : M.Row Command State → List ℤ
row_numbers r = command_numbers r.command ++ (state_numbers r.state ++ (pos (decimals_of r.command) ∷ []))

-- rows one after another
unfoldable pub table_numbers : List (M.Row Command State) → List ℤ
table_numbers [] = []
table_numbers (r ∷ rs) = row_numbers r ++ table_numbers rs

-- ---- the test of a row: each number in its field's range, and a legal command

-- a number from lo to hi
unfoldable pub within : ℕ → ℕ → ℤ → Bool
within lo hi (pos n) = leb lo n && leb n hi
within lo hi (negsuc n) = false

-- a number in the range of coordinates
unfoldable pub is_coord : ℤ → Bool
is_coord z = leb (nat_abs z) max_number

-- a number that is 0
abbrev pub is_zero : ℤ → Bool
is_zero z = within 0 0 z

-- a number other than 0 where the kind has none is illegal
unfoldable pub legal_tool : ℕ → ℤ → Bool
legal_tool k t = cond (carries_tool k) (within 1 max_tool t) (is_zero t)

unfoldable pub legal_point : ℕ → ℤ → ℤ → Bool
legal_point k x y = cond (carries_point k) (is_coord x && is_coord y) (is_zero x && is_zero y)

unfoldable pub legal_size : ℕ → ℤ → Bool
legal_size k d = cond (carries_size k) (within 1 max_number d) (is_zero d)

-- at most six decimals, of whose last place the radius is a multiple
unfoldable pub legal_decimals : ℕ → ℤ → ℤ → Bool
legal_decimals k r d = cond (carries_radius k) (within 0 max_places d && eqb (nat_abs r % place_of (nat_abs d)) 0) (is_zero d)

-- number j of a row's numbers
abbrev pub field : List ℤ → ℕ → ℤ
field a j = get_or a j (pos 0)

abbrev pub field_n : List ℤ → ℕ → ℕ
field_n a j = nat_abs (field a j)

unfoldable pub legal_command : List ℤ → Bool
legal_command a =
    within 0 Kinds.m30 (field a 0)
    && (legal_tool (field_n a 0) (field a 1)
    && (legal_point (field_n a 0) (field a 2) (field a 3)
    && (legal_size (field_n a 0) (field a 4) && legal_decimals (field_n a 0) (field a 4) (field a 15))))

-- the first word of the declared set never has tool 0's bit
unfoldable pub is_even : ℤ → Bool
is_even z = eqb (nat_abs z % 2) 0

unfoldable pub legal_state : List ℤ → Bool
legal_state a =
    within 0 over (field a 5)
    && (within 0 inch_unit (field a 6)
    && (within 0 tool_down (field a 7)
    && (within 0 max_tool (field a 8)
    && ((is_coord (field a 9) && is_coord (field a 10))
    && ((within 0 max_word (field a 11) && is_even (field a 11))
    && (within 0 max_word (field a 12) && (within 0 max_word (field a 13) && within 0 max_word (field a 14))))))))

unfoldable pub row_test : List ℤ → Bool
row_test a = legal_command a && legal_state a

-- ---- the row that such numbers are

unfoldable pub command_from : ℕ → ℕ → Point → ℕ → ℕ → Command
command_from k t p d e =
    cond (eqb k Kinds.comment) Comment
    (cond (eqb k Kinds.m48) M48
    (cond (eqb k Kinds.metric) Metric
    (cond (eqb k Kinds.inch) Inch
    (cond (eqb k Kinds.declare) (Declare t d)
    (cond (eqb k Kinds.percent) Percent
    (cond (eqb k Kinds.g05) G05
    (cond (eqb k Kinds.g00) (G00 p)
    (cond (eqb k Kinds.select) (Select t)
    (cond (eqb k Kinds.hit) (Hit p)
    (cond (eqb k Kinds.m15) M15
    (cond (eqb k Kinds.m16) M16
    (cond (eqb k Kinds.g01) (G01 p)
    (cond (eqb k Kinds.g02) (G02 (record { to = p; radius = d; decimals = e }))
    (cond (eqb k Kinds.g03) (G03 (record { to = p; radius = d; decimals = e }))
    M30))))))))))))))

unfoldable pub command_at : List ℤ → Command
command_at a = command_from (field_n a 0) (field_n a 1) (record { x = field a 2; y = field a 3 }) (field_n a 4) (field_n a 15)

unfoldable pub state_at : List ℤ → State
state_at a = record {
  phase = field_n a 5;
  unit = field_n a 6;
  motion = field_n a 7;
  tool = field_n a 8;
  at = record { x = field a 9; y = field a 10 };
  tools = record { a = field_n a 11; b = field_n a 12; c = field_n a 13; d = field_n a 14 };
}

-- a row's numbers looked at
unfoldable pub look_of : List ℤ → Looked
look_of a = cond (row_test a) (row_found (command_at a) (state_at a)) None

-- ---- a table of n rows

abbrev pub entry_of : Looked → Entry Command State
entry_of (Some r) = holds (record { command = r.command; state = r.state })
entry_of None = bad

-- its rows as they are found
unfoldable pub entries_of : ℕ → List ℤ → List (Entry Command State)
entries_of zero t = []
entries_of (suc n) t = entry_of (look_of (take row_width t)) ∷ entries_of n (drop row_width t)

-- numbers for the longest table
abbrev pub table_room : ℕ
table_room = row_width * max_lines

-- the lent numbers can hold n rows, and n is 1 to 1,000
unfoldable pub sizes_fit : List ℤ → ℕ → Bool
sizes_fit t n = leb 1 n && (leb n max_lines && leb n (length t / row_width))

-- the same as a relation
pub record Sizes (t : List ℤ) (n : ℕ) : Type 0 where
  pub some : 1 ≤ n
  pub few : n ≤ max_lines
  pub room : row_width * n ≤ length t

-- a good table, and its rows
pub record Good (t : List ℤ) (n : ℕ) (rs : List (M.Row Command State)) : Type 0 where
  pub fits : sizes_fit t n ≡ true
  pub found : entries_of n t ≡ all_hold rs
  pub follows : Follows (StepBy taken) start 0 rs
  pub ends : has_ended (last_of start rs) ≡ true
