-- A row put into lent numbers. `i` counts the rows before it.
use Rattle.std.specs.Prelude.{cond, List, ℕ, ◌+◌, ◌*◌, leb, ℤ, length}
use Rattle.lists.specs.Put.{put_at}
use Rattle.points.specs.declared.Arc.{Arc}
use Rattle.tools.specs.declared.Tools.{Tools}
use Rattle.rules.specs.declared.Command.{Command}
use Rattle.rules.specs.declared.Command.TheVariants.{Comment, M48, Metric, Inch, Declare, Percent, G05, G00, Select, Hit, M15, M16, G01, G02, G03, M30}
use Rattle.rules.specs.declared.State.{State}
use Rattle.rules.specs.Rows.{row_width, row_numbers}

-- ---- a row that a signed number cannot hold: each of its numbers is capped, so that it never looks whole

abbrev pub max_signed : ℕ
max_signed = 2147483647

unfoldable pub capped : ℕ → ℕ
capped n = cond (leb n max_signed) n max_signed

abbrev pub capped_arc : Arc → Arc
capped_arc a = record { to = a.to; radius = capped a.radius; decimals = capped a.decimals }

unfoldable pub capped_command : Command → Command
capped_command Comment = Comment
capped_command M48 = M48
capped_command Metric = Metric
capped_command Inch = Inch
capped_command (Declare t d) = Declare (capped t) (capped d)
capped_command Percent = Percent
capped_command G05 = G05
capped_command (G00 p) = G00 p
capped_command (Select t) = Select (capped t)
capped_command (Hit p) = Hit p
capped_command M15 = M15
capped_command M16 = M16
capped_command (G01 p) = G01 p
capped_command (G02 a) = G02 (capped_arc a)
capped_command (G03 a) = G03 (capped_arc a)
capped_command M30 = M30

abbrev pub capped_tools : Tools → Tools
capped_tools d = record { a = capped d.a; b = capped d.b; c = capped d.c; d = capped d.d }

unfoldable pub capped_state : State → State
capped_state s = record {
  phase = capped s.phase;
  unit = capped s.unit;
  motion = capped s.motion;
  tool = capped s.tool;
  at = s.at;
  tools = capped_tools s.tools;
}

unfoldable pub capped_numbers : Command → State → List ℤ
capped_numbers c s = row_numbers (record { command = capped_command c; state = capped_state s })

-- ---- put

-- the numbers with a row after i others; past the end nothing changes
unfoldable pub put_row : List ℤ → ℕ → Command → State → List ℤ
put_row t i c s = cond (leb (row_width * i + row_width) (length t)) (put_at t (row_width * i) (capped_numbers c s)) t
