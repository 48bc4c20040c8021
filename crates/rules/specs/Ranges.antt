-- For contracts of private functions and for laws; no promise rests on it. The ranges that the numbers of a state and of a
-- command have in a row that passes its test.
use Rattle.std.specs.Prelude.{◌≡◌, ℕ, ◌%◌, ◌≤◌, nat_abs}
use Rattle.points.specs.declared.Point.{Point}
use Rattle.points.specs.declared.Arc.{Arc}
use Rattle.points.specs.Points.{place_of}
use Rattle.rules.specs.declared.State.{State}
use Rattle.rules.specs.declared.Command.{Command}
use Rattle.rules.specs.declared.Command.TheVariants.{Comment, M48, Metric, Inch, Declare, Percent, G05, G00, Select, Hit, M15, M16, G01, G02, G03, M30}
use Rattle.rules.specs.Numbers.{max_number, max_tool, max_places}
use Rattle.rules.specs.State.{over, inch_unit, tool_down}
use Rattle.tools.specs.Ranges.{ToolsOk}

pub record PointOk (p : Point) : Type 0 where
  pub x_range : nat_abs p.x ≤ max_number
  pub y_range : nat_abs p.y ≤ max_number

pub record StateOk (s : State) : Type 0 where
  pub phase_range : s.phase ≤ over
  pub unit_range : s.unit ≤ inch_unit
  pub motion_range : s.motion ≤ tool_down
  pub tool_range : s.tool ≤ max_tool
  pub at_range : PointOk s.at
  pub tools_range : ToolsOk s.tools

pub record NumberOk (lo hi n : ℕ) : Type 0 where
  pub low : lo ≤ n
  pub high : n ≤ hi

pub record ArcOk (a : Arc) : Type 0 where
  pub to_range : PointOk a.to
  pub radius_range : NumberOk 1 max_number a.radius
  pub decimals_range : a.decimals ≤ max_places
  pub whole_places : a.radius % place_of a.decimals ≡ 0

abbrev pub CommandOk : Command → Type 0
CommandOk Comment = Unit {0}
CommandOk M48 = Unit {0}
CommandOk Metric = Unit {0}
CommandOk Inch = Unit {0}
CommandOk (Declare t d) = NumberOk 1 max_tool t × NumberOk 1 max_number d
CommandOk Percent = Unit {0}
CommandOk G05 = Unit {0}
CommandOk (G00 p) = PointOk p
CommandOk (Select t) = NumberOk 1 max_tool t
CommandOk (Hit p) = PointOk p
CommandOk M15 = Unit {0}
CommandOk M16 = Unit {0}
CommandOk (G01 p) = PointOk p
CommandOk (G02 a) = ArcOk a
CommandOk (G03 a) = ArcOk a
CommandOk M30 = Unit {0}
