-- Document 01, "Holes": the hole that a row makes, given the point in the row before.
use Rattle.std.specs.Prelude.{ℕ, Some, None, Ok}
use Rattle.points.specs.declared.Point.{Point}
use Rattle.rules.specs.declared.Command.{Command}
use Rattle.rules.specs.declared.Command.TheVariants.{Comment, M48, Metric, Inch, Declare, Percent, G05, G00, Select, Hit, M15, M16, G01, G02, G03, M30}
use Rattle.rules.specs.declared.State.{State}
use Rattle.rules.specs.Results.{HoleAnswer}
use Rattle.rules.specs.Kinds.{kind_of}

abbrev pub made : ℕ → ℕ → Point → Point → ℕ → HoleAnswer
made k t from to r = Ok (Some (record { kind = k; tool = t; start = from; end = to; radius = r }))

-- the tool is the one selected in the line's own row
abbrev pub made_by : Command → State → Point → Point → ℕ → HoleAnswer
made_by c s from to r = made (kind_of c) s.tool from to r

-- from is the point in the row before
unfoldable pub hole_of : Point → Command → State → HoleAnswer
hole_of from Comment s = Ok None
hole_of from M48 s = Ok None
hole_of from Metric s = Ok None
hole_of from Inch s = Ok None
hole_of from (Declare t d) s = Ok None
hole_of from Percent s = Ok None
hole_of from G05 s = Ok None
hole_of from (G00 p) s = Ok None
hole_of from (Select t) s = Ok None
hole_of from (Hit p) s = made_by (Hit p) s p p 0
hole_of from M15 s = Ok None
hole_of from M16 s = Ok None
hole_of from (G01 p) s = made_by (G01 p) s from p 0
hole_of from (G02 a) s = made_by (G02 a) s from a.to a.radius
hole_of from (G03 a) s = made_by (G03 a) s from a.to a.radius
hole_of from M30 s = Ok None
