-- When a line's hole counts as moved: kind, tool, radius, start or end differ, or only one of the two tables has a hole there.
use Rattle.std.specs.Prelude.{Bool, true, false, not, ◌&&◌, eqb, Option, Some, None, Ok, Err}
use Rattle.rules.specs.declared.Hole.{Hole}
use Rattle.rules.specs.Results.{HoleAnswer}
use Rattle.points.specs.Points.{same_point}

unfoldable pub same_hole : Hole → Hole → Bool
same_hole a b =
    eqb a.kind b.kind
    && (eqb a.tool b.tool
    && (eqb a.radius b.radius
    && (same_point a.start b.start && same_point a.end b.end)))

-- a line's hole as it is compared: a refused question is no hole
abbrev pub made : HoleAnswer → Option Hole
made (Ok h) = h
made (Err r) = None

abbrev pub differ : Option Hole → Option Hole → Bool
differ (Some a) (Some b) = not (same_hole a b)
differ (Some a) None = true
differ None (Some b) = true
differ None None = false
