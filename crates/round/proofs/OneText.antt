-- The rows' text is the one that is allowed: a line is its words and its numbers, and each number has one text (OneNumber).
use mathlib.Core.Path.{◌≡◌, refl, ap, ap₂}
use mathlib.Core.List.{List, [], ◌∷◌, ◌++◌}
use Prim.Native.Nat.{ℕ, suc, ◌≤◌}
use native.Mathlib.Omega.{arith}
use lib.IntN.{ℤ, pos, negsuc, nat_abs}
use Rattle.lists.specs.Words.{bytes}
use Rattle.points.specs.declared.Point.{Point}
use Rattle.points.specs.declared.Arc.{Arc}
use Rattle.rules.specs.declared.Command.{Command}
use Rattle.rules.specs.declared.Command.TheVariants.{Comment, M48, Metric, Inch, Declare, Percent, G05, G00, Select, Hit, M15, M16, G01, G02, G03, M30}
use Rattle.rules.specs.Numbers.{max_number, max_tool}
use Rattle.rules.specs.Reading.{Rows}
use Rattle.rules.specs.Writing.{coordinate_text, tool_text, point_text, arc_text, spelt, with_lf, line_text, text_of_rows}
use Rattle.rules.specs.Written as W
use Rattle.rules.specs.Written.{WritesCoordinate, WritesTool, WritesPoint, WritesArc, WritesLine, WritesRows}
use Rattle.rules.specs.Ranges.{PointOk, ArcOk, CommandOk}
use Rattle.laws.proofs.InRange.{RowsOk}
use Rattle.round.proofs.Numbers.{arc_places}
use Rattle.round.proofs.OneNumber.{digits_allowed, digits_only, radius_allowed, radius_only, number_allowed, number_only}

-- ---- coordinates, tools, points, arcs

pub coordinate_allowed : (z : ℤ) → nat_abs z ≤ max_number → WritesCoordinate (coordinate_text z) z
unfolding coordinate_text
coordinate_allowed (pos v) h = W.plain (number_allowed v h)
coordinate_allowed (negsuc v) h = W.minus (number_allowed (suc v) h)

pub coordinate_only : {b : List ℕ} {z : ℤ} → nat_abs z ≤ max_number → WritesCoordinate b z → b ≡ coordinate_text z
unfolding coordinate_text
coordinate_only h (W.plain w) = number_only h w
coordinate_only h (W.minus w) = ap (λ (x : List ℕ). bytes "-" ++ x) (number_only h w)

pub tool_allowed : (t : ℕ) → t ≤ max_tool → WritesTool (tool_text t) t
unfolding tool_text
tool_allowed t h = digits_allowed 2 t (omega arith)

pub tool_only : {b : List ℕ} {t : ℕ} → WritesTool b t → b ≡ tool_text t
unfolding tool_text
tool_only w = digits_only w

point_allowed : (p : Point) → PointOk p → WritesPoint (point_text p) p
unfolding point_text
point_allowed p h = W.xy (coordinate_allowed p.x h.x_range) (coordinate_allowed p.y h.y_range)

point_only : {b : List ℕ} {p : Point} → PointOk p → WritesPoint b p → b ≡ point_text p
unfolding point_text
point_only h (W.xy u v) =
    ap₂ (λ (a b : List ℕ). bytes "X" ++ (a ++ (bytes "Y" ++ b))) (coordinate_only h.x_range u) (coordinate_only h.y_range v)

arc_allowed : (a : Arc) → ArcOk a → WritesArc (arc_text a) a
unfolding arc_text
arc_allowed a h = W.xya (point_allowed a.to h.to_range) (radius_allowed a.decimals a.radius (arc_places a h) h.radius_range.high)

arc_only : {b : List ℕ} {a : Arc} → ArcOk a → WritesArc b a → b ≡ arc_text a
unfolding arc_text
arc_only h (W.xya u v) = ap₂ (λ (b c : List ℕ). b ++ (bytes "A" ++ c)) (point_only h.to_range u) (radius_only h.radius_range.high v)

-- ---- lines

line_allowed : (c : Command) → CommandOk c → WritesLine (line_text c) c
unfolding line_text spelt
line_allowed Comment h = W.dropped
line_allowed M48 h = W.line W.m48
line_allowed Metric h = W.line W.metric
line_allowed Inch h = W.line W.inch
line_allowed (Declare t d) h = W.line (W.declare (tool_allowed t h.0.high) (number_allowed d h.1.high))
line_allowed Percent h = W.line W.percent
line_allowed G05 h = W.line W.g05
line_allowed (G00 p) h = W.line (W.g00 (point_allowed p h))
line_allowed (Select t) h = W.line (W.select (tool_allowed t h.high))
line_allowed (Hit p) h = W.line (W.hit (point_allowed p h))
line_allowed M15 h = W.line W.m15
line_allowed M16 h = W.line W.m16
line_allowed (G01 p) h = W.line (W.g01 (point_allowed p h))
line_allowed (G02 a) h = W.line (W.g02 (arc_allowed a h))
line_allowed (G03 a) h = W.line (W.g03 (arc_allowed a h))
line_allowed M30 h = W.line W.m30

-- a word, and then one text
after : (l : List ℕ) {a b : List ℕ} → a ≡ b → with_lf (l ++ a) ≡ with_lf (l ++ b)
after l e = ap (λ (x : List ℕ). with_lf (l ++ x)) e

line_only : {b : List ℕ} {c : Command} → CommandOk c → WritesLine b c → b ≡ line_text c
unfolding line_text spelt
line_only h W.dropped = refl
line_only h (W.line W.m48) = refl
line_only h (W.line W.metric) = refl
line_only h (W.line W.inch) = refl
line_only h (W.line (W.declare u v)) = after (bytes "T") (ap₂ (λ (a b : List ℕ). a ++ (bytes "C" ++ b)) (tool_only u) (number_only h.1.high v))
line_only h (W.line W.percent) = refl
line_only h (W.line W.g05) = refl
line_only h (W.line (W.g00 w)) = after (bytes "G00") (point_only h w)
line_only h (W.line (W.select w)) = after (bytes "T") (tool_only w)
line_only h (W.line (W.hit w)) = after [] (point_only h w)
line_only h (W.line W.m15) = refl
line_only h (W.line W.m16) = refl
line_only h (W.line (W.g01 w)) = after (bytes "G01") (point_only h w)
line_only h (W.line (W.g02 w)) = after (bytes "G02") (arc_only h w)
line_only h (W.line (W.g03 w)) = after (bytes "G03") (arc_only h w)
line_only h (W.line W.m30) = refl

-- ---- rows

pub rows_allowed : (rs : Rows) → RowsOk rs → WritesRows (text_of_rows rs) rs
unfolding text_of_rows
rows_allowed [] h = W.no_row
rows_allowed (r ∷ rs) h = W.row (line_allowed r.command h.0) (rows_allowed rs h.2)

pub rows_only : {b : List ℕ} {rs : Rows} → RowsOk rs → WritesRows b rs → b ≡ text_of_rows rs
unfolding text_of_rows
rows_only h W.no_row = refl
rows_only h (W.row w v) = ap₂ ◌++◌ (line_only h.0 w) (rows_only h.2 v)
