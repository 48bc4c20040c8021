-- Document 01, "The bench file": the lines that the program prints for a file's bytes. Fields are parted by tabs. By document 02's #106 a
-- refused file's line has the column as its fourth field.
use Rattle.std.specs.Prelude.{cond, List, [], ◌∷◌, ◌++◌, ℕ, zero, suc, ◌+◌, ◌-◌, ◌/◌, ltb, eqb, ℤ, pos, negsuc, Some, None, Ok, Err}
use Rattle.rules.specs.Refusals.{refusal_number, refusal_column}
use Rattle.rules.specs.Results.{DiameterAnswer, HoleAnswer}
use Rattle.lists.specs.Words.{bytes}
use Rattle.runs.specs.Machine.{on_verdict, all_hold, last_of}
use Rattle.rules.specs.declared.State.{State}
use Rattle.rules.specs.declared.Refusal.{Refusal}
use Rattle.rules.specs.declared.Revision.{Revision}
use Rattle.rules.specs.declared.Hole.{Hole}
use Rattle.rules.specs.Numbers.{max_tool}
use Rattle.rules.specs.Lines.{LF}
use Rattle.rules.specs.Kinds as Kinds
use Rattle.rules.specs.State.{metric_unit, start}
use Rattle.rules.specs.Holes.{hole_of}
use Rattle.rules.specs.Reading.{Rows, file_of}
use Rattle.rules.specs.Counting.{hits, routs, how_many}
use Rattle.rules.specs.Asking.{diameter_in}
use Rattle.rules.specs.Writing.{last_digits}

-- ---- fields

-- a whole number of at most k + 1 digits
unfoldable pub shown : ℕ → ℕ → List ℕ
shown zero n = last_digits 1 n
shown (suc k) n = cond (ltb n 10) (last_digits 1 n) (shown k (n / 10) ++ last_digits 1 n)

unfoldable pub decimal : ℕ → List ℕ
decimal n = shown 19 n

unfoldable pub signed_decimal : ℤ → List ℕ
signed_decimal (pos n) = decimal n
signed_decimal (negsuc n) = bytes "-" ++ decimal (suc n)

unfoldable pub printed_line : List ℕ → List (List ℕ) → List ℕ
printed_line f [] = f ++ (LF ∷ [])
printed_line f (g ∷ gs) = f ++ (bytes "\t" ++ printed_line g gs)

-- ---- lines

abbrev pub unit_name : ℕ → List ℕ
unit_name u = cond (eqb u metric_unit) (bytes "METRIC") (bytes "INCH")

unfoldable pub unit_line : Rows → List ℕ
unit_line rs = printed_line (bytes "unit") (unit_name (last_of start rs).unit ∷ [])

-- tools declared, by number, with their diameters: the k last of all
abbrev pub tool_line : ℕ → DiameterAnswer → List ℕ
tool_line t (Ok d) = printed_line (bytes "tool") (decimal t ∷ decimal d ∷ [])
tool_line t (Err r) = []

unfoldable pub tool_lines : ℕ → Rows → List ℕ
tool_lines zero rs = []
tool_lines (suc k) rs = tool_line (max_tool - k) (diameter_in (max_tool - k) (all_hold rs) 0) ++ tool_lines k rs

-- H hit, L line, C clockwise, A counter-clockwise
abbrev pub letter : ℕ → List ℕ
letter k = cond (eqb k Kinds.hit) (bytes "H") (cond (eqb k Kinds.g01) (bytes "L") (cond (eqb k Kinds.g02) (bytes "C") (bytes "A")))

abbrev pub hole_fields : Hole → List (List ℕ)
hole_fields h =
    letter h.kind ∷ decimal h.tool ∷ signed_decimal h.start.x ∷ signed_decimal h.start.y
    ∷ signed_decimal h.end.x ∷ signed_decimal h.end.y ∷ decimal h.radius ∷ []

abbrev pub hole_line : ℕ → HoleAnswer → List ℕ
hole_line i (Ok (Some h)) = printed_line (decimal i) (hole_fields h)
hole_line i (Ok None) = []
hole_line i (Err r) = []

-- holes by line: rows after i others, from state p
unfoldable pub hole_lines : State → Rows → ℕ → List ℕ
hole_lines p [] i = []
hole_lines p (r ∷ rs) i = hole_line (i + 1) (hole_of p.at r.command r.state) ++ hole_lines r.state rs (i + 1)

abbrev pub one_hole : HoleAnswer → ℕ
one_hole (Ok (Some h)) = 1
one_hole (Ok None) = 0
one_hole (Err r) = 0

unfoldable pub hole_count : State → Rows → ℕ
hole_count p [] = 0
hole_count p (r ∷ rs) = one_hole (hole_of p.at r.command r.state) + hole_count r.state rs

unfoldable pub holes_text : Rows → List ℕ
holes_text rs =
    unit_line rs ++ (tool_lines max_tool rs ++ (hole_lines start rs 0 ++ printed_line (bytes "holes") (decimal (hole_count start rs) ∷ [])))

unfoldable pub refused_text : Refusal → ℕ → List ℕ
refused_text e i = printed_line (bytes "refused") (decimal (refusal_number e) ∷ decimal i ∷ decimal (refusal_column e) ∷ [])

unfoldable pub printed : Revision → List ℕ → List ℕ
printed rev bs = on_verdict (file_of rev bs) refused_text holes_text

-- ---- the program `counts` (document 02, #103): each tool declared, by number, with its diameter, its hits and its routs

abbrev pub counts_line : ℕ → DiameterAnswer → ℕ → ℕ → List ℕ
counts_line t (Ok d) h r = printed_line (decimal t) (decimal d ∷ decimal h ∷ decimal r ∷ [])
counts_line t (Err r') h r = []

-- the k last of all
unfoldable pub counts_lines : ℕ → Rows → List ℕ
counts_lines zero rs = []
counts_lines (suc k) rs =
    counts_line (max_tool - k) (diameter_in (max_tool - k) (all_hold rs) 0) (how_many hits rs (max_tool - k)) (how_many routs rs (max_tool - k)) ++ counts_lines k rs

unfoldable pub counts_printed : Revision → List ℕ → List ℕ
counts_printed rev bs = on_verdict (file_of rev bs) refused_text (counts_lines max_tool)
