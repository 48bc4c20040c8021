-- Document 01, "Writing", and "The answers", write: the text of a table, and the lent bytes afterwards.
use Rattle.std.specs.Prelude.{cond, List, [], ◌∷◌, ◌++◌, ℕ, zero, suc, ◌+◌, ◌/◌, ◌%◌, ◌^◌, min, leb, ltb, eqb, ℤ, pos, negsuc, length, Ok}
use Prim.Native.Char.{code}
use Rattle.lists.specs.Put.{put_at}
use Rattle.lists.specs.Words.{bytes}
use Rattle.runs.specs.Machine.{Verdict, refused, on_verdict, Entry, follow}
use Rattle.points.specs.declared.Point.{Point}
use Rattle.points.specs.declared.Arc.{Arc}
use Rattle.points.specs.Points.{place_of}
use Rattle.rules.specs.declared.Command.{Command}
use Rattle.rules.specs.declared.Command.TheVariants.{Comment, M48, Metric, Inch, Declare, Percent, G05, G00, Select, Hit, M15, M16, G01, G02, G03, M30}
use Rattle.rules.specs.declared.State.{State}
use Rattle.rules.specs.declared.Refusal.{Refusal}
use Rattle.rules.specs.Results.{Answer, refused_at}
use Rattle.rules.specs.Refusals.{bad_table, no_room}
use Rattle.rules.specs.Numbers.{max_places}
use Rattle.rules.specs.Lines.{LF}
use Rattle.rules.specs.Kinds.{is_comment}
use Rattle.rules.specs.State.{start, taken, has_ended, same_state}
use Rattle.rules.specs.Rows.{entries_of, sizes_fit}
use Rattle.rules.specs.Reading.{Rows}

-- ---- numbers

-- the last k digits of m, the first of them first
unfoldable pub last_digits : ℕ → ℕ → List ℕ
last_digits zero m = []
last_digits (suc k) m = (code "0" + m / 10 ^ k % 10) ∷ last_digits k m

-- how many digits a number below 1,000 has, at least one
unfoldable pub width_of : ℕ → ℕ
width_of w = cond (ltb w 10) 1 (cond (ltb w 100) 2 3)

-- how many decimals f millionths need, without trailing zeros
unfoldable pub places_of : ℕ → ℕ
places_of f =
    cond (eqb (f % 1000000) 0) 0 (cond (eqb (f % 100000) 0) 1 (cond (eqb (f % 10000) 0) 2
    (cond (eqb (f % 1000) 0) 3 (cond (eqb (f % 100) 0) 4 (cond (eqb (f % 10) 0) 5 6)))))

-- the digits before the point
abbrev pub whole_text : ℕ → List ℕ
whole_text v = last_digits (width_of (v / 1000000)) (v / 1000000)

-- so many decimals of f millionths, and no point for none
unfoldable pub fraction_text : ℕ → ℕ → List ℕ
fraction_text decimals f = cond (eqb decimals 0) [] (bytes "." ++ last_digits decimals (f / place_of decimals))

-- no trailing zeros, and no point for a whole number
unfoldable pub number_text : ℕ → List ℕ
number_text v = whole_text v ++ fraction_text (places_of (v % 1000000)) (v % 1000000)

-- a radius: just the decimals that it was written with (document 02, #104), and no number has more than six
unfoldable pub radius_text : ℕ → ℕ → List ℕ
radius_text decimals v = whole_text v ++ fraction_text (min decimals max_places) (v % 1000000)

-- minus where negative, no plus
unfoldable pub coordinate_text : ℤ → List ℕ
coordinate_text (pos v) = number_text v
coordinate_text (negsuc v) = bytes "-" ++ number_text (suc v)

-- two digits
unfoldable pub tool_text : ℕ → List ℕ
tool_text t = last_digits 2 t

-- ---- lines

unfoldable pub point_text : Point → List ℕ
point_text p = bytes "X" ++ (coordinate_text p.x ++ (bytes "Y" ++ coordinate_text p.y))

unfoldable pub arc_text : Arc → List ℕ
arc_text a = point_text a.to ++ (bytes "A" ++ radius_text a.decimals a.radius)

-- a command's line without its end; a comment's is as short as can be
unfoldable pub spelt : Command → List ℕ
spelt Comment = bytes ";"
spelt M48 = bytes "M48"
spelt Metric = bytes "METRIC"
spelt Inch = bytes "INCH"
spelt (Declare t d) = bytes "T" ++ (tool_text t ++ (bytes "C" ++ number_text d))
spelt Percent = bytes "%"
spelt G05 = bytes "G05"
spelt (G00 p) = bytes "G00" ++ point_text p
spelt (Select t) = bytes "T" ++ tool_text t
spelt (Hit p) = point_text p
spelt M15 = bytes "M15"
spelt M16 = bytes "M16"
spelt (G01 p) = bytes "G01" ++ point_text p
spelt (G02 a) = bytes "G02" ++ arc_text a
spelt (G03 a) = bytes "G03" ++ arc_text a
spelt M30 = bytes "M30"

abbrev pub with_lf : List ℕ → List ℕ
with_lf l = l ++ (LF ∷ [])

-- a row's line; a comment is dropped
unfoldable pub line_text : Command → List ℕ
line_text c = cond (is_comment c) [] (with_lf (spelt c))

-- bytes of the longest, with its LF
abbrev pub longest_line : ℕ
longest_line = 39

unfoldable pub text_of_rows : Rows → List ℕ
text_of_rows [] = []
text_of_rows (r ∷ rs) = line_text r.command ++ text_of_rows rs

-- ---- the answer

-- rows after i others, from state p: each row's test and that it follows, then the last phase
abbrev pub follow_from : State → List (Entry Command State) → ℕ → Verdict Rows Refusal
follow_from p es i = follow taken same_state has_ended bad_table p es i

-- the sizes first
unfoldable pub rows_of : List ℤ → ℕ → Verdict Rows Refusal
rows_of t n = cond (sizes_fit t n) (follow_from start (entries_of n t) 0) (refused bad_table 0)

abbrev pub in_block : List ℕ → List ℕ → Answer
in_block b x = cond (leb (length x) (length b)) (Ok (length x)) (refused_at no_room 0)

unfoldable pub write_answer : List ℤ → ℕ → List ℕ → Answer
write_answer t n b = on_verdict (rows_of t n) refused_at (λ rs. in_block b (text_of_rows rs))

-- the lent bytes afterwards: the text, and all beyond it as it was; on refusal as they were
abbrev pub with_text : List ℕ → List ℕ → List ℕ
with_text b x = cond (leb (length x) (length b)) (put_at b 0 x) b

unfoldable pub write_leaves : List ℤ → ℕ → List ℕ → List ℕ
write_leaves t n b = on_verdict (rows_of t n) (λ e i. b) (λ rs. with_text b (text_of_rows rs))
