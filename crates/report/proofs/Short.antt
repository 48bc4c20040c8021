-- The longest print-out has room: the bytes of each line, and of all lines of a file.
use mathlib.Core.Path.{◌≡◌, refl}
use mathlib.Core.List.{List, [], ◌∷◌, ◌++◌}
use Prim.Native.Nat.{ℕ, zero, suc, ◌+◌, ◌-◌, ◌*◌, ◌<◌, ◌≤◌}
use native.Mathlib.Omega.{arith}
use lib.Dec.{eqb}
use lib.IntN.{ℤ, pos, negsuc, nat_abs}
use lib.ListN.{length, length-append}
use lib.Signed.{mag}
use Rattle.rules.specs.Refusals.{refusal_number, refusal_column}
use Rattle.rules.specs.Results.{DiameterAnswer, HoleAnswer}
use Rattle.std.specs.Prelude.{Ok, Err}
use Rattle.lists.specs.Words.{bytes}
use Rattle.lists.proofs.Choice.{cond_all}
use Rattle.runs.specs.Machine.{Verdict, accepted, refused, on_verdict, all_hold, last_of}
use Rattle.points.specs.declared.Point.{Point}
use Rattle.rules.specs.declared.Command.{Command}
use Rattle.rules.specs.declared.State.{State}
use Rattle.rules.specs.declared.Refusal.{Refusal}
use Rattle.rules.specs.declared.Hole.{Hole}
use Rattle.rules.specs.declared.Revision.{Revision}
use Rattle.rules.specs.Numbers.{max_number, max_tool, max_lines}
use Rattle.rules.specs.Kinds as Kinds
use Rattle.rules.specs.State.{metric_unit, start}
use Rattle.rules.specs.Holes.{hole_of}
use Rattle.rules.specs.Reading.{Rows, file_of}
use Rattle.rules.specs.Asking.{diameter_in}
use Rattle.rules.specs.Counting.{hits, routs, how_many}
use Rattle.rules.specs.Printing.{decimal, printed_line, unit_line, tool_line, tool_lines, hole_fields, hole_line, hole_lines, hole_count, holes_text, refused_text, printed, counts_line, counts_lines, counts_printed}
use Rattle.rules.specs.Ranges.{PointOk, StateOk, CommandOk}
use Rattle.laws.proofs.Keeps.{start_ok}
use Rattle.laws.proofs.Ways.{hole_cases}
use Rattle.laws.proofs.InRange.{RowsOk}
use Rattle.answers.proofs.AcceptedFile.{file_few, file_ok}
use Rattle.text.proofs.Decimals.{decimal_range}
use Rattle.print.specs.Line.{decimals}
use Rattle.print.proofs.Lines.{line_length, hole_short}
use Rattle.print.proofs.Turns.{numbers_high}
use Rattle.report.specs.Report.{text_room}

-- ---- lines of numbers

numbers_short : (word ns : List ℕ) → length (printed_line word (decimals ns)) ≤ length word + 21 * length ns + 1
numbers_short word ns = omega (arith, line_length word (decimals ns), numbers_high ns)

unit_short : (rs : Rows) → length (unit_line rs) ≤ 12
unfolding unit_line printed_line
unit_short rs = cond_all (λ (x : List ℕ). length (printed_line (bytes "unit") (x ∷ [])) ≤ 12) (eqb (last_of start rs).unit metric_unit) (λ _. omega arith) (λ _. omega arith)

tool_short : (t : ℕ) (a : DiameterAnswer) → length (tool_line t a) ≤ 47
unfolding decimals
tool_short t (Ok d) = numbers_short (bytes "tool") (t ∷ d ∷ [])
tool_short t (Err r) = omega arith

tools_short : (k : ℕ) (rs : Rows) → length (tool_lines k rs) ≤ 47 * k
unfolding tool_lines
tools_short zero rs = omega arith
tools_short (suc k) rs =
    let l = tool_line (max_tool - k) (diameter_in (max_tool - k) (all_hold rs) 0) in
    omega (arith, length-append l (tool_lines k rs), tool_short (max_tool - k) (diameter_in (max_tool - k) (all_hold rs) 0), tools_short k rs)

count_short : (c : ℕ) → length (printed_line (bytes "holes") (decimal c ∷ [])) ≤ 27
unfolding decimals
count_short c = numbers_short (bytes "holes") (c ∷ [])

refused_short : (e : Refusal) (i : ℕ) → length (refused_text e i) ≤ 71
unfolding refused_text decimals
refused_short e i = numbers_short (bytes "refused") ((refusal_number e) ∷ i ∷ (refusal_column e) ∷ [])

-- a tool, its diameter and its counts
counts_line_short : (t : ℕ) (a : DiameterAnswer) (h r : ℕ) → length (counts_line t a h r) ≤ 84
unfolding decimals
counts_line_short t (Ok d) h r = omega (arith, (decimal_range t).1, numbers_short (decimal t) (d ∷ h ∷ r ∷ []))
counts_line_short t (Err r') h r = omega arith

counts_short : (k : ℕ) (rs : Rows) → length (counts_lines k rs) ≤ 84 * k
unfolding counts_lines
counts_short zero rs = omega arith
counts_short (suc k) rs =
    let t = max_tool - k in
    let a = diameter_in t (all_hold rs) 0 in
    let h = how_many hits rs t in
    let r = how_many routs rs t in
    omega (arith, length-append (counts_line t a h r) (counts_lines k rs), counts_line_short t a h r, counts_short k rs)

-- ---- lines of holes

small : (z : ℤ) → nat_abs z ≤ max_number → mag z < 2147483648
small (pos n) h = omega arith
small (negsuc n) h = omega arith

made_short : (i k t : ℕ) (from to : Point) (r : ℕ) → t ≤ max_tool → PointOk from → PointOk to → r ≤ max_number
    → length (printed_line (decimal i) (hole_fields (record { kind = k; tool = t; start = from; end = to; radius = r }))) ≤ 93
made_short i k t from to r ht hf he hr =
    let h : Hole = record { kind = k; tool = t; start = from; end = to; radius = r } in
    omega (
      arith,
      line_length (decimal i) (hole_fields h),
      (decimal_range i).1,
      hole_short h (omega arith) (small from.x hf.x_range) (small from.y hf.y_range) (small to.x he.x_range) (small to.y he.y_range) (omega arith),
    )

hole_line_short : (i : ℕ) (from : Point) (c : Command) (s : State) → PointOk from → CommandOk c → StateOk s → length (hole_line i (hole_of from c s)) ≤ 93
hole_line_short i from c s f ok w =
    hole_cases (λ (a : HoleAnswer). length (hole_line i a) ≤ 93) from s c (omega arith)
    (λ p e. let l = rw e at ok in made_short i Kinds.hit _ p p 0 w.tool_range l l (omega arith))
    (λ p e. made_short i Kinds.g01 _ from p 0 w.tool_range f (rw e at ok) (omega arith))
    (λ a e. let l = rw e at ok in made_short i Kinds.g02 _ from a.to a.radius w.tool_range f l.to_range l.radius_range.high)
    (λ a e. let l = rw e at ok in made_short i Kinds.g03 _ from a.to a.radius w.tool_range f l.to_range l.radius_range.high)

holes_short : (rs : Rows) (p : State) (i : ℕ) → StateOk p → RowsOk rs → length (hole_lines p rs i) ≤ 93 * length rs
unfolding hole_lines
holes_short [] p i w ok = omega arith
holes_short (r ∷ rs) p i w ok =
    omega (
      arith,
      length-append (hole_line (i + 1) (hole_of p.at r.command r.state)) (hole_lines r.state rs (i + 1)),
      hole_line_short (i + 1) p.at r.command r.state w.at_range ok.0 ok.1,
      holes_short rs r.state (i + 1) ok.1 ok.2,
    )

-- ---- a print-out

text_short : (rs : Rows) → RowsOk rs → length rs ≤ max_lines → length (holes_text rs) ≤ text_room
unfolding holes_text
text_short rs ok few =
    let u = unit_line rs in
    let t = tool_lines max_tool rs in
    let l = hole_lines start rs 0 in
    let c = printed_line (bytes "holes") (decimal (hole_count start rs) ∷ []) in
    omega (
      arith,
      length-append u (t ++ (l ++ c)),
      length-append t (l ++ c),
      length-append l c,
      unit_short rs,
      tools_short max_tool rs,
      holes_short rs start 0 start_ok ok,
      count_short (hole_count start rs),
    )

module _ (rev : Revision) (bs : List ℕ) where
  pub printed_short : length (printed rev bs) ≤ text_room
  unfolding printed
  printed_short = by (file_of rev bs) refl
    where
      by : (v : Verdict Rows Refusal) → file_of rev bs ≡ v → length (on_verdict v refused_text holes_text) ≤ text_room
      by (accepted rs) e = text_short rs (file_ok rev bs rs e) (file_few rev bs rs e)
      by (refused e i) _ = omega (arith, refused_short e i)

  pub counts_printed_short : length (counts_printed rev bs) ≤ text_room
  unfolding counts_printed
  counts_printed_short = by (file_of rev bs)
    where
      by : (v : Verdict Rows Refusal) → length (on_verdict v refused_text (counts_lines max_tool)) ≤ text_room
      by (accepted rs) = omega (arith, counts_short max_tool rs)
      by (refused e i) = omega (arith, refused_short e i)
