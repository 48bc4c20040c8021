-- For contracts of private functions alone: the parts of a print-out, from a table of n rows.
use Rattle.std.specs.Prelude.{◌≡◌, length, cond, List, [], ◌∷◌, ◌++◌, ℕ, zero, suc, ◌+◌, ◌-◌, ◌≤◌, ℤ, Option, Some, None, Ok}
use Rattle.std.specs.Result.{result_ok}
use Rattle.std.specs.Borrow.{Bor, MutBor}
use Rattle.lists.specs.Words.{bytes}
use Rattle.runs.specs.Machine.{accepted, refused, last_of}
use Rattle.rules.specs.declared.Refusal.{Refusal}
use Rattle.rules.specs.declared.Revision.{Revision}
use Rattle.rules.specs.State.{start}
use Rattle.rules.specs.Rows.{Good}
use Rattle.rules.specs.Reading.{Rows, file_of}
use Rattle.tools.specs.declared.Tools.{Tools}
use Rattle.rules.specs.declared.State.{State}
use Rattle.rules.specs.declared.Counts.{Counts}
use Rattle.rules.specs.Numbers.{max_tool}
use Rattle.tools.specs.Set.{has}
use Rattle.rules.specs.Asking.{hole_answer, diameter_answer}
use Rattle.rules.specs.Counting.{of_tool, counts_of}
use Rattle.text.specs.Wrote.{Wrote}
use Rattle.report.specs.Report.{text_room}
use Rattle.rules.specs.Printing.{decimal, printed_line, unit_name, tool_line, hole_line, one_hole, counts_line, refused_text}

-- ---- tools

-- the diameter of a declared tool; that of another isn't looked for
unfoldable pub diameter_of : List ℤ → ℕ → Tools → ℕ → Option ℕ
diameter_of t n d tool = cond (has d tool) (result_ok (diameter_answer t n tool)) None

-- the line of a tool and its diameter: that of `holes`, and that of `counts`
abbrev pub holes_line : ℕ → ℕ → List ℕ
holes_line tool m = tool_line tool (Ok m)

unfoldable pub counts_line_of : Counts → ℕ → ℕ → List ℕ
counts_line_of c tool m = counts_line tool (Ok m) (of_tool c.hits tool) (of_tool c.routs tool)

abbrev pub where_some : (ℕ → List ℕ) → Option ℕ → List ℕ
where_some line (Some m) = line m
where_some line None = []

-- the lines of the k last of all tools
unfoldable pub lines_of_tools : (ℕ → ℕ → List ℕ) → (ℕ → Option ℕ) → ℕ → List ℕ
lines_of_tools line diameter zero = []
lines_of_tools line diameter (suc k) = where_some (line (max_tool - k)) (diameter (max_tool - k)) ++ lines_of_tools line diameter k

-- it may be called at every tool, and what it puts is the tool's line
abbrev pub TakesTools : (MutBor (List ℕ) → ℕ → ℕ → ℕ → Type 0) → Type 0
TakesTools pre = (b : MutBor (List ℕ)) (at tool m : ℕ) → 1 ≤ tool → tool ≤ max_tool → pre b at tool m

abbrev pub PutsTools : (MutBor (List ℕ) → ℕ → ℕ → ℕ → ℕ → MutBor (List ℕ) → Type 0) → (ℕ → ℕ → List ℕ) → Type 0
PutsTools post line =
    (b : MutBor (List ℕ)) (at tool m r : ℕ) (b' : MutBor (List ℕ)) → post b at tool m r b' → Wrote b.now at (line tool m) b'.now r

-- ---- holes

-- k lines after i others
unfoldable pub lines_text : List ℤ → ℕ → ℕ → ℕ → List ℕ
lines_text t n i zero = []
lines_text t n i (suc k) = hole_line (i + 1) (hole_answer t n (i + 1)) ++ lines_text t n (i + 1) k

-- how many of them make a hole
unfoldable pub holes_in : List ℤ → ℕ → ℕ → ℕ → ℕ
holes_in t n i zero = 0
holes_in t n i (suc k) = one_hole (hole_answer t n (i + 1)) + holes_in t n (i + 1) k

abbrev pub unit_text : ℕ → List ℕ
unit_text u = printed_line (bytes "unit") (unit_name u ∷ [])

abbrev pub count_text : ℕ → List ℕ
count_text c = printed_line (bytes "holes") (decimal c ∷ [])

-- ---- the whole, given the state after the last row

unfoldable pub table_text : List ℤ → ℕ → State → List ℕ
table_text t n s =
    unit_text s.unit ++ (lines_of_tools holes_line (diameter_of t n s.tools) max_tool ++ (lines_text t n 0 n ++ count_text (holes_in t n 0 n)))

-- what is put for a table of n rows, given the state after the last and their counts: that of `holes`, and that of `counts`
abbrev pub Out : Type 0
Out = List ℤ → ℕ → State → Counts → List ℕ

abbrev pub holes_out : Out
holes_out t n s c = table_text t n s

abbrev pub counts_out : Out
counts_out t n s c = lines_of_tools (counts_line_of c) (diameter_of t n s.tools) max_tool

abbrev pub PutsOut : (MutBor (List ℕ) → Bor (List ℤ) → ℕ → State → Bor Counts → ℕ → MutBor (List ℕ) → Type 0) → Out → Type 0
PutsOut post out =
    (b : MutBor (List ℕ)) (t : Bor (List ℤ)) (n : ℕ) (s : State) (c : Bor Counts) (r : ℕ) (b' : MutBor (List ℕ))
    → post b t n s c r b' → Wrote b.now 0 (out t.now n s c.now) b'.now r

-- x is what is printed for a file, if that is put for its rows
pub record PrintsOut (rev : Revision) (file : List ℕ) (out : Out) (x : List ℕ) : Type 0 where
  pub short : length x ≤ text_room
  pub of_refused : (e : Refusal) (i : ℕ) → file_of rev file ≡ refused e i → x ≡ refused_text e i
  pub of_rows : (rs : Rows) → file_of rev file ≡ accepted rs → (t : List ℤ) → Good t (length rs) rs → x ≡ out t (length rs) (last_of start rs) (counts_of rs)
