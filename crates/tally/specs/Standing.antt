-- Holes counted in the numbers of rows as they stand: two numbers of each row are looked at, and neither is tested. Where the rows
-- are whole, these are the counts of the rows (proofs/Standing).
use Rattle.std.specs.Prelude.{Option, MatchOption, Result, Ok, Err, ◌≡◌, Bool, true, ◌&&◌, cond, List, ℕ, zero, suc, ◌+◌, ◌-◌, ◌*◌, ◌/◌, ◌≤◌, leb, ltb, eqb, ℤ, length}
use Rattle.rules.specs.declared.Way.{Way}
use Rattle.rules.specs.declared.Counts.{Counts}
use Rattle.rules.specs.Numbers.{max_tool}
use Rattle.rules.specs.Rows.{row_width, field_n}
use Rattle.rules.specs.Counting.{one, hits, routs, each_tool, of_tool, for_each_tool, max_count}

-- the tool with which the row after i others makes a hole that way, 0 where it makes none
unfoldable pub tool_in : Way → List ℤ → ℕ → ℕ
tool_in w l i =
    cond (leb w.first (field_n l (row_width * i)) && (leb (field_n l (row_width * i)) w.last && leb (field_n l (row_width * i + 8)) max_tool))
    (field_n l (row_width * i + 8)) 0

-- an answer that is that tool, none where it is 0
abbrev pub Tells : Option ℕ → ℕ → Type 0
Tells r t = MatchOption r (t ≡ 0) (λ u. (u ≡ t) × (1 ≤ u) × (u ≤ max_tool))

-- a count raised by one, and m times; none goes past the largest number of 32 bits
abbrev pub max_counted : ℕ
max_counted = 4294967295

abbrev pub raised : ℕ → ℕ
raised a = cond (ltb a max_counted) (a + 1) a

unfoldable pub raised_by : ℕ → ℕ → ℕ
raised_by zero a = a
raised_by (suc m) a = raised (raised_by m a)

-- how many of the first i rows make one with tool t
unfoldable pub standing_to : Way → List ℤ → ℕ → ℕ → ℕ
standing_to w l zero t = 0
standing_to w l (suc i) t = standing_to w l i t + one (eqb (tool_in w l i) t)

-- how many of all rows do
abbrev pub standing : Way → List ℤ → ℕ → ℕ
standing w l t = standing_to w l (length l / row_width) t

-- counts with the rows' holes
abbrev pub more : Way → List ℤ → List ℕ → List ℕ
more w l c = each_tool (λ t. raised_by (standing w l t) (of_tool c t))

unfoldable pub with_rows : Counts → List ℤ → Counts
with_rows c l = record { hits = more hits l c.hits; routs = more routs l c.routs }

-- counts without them, where none is over the largest that is taken in or under what the rows take from it
abbrev pub fewer : Way → List ℤ → List ℕ → List ℕ
fewer w l c = each_tool (λ t. of_tool c t - standing w l t)

unfoldable pub none_over : List ℕ → Bool
none_over c = for_each_tool (λ t. leb (of_tool c t) max_count)

unfoldable pub none_under : Way → List ℤ → List ℕ → Bool
none_under w l c = for_each_tool (λ t. leb (standing w l t) (of_tool c t))

-- what taking away answers, and leaves; what a refusal leaves is nobody's concern
pub record Takes (w : Way) (l : List ℤ) (c : List ℕ) (r : Bool) (c' : List ℕ) : Type 0 where
  pub answer : r ≡ none_under w l c
  pub left : r ≡ true → c' ≡ fewer w l c

abbrev pub holds_rows : Way → List ℤ → List ℕ → Bool
holds_rows w l c = for_each_tool (λ t. leb (of_tool c t) max_count && leb (standing w l t) (of_tool c t))

abbrev pub holds_all : Counts → List ℤ → Bool
holds_all c l = holds_rows hits l c.hits && holds_rows routs l c.routs

-- the counts without the rows' holes; or, where they can't be counts of a table with those rows, as they were
unfoldable pub without_rows : Counts → List ℤ → Result Counts Counts
without_rows c l = cond (holds_all c l) (Ok (record { hits = fewer hits l c.hits; routs = fewer routs l c.routs })) (Err c)
