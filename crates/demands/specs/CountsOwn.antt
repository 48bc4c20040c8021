-- Document 02, #103: the counts are the table's own. Those of a good table are the counts of its rows; read hands them out, an accepted
-- edit that takes them in hands out those of the table that it leaves, and the question answered from them is counting the holes
-- afresh. Over all tools they sum to the number of holes.
use Rattle.std.specs.Prelude.{◌≡◌, ◌&&◌, List, [], ◌∷◌, ℕ, zero, suc, ◌+◌, ◌≤◌, leb, eqb, ℤ, Some, None, Ok, Err}
use Rattle.rules.specs.declared.Way.{Way}
use Rattle.rules.specs.declared.Revision.{Revision}
use Rattle.rules.specs.Results.{HoleAnswer}
use Rattle.rules.specs.Numbers.{max_tool}
use Rattle.rules.specs.Rows.{Good}
use Rattle.rules.specs.Reading.{Rows, read_answer, read_leaves}
use Rattle.rules.specs.Asking.{hole_answer}
use Rattle.rules.specs.Counting.{one, hits, routs, counts_of, read_counts, hits_answer, routs_answer}
use Rattle.rules.specs.Editing.{meeting_answer, edit_answer, edit_leaves, edit_counts}
use Rattle.rules.specs.Printing.{one_hole}

-- ---- the holes counted afresh, as the hole query answers them for each line

-- a hole that is made that way, with that tool
abbrev pub one_of : Way → ℕ → HoleAnswer → ℕ
one_of w tool (Ok (Some h)) = one ((leb w.first h.kind && leb h.kind w.last) && eqb h.tool tool)
one_of w tool (Ok None) = 0
one_of w tool (Err r) = 0

-- those of lines 1 to k
unfoldable pub afresh : Way → ℕ → List ℤ → ℕ → ℕ → ℕ
afresh w tool t n zero = 0
afresh w tool t n (suc k) = afresh w tool t n k + one_of w tool (hole_answer t n (suc k))

-- all holes of lines 1 to k
unfoldable pub all_holes : List ℤ → ℕ → ℕ → ℕ
all_holes t n zero = 0
all_holes t n (suc k) = all_holes t n k + one_hole (hole_answer t n (suc k))

-- ---- the table's own

pub record CountsOwn : Type 0 where
  pub read : (rev : Revision) (bs : List ℕ) (t : List ℤ) (n : ℕ) (rs : Rows) → read_answer rev bs t ≡ Ok n → Good (read_leaves rev bs t) n rs
      → read_counts rev bs t ≡ counts_of rs
  -- an edit from the table's own counts is never refused for them
  pub fit : (rev : Revision) (t : List ℤ) (n : ℕ) (rs : Rows) → Good t n rs → (k : ℕ) (l : List ℕ)
      → edit_answer rev t n k l (counts_of rs) ≡ meeting_answer rev t n k l
  pub edit : (rev : Revision) (t : List ℤ) (n : ℕ) (rs : Rows) → Good t n rs → (k : ℕ) (l : List ℕ) (m : ℕ) (ss : Rows)
      → edit_answer rev t n k l (counts_of rs) ≡ Ok m → Good (edit_leaves rev t n k l (counts_of rs)) n ss
      → edit_counts rev t n k l (counts_of rs) ≡ counts_of ss
  -- the question
  pub hits : (t : List ℤ) (n : ℕ) (rs : Rows) → Good t n rs → (tool : ℕ) → 1 ≤ tool → tool ≤ max_tool
      → hits_answer (counts_of rs) tool ≡ Ok (afresh hits tool t n n)
  pub routs : (t : List ℤ) (n : ℕ) (rs : Rows) → Good t n rs → (tool : ℕ) → 1 ≤ tool → tool ≤ max_tool
      → routs_answer (counts_of rs) tool ≡ Ok (afresh routs tool t n n)

-- ---- the sum

unfoldable pub total : List ℕ → ℕ
total [] = 0
total (x ∷ xs) = x + total xs

pub record CountsSum : Type 0 where
  pub sum : (t : List ℤ) (n : ℕ) (rs : Rows) → Good t n rs → total (counts_of rs).hits + total (counts_of rs).routs ≡ all_holes t n n
