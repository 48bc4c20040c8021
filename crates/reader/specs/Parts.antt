-- For contracts of private functions alone: lines read on from somewhere in the file, and their rows in a block.
use Rattle.rules.specs.Results.{Answer, refused_at}
use Rattle.std.specs.Prelude.{◌≡◌, List, [], ℕ, ◌+◌, ◌*◌, ◌≤◌, ℤ, length, Ok, Err}
use Rattle.lists.specs.Put.{put_at}
use Rattle.runs.specs.Machine.{Verdict, accepted, refused}
use Rattle.rules.specs.declared.Refusal.{Refusal}
use Rattle.rules.specs.declared.Refused.{Refused}
use Rattle.rules.specs.declared.Counted.{Counted}
use Rattle.rules.specs.declared.Revision.{Revision}
use Rattle.rules.specs.Numbers.{max_lines}
use Rattle.rules.specs.Lines.{lines_of}
use Rattle.rules.specs.Rows.{row_width, table_numbers}
use Rattle.rules.specs.Reading.{Rows, run_of}
use Rattle.rules.specs.Counting.{no_counts}

-- the answer, where n lines came before
abbrev pub told_from : ℕ → Verdict Rows Refusal → Answer
told_from n (accepted rs) = Ok (n + length rs)
told_from n (refused e i) = refused_at e i

-- the numbers, where n rows stand in them: what a refusal leaves there is nobody's concern
abbrev pub left_from : List ℤ → ℕ → Verdict Rows Refusal → List ℤ
left_from t n (accepted rs) = put_at t (row_width * n) (table_numbers rs)
left_from t n (refused e i) = []

-- all lines read, their rows in a block of our own
abbrev pub Block : Revision → List ℕ → List ℤ → Answer → List ℤ → Type 0
Block rev s t (Ok n) t' = (n ≤ max_lines) × (t' ≡ left_from t 0 (run_of rev (lines_of s)))
Block rev s t (Err r) t' = Unit {0}

pub record LinesRead (rev : Revision) (s : List ℕ) (t : List ℤ) (r : Answer) (t' : List ℤ) : Type 0 where
  pub answer : r ≡ told_from 0 (run_of rev (lines_of s))
  pub block : Block rev s t r t'

-- a refused file
abbrev pub not_read : Refused → Counted
not_read r = record { answer = Err r; counts = no_counts }
