-- Hits and routs together: the counts hold the rows exactly where no count is over the largest and none under what the rows take.
use mathlib.Core.Path.{◌≡◌, refl, sym, ap, ◌∙◌}
use mathlib.Core.Bool.{Bool, true, false, ◌&&◌, cond, false≢true}
use mathlib.Core.List.{List}
use Prim.Native.Nat.{ℕ}
use lib.Dec.{leb}
use lib.IntN.{ℤ}
use Rattle.std.specs.Prelude.{Option, None, is_some, Ok, Err}
use Rattle.rules.specs.declared.Way.{Way}
use Rattle.rules.specs.declared.Counts.{Counts}
use Rattle.rules.specs.Counting.{hits, routs, of_tool, max_count}
use Rattle.laws.proofs.EachTool.{each_both}
use Rattle.tally.specs.Standing.{standing, fewer, none_over, none_under, Takes, holds_rows, without_rows}

-- a refusal, and what it says
pub takes_none : {A : Type 0} {w : Way} {l : List ℤ} {c c' : List ℕ} {r : Option A} → r ≡ None → none_under w l c ≡ false → Takes w l c (is_some r) c'
takes_none e u = record { answer = ap is_some e ∙ sym u; left = λ t. absurd (false≢true (sym (ap is_some e) ∙ t)) }

holds_rows_lem : (w : Way) (l : List ℤ) (c : List ℕ) → holds_rows w l c ≡ (none_over c && none_under w l c)
unfolding none_over none_under
holds_rows_lem w l c = each_both (λ t. leb (of_tool c t) max_count) (λ t. leb (standing w l t) (of_tool c t))

module _ (c : Counts) (l : List ℤ) where
  -- the tests, in the order in which the code makes them
  pub is_tested : without_rows c l
      ≡ cond ((none_over c.hits && none_over c.routs) && (none_under hits l c.hits && none_under routs l c.routs))
      (Ok (record { hits = fewer hits l c.hits; routs = fewer routs l c.routs })) (Err c)
  unfolding without_rows
  is_tested =
      rw (holds_rows_lem hits l c.hits, holds_rows_lem routs l c.routs, by (none_over c.hits) (none_under hits l c.hits) (none_over c.routs) (none_under routs l c.routs))
    where
      by : (a d b e : Bool) → ((a && d) && (b && e)) ≡ ((a && b) && (d && e))
      by true true b e = refl
      by true false true e = refl
      by true false false e = refl
      by false d b e = refl
