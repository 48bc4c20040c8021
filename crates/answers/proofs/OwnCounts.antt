-- An edit that takes the table's own counts is never refused for them, and hands back those of the new rows.
use mathlib.Core.Path.{◌≡◌, ap, ap₂, ◌∙◌}
use mathlib.Core.Bool.{true, ◌&&◌}
use mathlib.Core.List.{List}
use Prim.Native.Nat.{ℕ, ◌+◌, ◌-◌, ◌≤◌}
use native.Mathlib.Omega.{arith}
use borrow.Author.Tests.{le-leb}
use lib.Dec.{leb}
use lib.ListN.{length, take, drop}
use Rattle.lists.specs.Put.{put_at}
use Rattle.runs.specs.Machine.{all_hold, Span}
use Rattle.runs.proofs.Whole.{whole_part}
use Rattle.rules.specs.declared.Command.{Command}
use Rattle.rules.specs.declared.State.{State}
use Rattle.rules.specs.declared.Way.{Way}
use Rattle.rules.specs.Numbers.{max_tool, max_lines}
use Rattle.rules.specs.Reading.{Rows}
use Rattle.rules.specs.Counting.{each_tool, of_tool, hits, routs, how_many, counts_of, max_count, way_fits, counts_fit, replaced, counts_after}
use Rattle.rules.specs.Editing.{old_rows}
use Rattle.laws.proofs.EachTool.{of_each, each_same, each_so}
use Rattle.laws.proofs.HowMany.{how_many-few, how_many-part, how_many-put}

-- ---- one way

module _ (w : Way) (rs : Rows) where
  own : (t : ℕ) → 1 ≤ t → t ≤ max_tool → of_tool (each_tool (how_many w rs)) t ≡ how_many w rs t
  own t p q = of_each (how_many w rs) t p q

  own_way : (i j : ℕ) → length rs ≤ max_lines → way_fits w (take j (drop i rs)) (each_tool (how_many w rs)) ≡ true
  unfolding way_fits
  own_way i j few =
      each_so (λ t. leb (of_tool (each_tool (how_many w rs)) t) max_count && leb (how_many w (take j (drop i rs)) t) (of_tool (each_tool (how_many w rs)) t))
      (λ t p q. rw (
        own t p q,
        le-leb (how_many w rs t) max_count (omega (arith, how_many-few w t rs)),
        le-leb (how_many w (take j (drop i rs)) t) (how_many w rs t) (how_many-part w t rs i j),
      ))

  own_replaced : (new : Rows) (i : ℕ) → replaced w (take (length new) (drop i rs)) new (each_tool (how_many w rs)) ≡ each_tool (how_many w (put_at rs i new))
  own_replaced new i =
      each_same (λ t. of_tool (each_tool (how_many w rs)) t - how_many w (take (length new) (drop i rs)) t + how_many w new t) (how_many w (put_at rs i new))
      (λ t p q. ap (λ (m : ℕ). m - how_many w (take (length new) (drop i rs)) t + how_many w new t) (own t p q) ∙ how_many-put w t rs new i)

-- ---- an edit of rows that stand whole

module _ (rs : Rows) (k : ℕ) (s : Span Command State) where
  pub old_rows_lem : old_rows (all_hold rs) k s ≡ take (length s.rows) (drop (k - 1) rs)
  unfolding old_rows
  old_rows_lem = whole_part rs (k - 1) (length s.rows)

  pub own_fit : length rs ≤ max_lines → counts_fit (old_rows (all_hold rs) k s) (counts_of rs) ≡ true
  unfolding counts_fit counts_of
  own_fit few = rw (old_rows_lem, own_way hits rs (k - 1) (length s.rows) few, own_way routs rs (k - 1) (length s.rows) few)

  pub own_after : counts_after (old_rows (all_hold rs) k s) s.rows (counts_of rs) ≡ counts_of (put_at rs (k - 1) s.rows)
  unfolding counts_after counts_of
  own_after = rw old_rows_lem (ap₂ (λ (h r : List ℕ). record { hits = h; routs = r }) (own_replaced hits rs s.rows (k - 1)) (own_replaced routs rs s.rows (k - 1)))
