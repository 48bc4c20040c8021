-- Counts with and without the numbers of rows: a file's rows counted, and new rows in the place of old ones.
use mathlib.Core.Path.{◌≡◌, refl, ap, ap₂, ◌∙◌}
use mathlib.Core.Bool.{Bool, true, false, ◌&&◌}
use mathlib.Core.List.{List, []}
use Prim.Native.Nat.{ℕ, ◌+◌, ◌-◌, ◌≤◌}
use native.Mathlib.Omega.{arith}
use borrow.Author.Tests.{leb-true}
use lib.Dec.{leb}
use lib.ListN.{length}
use Rattle.std.specs.Prelude.{Result, Ok, is_ok}
use Rattle.lists.proofs.Choice.{both}
use Rattle.rules.specs.declared.Way.{Way}
use Rattle.rules.specs.declared.Counts.{Counts}
use Rattle.rules.specs.Numbers.{max_tool, max_lines}
use Rattle.rules.specs.Rows.{table_numbers}
use Rattle.rules.specs.Reading.{Rows}
use Rattle.rules.specs.Counting.{each_tool, of_tool, max_count, hits, routs, how_many, counts_of, no_counts, way_fits, counts_fit, replaced, counts_after}
use Rattle.laws.proofs.EachTool.{of_each, each_same, each_says, all_same}
use Rattle.laws.proofs.HowMany.{how_many-few}
use Rattle.tally.specs.Standing.{standing, max_counted, raised_by, more, with_rows, fewer, holds_rows, holds_all, without_rows}
use Rattle.tally.proofs.Standing.{standing_rows, raised_all}

-- ---- one way

module _ (w : Way) (rs : Rows) (c : List ℕ) where
  more_rows : ((t : ℕ) → 1 ≤ t → t ≤ max_tool → of_tool c t + how_many w rs t ≤ max_counted)
      → more w (table_numbers rs) c ≡ each_tool (λ t. of_tool c t + how_many w rs t)
  more_rows h =
      each_same (λ t. raised_by (standing w (table_numbers rs) t) (of_tool c t)) (λ t. of_tool c t + how_many w rs t)
      (λ t p q. ap (λ (m : ℕ). raised_by m (of_tool c t)) (standing_rows w t p q rs) ∙ raised_all (how_many w rs t) (of_tool c t) (h t p q))

  fewer_rows : fewer w (table_numbers rs) c ≡ each_tool (λ t. of_tool c t - how_many w rs t)
  fewer_rows =
      each_same (λ t. of_tool c t - standing w (table_numbers rs) t) (λ t. of_tool c t - how_many w rs t)
      (λ t p q. ap (λ (m : ℕ). of_tool c t - m) (standing_rows w t p q rs))

  holds_is : holds_rows w (table_numbers rs) c ≡ way_fits w rs c
  unfolding way_fits
  holds_is =
      all_same (λ t. leb (of_tool c t) max_count && leb (standing w (table_numbers rs) t) (of_tool c t))
      (λ t. leb (of_tool c t) max_count && leb (how_many w rs t) (of_tool c t))
      (λ t p q. ap (λ (m : ℕ). leb (of_tool c t) max_count && leb m (of_tool c t)) (standing_rows w t p q rs))

  way_says : way_fits w rs c ≡ true → (t : ℕ) → 1 ≤ t → t ≤ max_tool → (of_tool c t ≤ max_count) × (how_many w rs t ≤ of_tool c t)
  unfolding way_fits
  way_says h t p q =
      let b = both (leb (of_tool c t) max_count) (leb (how_many w rs t) (of_tool c t))
      (each_says (λ t. leb (of_tool c t) max_count && leb (how_many w rs t) (of_tool c t)) h t p q) in
      (leb-true (of_tool c t) max_count b.0, leb-true (how_many w rs t) (of_tool c t) b.1)

-- the rows of a file, counted from none
from_none : (w : Way) (rs : Rows) → length rs ≤ max_lines → more w (table_numbers rs) (each_tool (how_many w [])) ≡ each_tool (how_many w rs)
unfolding how_many
from_none w rs few =
    let none : (t : ℕ) → 1 ≤ t → t ≤ max_tool → of_tool (each_tool (how_many w [])) t ≡ 0 = λ t p q. of_each (how_many w []) t p q in
    more_rows w rs (each_tool (how_many w [])) (λ t p q. omega (arith, none t p q, how_many-few w t rs))
    ∙ each_same (λ t. of_tool (each_tool (how_many w [])) t + how_many w rs t) (how_many w rs) (λ t p q. omega (arith, none t p q))

-- new rows in the place of old ones
in_place : (w : Way) (old new : Rows) (c : List ℕ) → way_fits w old c ≡ true → length new ≤ max_lines
    → more w (table_numbers new) (fewer w (table_numbers old) c) ≡ replaced w old new c
in_place w old new c h few =
    let left : (t : ℕ) → 1 ≤ t → t ≤ max_tool → of_tool (fewer w (table_numbers old) c) t ≡ of_tool c t - how_many w old t
    = λ t p q. ap (λ (z : List ℕ). of_tool z t) (fewer_rows w old c) ∙ of_each (λ t. of_tool c t - how_many w old t) t p q in
    more_rows w new (fewer w (table_numbers old) c) (λ t p q. omega (arith, left t p q, (way_says w old c h t p q).0, how_many-few w t new))
    ∙ each_same (λ t. of_tool (fewer w (table_numbers old) c) t + how_many w new t) (λ t. of_tool c t - how_many w old t + how_many w new t)
    (λ t p q. ap (λ (m : ℕ). m + how_many w new t) (left t p q))

-- ---- hits and routs together

pub rows_counted : (rs : Rows) → length rs ≤ max_lines → with_rows no_counts (table_numbers rs) ≡ counts_of rs
unfolding with_rows counts_of
rows_counted rs few = ap₂ (λ (h r : List ℕ). record { hits = h; routs = r }) (from_none hits rs few) (from_none routs rs few)

fit_is : (old : Rows) (c : Counts) → holds_all c (table_numbers old) ≡ counts_fit old c
unfolding counts_fit
fit_is old c = ap₂ ◌&&◌ (holds_is hits old c.hits) (holds_is routs old c.routs)

pub fits_is : (old : Rows) (c : Counts) → is_ok (without_rows c (table_numbers old)) ≡ counts_fit old c
unfolding without_rows
fits_is old c = by (holds_all c (table_numbers old)) refl ∙ fit_is old c
  where
    by : (b : Bool) → holds_all c (table_numbers old) ≡ b → is_ok (without_rows c (table_numbers old)) ≡ holds_all c (table_numbers old)
    by true e = rw e
    by false e = rw e

pub counts_replaced : (old new : Rows) (c : Counts) → counts_fit old c ≡ true → length new ≤ max_lines
    → (left : Counts) → without_rows c (table_numbers old) ≡ Ok left → with_rows left (table_numbers new) ≡ counts_after old new c
unfolding with_rows without_rows counts_after counts_fit
counts_replaced old new c h few left e =
    let taken : ◌≡◌ {A = Result Counts Counts} (Ok (record { hits = fewer hits (table_numbers old) c.hits; routs = fewer routs (table_numbers old) c.routs })) (Ok left)
    = rw (fit_is old c, h) at e in
    let same : ◌≡◌ {A = Counts} (record { hits = fewer hits (table_numbers old) c.hits; routs = fewer routs (table_numbers old) c.routs }) left = cc in
    let b = both (way_fits hits old c.hits) (way_fits routs old c.routs) h in
    rw (← same)
    (ap₂ (λ (x y : List ℕ). record { hits = x; routs = y }) (in_place hits old new c.hits b.0 few) (in_place routs old new c.routs b.1 few))
