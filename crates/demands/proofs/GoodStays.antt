-- An accepted edit of a good table leaves a good table: its new rows follow, with the old ones around them, they end as
-- the rules ask, and each is in range, so it is found whole.
use mathlib.Core.Path.{◌≡◌, sym, ap, ◌∙◌, subst₂}
use mathlib.Core.Bool.{true}
use mathlib.Core.List.{List, ◌∷◌, ◌++◌}
use Prim.Native.Nat.{ℕ, ◌+◌, ◌-◌, ◌*◌, ◌≤◌}
use native.Mathlib.Omega.{arith}
use lib.IntN.{ℤ}
use lib.ListN.{length, take, drop}
use Rattle.lists.specs.Put.{put_at}
use Rattle.lists.proofs.Around.{around_line}
use Rattle.runs.specs.Machine.{accepted, Row, all_hold, Span, last_of, Follows, StepBy}
use Rattle.runs.specs.Edits.{edit_to}
use Rattle.runs.proofs.Given.{here_met}
use Rattle.rules.specs.declared.Command.{Command}
use Rattle.rules.specs.declared.State.{State}
use Rattle.rules.specs.declared.Revision.{Revision}
use Rattle.rules.specs.declared.Counts.{Counts}
use Rattle.rules.specs.Refusals.{bad_table, ends_too_soon}
use Rattle.rules.specs.Numbers.{max_lines}
use Rattle.rules.specs.Ranges.{CommandOk}
use Rattle.rules.specs.State.{start, taken, has_ended, same_state}
use Rattle.rules.specs.Rows.{row_width, table_numbers, entries_of, Good}
use Rattle.rules.specs.Reading.{Rows}
use Rattle.rules.specs.Counting.{counts_fit}
use Rattle.rules.specs.Editing.{no_line_end, edit_rows, edit_of, old_rows, edit_leaves}
use Rattle.laws.proofs.Keeps.{start_ok}
use Rattle.laws.proofs.Sizes.{line_says}
use Rattle.laws.proofs.InRange.{RowsOk, rows_append, rows_first, rows_rest, rows_take, rows_drop, last_ok, said_ok, redone_ok}
use Rattle.answers.proofs.GoodTables.{rows_table, good_whole}
use Rattle.answers.proofs.EditSpan.{edit_tests, edit_done}
use Rattle.demands.specs.GoodStays.{GoodStays}
use Rattle.demands.proofs.EditRows.{same_eq, same_refl, edit_given, edit_table}
use Rattle.demands.proofs.EditTable.{edit_writes, new_length}

-- ---- the new rows are in range

module _ (os : Rows) (r : Row Command State) (ys : Rows) (k : ℕ) (e : k ≡ length os + 1) (c : Command) (fine : CommandOk c) (s : Span Command State)
    (ok : RowsOk (os ++ (r ∷ ys))) (h : edit_to taken same_state has_ended bad_table ends_too_soon start (os ++ (r ∷ ys)) k c ≡ accepted s) where
  made_ok : RowsOk (put_at (os ++ (r ∷ ys)) (length os) s.rows)
  made_ok =
      let m = here_met taken same_state has_ended bad_table ends_too_soon same_eq same_refl start os r ys k e c s h in
      let rest = rows_rest os (r ∷ ys) ok in
      let new : RowsOk s.rows
      = redone_ok m.redone (last_ok start os start_ok (rows_first os (r ∷ ys) ok)) (fine, rest.1, rest.2) in
      rows_append (take (length os) (os ++ (r ∷ ys)) ++ s.rows) (drop (length os + length s.rows) (os ++ (r ∷ ys)))
      (rows_append (take (length os) (os ++ (r ∷ ys))) s.rows (rows_take (length os) (os ++ (r ∷ ys)) ok) new)
      (rows_drop (length os + length s.rows) (os ++ (r ∷ ys)) ok)

pub edit_ok : (rev : Revision) (rs : Rows) (k : ℕ) → 1 ≤ k → k ≤ length rs → (l : List ℕ) (s : Span Command State) → RowsOk rs → edit_rows rev (all_hold rs) k l ≡ accepted s
    → RowsOk (put_at rs (k - 1) s.rows)
edit_ok rev rs k a b l s ok h =
    let g = edit_given rev rs k a b l s h in
    around_line (λ z j. RowsOk z → edit_to taken same_state has_ended bad_table ends_too_soon start z k g.command ≡ accepted s → RowsOk (put_at z j s.rows)) rs k a b
    (λ os r ys e. made_ok os r ys k e g.command (said_ok rev l g.command g.said) s) ok g.verdict

-- ---- the table that is left

module _ (rev : Revision) (rs : Rows) (rest : List ℤ) (ok : RowsOk rs) (few : length rs ≤ max_lines) (follows : Follows (StepBy taken) start 0 rs) (ends : has_ended (last_of start rs) ≡ true)
    (k : ℕ) (a : 1 ≤ k) (b : k ≤ length rs) (l : List ℕ) (hl : no_line_end l ≡ true) (s : Span Command State) (h : edit_rows rev (all_hold rs) k l ≡ accepted s) (c : Counts) (f : counts_fit (old_rows (all_hold rs) k s) c ≡ true) where
  left_good : Good (edit_leaves rev (table_numbers rs ++ rest) (length rs) k l c) (length rs) (put_at rs (k - 1) s.rows)
  left_good =
      let new : Rows = put_at rs (k - 1) s.rows in
      let n : length new ≡ length rs = new_length rev rs rest ok few k a b l hl s h in
      let g = edit_table rev rs k a b l s h follows ends in
      subst₂ (λ (u : List ℤ) (j : ℕ). Good u j new)
      (sym (edit_writes rev rs rest ok few k a b l hl s h c f)) n
      (rows_table new rest (edit_ok rev rs k a b l s ok h) (omega (arith, n)) g.follows g.ends)

-- an accepted edit of a good table, with its span; c are the counts handed in
module _ (rev : Revision) (t : List ℤ) (n : ℕ) (rs : Rows) (g : Good t n rs) (k : ℕ) (l : List ℕ) (c : Counts) where
  pub record GoodEdit (s : Span Command State) : Type 0 where
    pub from : 1 ≤ k
    pub upto : k ≤ length rs
    pub made : edit_rows rev (all_hold rs) k l ≡ accepted s
    pub good : Good (edit_leaves rev t n k l c) n (put_at rs (k - 1) s.rows)
    -- and what stood after the rows stands there
    pub numbers : edit_leaves rev t n k l c ≡ table_numbers (put_at rs (k - 1) s.rows) ++ drop (row_width * n) t

  pub edit_good : (s : Span Command State) → edit_of rev t n k l ≡ accepted s → counts_fit (old_rows (entries_of n t) k s) c ≡ true → GoodEdit s
  edit_good s h f =
      let e = edit_tests rev t n k l s h in
      let w = good_whole t n rs g in
      let p = line_says n k e.line in
      let b : k ≤ length rs = omega (arith, w.count, p.1) in
      let made : edit_rows rev (all_hold rs) k l ≡ accepted s = sym (ap (λ (es : _). edit_rows rev es k l) g.found) ∙ e.made in
      let fits : counts_fit (old_rows (all_hold rs) k s) c ≡ true = sym (ap (λ (es : _). counts_fit (old_rows es k s) c) g.found) ∙ f in
      record {
        from = p.0;
        upto = b;
        made = made;
        good = subst₂ (λ (u : List ℤ) (j : ℕ). Good (edit_leaves rev u j k l c) j (put_at rs (k - 1) s.rows)) (sym w.numbers) w.count
            (left_good rev rs (drop (row_width * n) t) w.rows.within_range w.rows.count g.follows g.ends k p.0 b l e.no_end s made c fits);
        numbers = subst₂ (λ (u : List ℤ) (j : ℕ). edit_leaves rev u j k l c ≡ table_numbers (put_at rs (k - 1) s.rows) ++ drop (row_width * n) t) (sym w.numbers) w.count
            (edit_writes rev rs (drop (row_width * n) t) w.rows.within_range w.rows.count k p.0 b l e.no_end s made c fits);
      }

pub good_stays : GoodStays
good_stays = record {
  stays = λ rev t n w k l c m h.
      let d = edit_done rev t n k l c m h in
      record { rows = put_at w.rows (k - 1) d.span.rows; good = (edit_good rev t n w.rows w.good k l c d.span d.verdict d.fit).good };
}
