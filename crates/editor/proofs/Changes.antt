-- An edit that was asked for: the numbers of its span are those of whole rows before it and of the new rows after it, so the counts
-- lose the old rows' holes and gain the new ones'.
use mathlib.Core.Path.{◌≡◌, sym, ap, ◌∙◌}
use mathlib.Core.List.{List}
use Prim.Native.Nat.{ℕ, ◌+◌, ◌-◌, ◌*◌, ◌≤◌}
use native.Mathlib.Omega.{arith}
use lib.IntN.{ℤ}
use lib.ListN.{length, take, drop, length-drop}
use lib.Seq.{take_at}
use Rattle.std.specs.Prelude.{Result, is_ok, Ok, Err}
use Rattle.rules.specs.Results.{at_line}
use Rattle.lists.specs.Put.{put_at}
use Rattle.lists.proofs.Put.{put_at_lem}
use Rattle.runs.specs.Machine.{Verdict, refused, all_hold, Span}
use Rattle.rules.specs.declared.Command.{Command}
use Rattle.rules.specs.declared.State.{State}
use Rattle.rules.specs.declared.Refusal.{Refusal}
use Rattle.rules.specs.declared.Refused.{Refused}
use Rattle.rules.specs.declared.Revision.{Revision}
use Rattle.rules.specs.declared.Counts.{Counts}
use Rattle.rules.specs.declared.Counted.{Counted}
use Rattle.rules.specs.Refusals.{bad_table}
use Rattle.rules.specs.Answers.{said}
use Rattle.rules.specs.Rows.{row_width, entries_of, table_numbers}
use Rattle.rules.specs.Reading.{Rows}
use Rattle.rules.specs.Counting.{counts_fit}
use Rattle.rules.specs.Editing.{edit_of, meeting_answer, old_rows, edit_counted, edit_answer, edit_leaves, edit_counts}
use Rattle.laws.proofs.Entries.{table_length, entries_length, entries_add, entries_drop, table_whole}
use Rattle.laws.proofs.OldRows.{edit_stood}
use Rattle.tally.specs.Standing.{with_rows, without_rows}
use Rattle.tally.proofs.RowCounts.{fits_is, counts_replaced}
use Rattle.editor.specs.Parts.{new_rows, Met, not_edited}
use Rattle.editor.specs.Edit.{EditIs}

-- ---- the numbers of rows that are whole

-- j rows after i others
abbrev pub numbers_of : List ℤ → ℕ → ℕ → List ℤ
numbers_of t first end = take (end - first) (drop first t)

module _ (t : List ℤ) (n i j : ℕ) (room : row_width * n ≤ length t) (h : i + j ≤ n) where
  some_entries : take j (drop i (entries_of n t)) ≡ entries_of j (drop (row_width * i) t)
  some_entries =
      let e : n - i ≡ j + (n - i - j) = omega arith in
      ap (take j) (entries_drop n t i (omega arith) ∙ ap (λ (k : ℕ). entries_of k (drop (row_width * i) t)) e ∙ entries_add j (n - i - j) (drop (row_width * i) t))
      ∙ take_at (entries_of j (drop (row_width * i) t)) (entries_of (n - i - j) (drop (row_width * j) (drop (row_width * i) t))) j (entries_length j (drop (row_width * i) t))

  whole_numbers : (rs : Rows) → take j (drop i (entries_of n t)) ≡ all_hold rs → take (row_width * j) (drop (row_width * i) t) ≡ table_numbers rs
  whole_numbers rs e =
      let w = table_whole j (drop (row_width * i) t) rs (sym some_entries ∙ e) (omega (arith, length-drop (row_width * i) t)) in
      ap (take (row_width * j)) w.0 ∙ take_at (table_numbers rs) (drop (row_width * j) (drop (row_width * i) t)) (row_width * j) (omega (arith, table_length rs, w.2))

module _ {t : List ℤ} {n k : ℕ} {v : Verdict (Span Command State) Refusal} {m : ℕ} {c : Command} {q : State} (w : Met t n k v m c q) where
  wide : row_width * m - row_width * (k - 1) ≡ row_width * length w.span.rows
  wide = omega (arith, w.counted)

  old_numbers : take (length w.span.rows) (drop (k - 1) (entries_of n t)) ≡ all_hold (old_rows (entries_of n t) k w.span)
      → numbers_of t (row_width * (k - 1)) (row_width * m) ≡ table_numbers (old_rows (entries_of n t) k w.span)
  old_numbers stood =
      ap (λ (z : ℕ). take z (drop (row_width * (k - 1)) t)) wide
      ∙ whole_numbers t n (k - 1) (length w.span.rows) w.found.room (omega (arith, w.counted, w.upto)) (old_rows (entries_of n t) k w.span) stood

  new_numbers : {t' : List ℤ} → t' ≡ put_at t (row_width * (k - 1)) (table_numbers w.span.rows)
      → numbers_of t' (row_width * (k - 1)) (row_width * m) ≡ table_numbers w.span.rows
  new_numbers {t'} e =
      let l : row_width * m - row_width * (k - 1) ≡ length (table_numbers w.span.rows) = omega (arith, w.counted, table_length w.span.rows) in
      ap (λ (z : ℕ). take z (drop (row_width * (k - 1)) t')) l
      ∙ ap (λ (u : List ℤ). take (length (table_numbers w.span.rows)) (drop (row_width * (k - 1)) u)) e
      ∙ put_at_lem t (row_width * (k - 1)) (table_numbers w.span.rows) (omega (arith, w.counted, w.upto, w.found.room))

-- ---- the edit

module _ (rev : Revision) (t : List ℤ) (n k : ℕ) (l : List ℕ) where
  pub told_refused : (r : Refused) → edit_of rev t n k l ≡ refused r.refusal r.line → said (Err r) ≡ said (meeting_answer rev t n k l)
  unfolding meeting_answer
  told_refused r h = rw h

  pub told_met : (m : ℕ) (c : Command) (q : State) → Met t n k (edit_of rev t n k l) m c q → said (Ok m) ≡ said (meeting_answer rev t n k l)
  unfolding meeting_answer
  told_met m c q w = rw (w.verdict, w.meets)

  module _ (counts : Counts) where
    pub edit_refused : {a : Counted} (r : Refused) → a ≡ not_edited r counts → edit_of rev t n k l ≡ refused r.refusal r.line → EditIs rev t n k l counts a t
    unfolding edit_answer edit_leaves edit_counts edit_counted
    edit_refused r e h = rw e (record { answer = rw h; leaves = rw h; counts = rw h })

    module _ (m : ℕ) (c : Command) (q : State) (w : Met t n k (edit_of rev t n k l) m c q) where
      taken_is : without_rows counts (numbers_of t (row_width * (k - 1)) (row_width * m)) ≡ without_rows counts (table_numbers (old_rows (entries_of n t) k w.span))
      taken_is = ap (without_rows counts) (old_numbers w (edit_stood rev t n k l w.span w.verdict))

      fit : {o : Result Counts Counts} → without_rows counts (numbers_of t (row_width * (k - 1)) (row_width * m)) ≡ o → is_ok o ≡ counts_fit (old_rows (entries_of n t) k w.span) counts
      fit e = ap is_ok (sym e ∙ taken_is) ∙ fits_is (old_rows (entries_of n t) k w.span) counts

      pub edit_unfit : {a : Counted} {x : Counts} → a ≡ not_edited (at_line bad_table 0) counts
          → without_rows counts (numbers_of t (row_width * (k - 1)) (row_width * m)) ≡ Err x → EditIs rev t n k l counts a t
      unfolding edit_answer edit_leaves edit_counts edit_counted
      edit_unfit z e = let f = sym (fit e) in rw z (record { answer = rw (w.verdict, f); leaves = rw (w.verdict, f); counts = rw (w.verdict, f) })

      pub edit_done : {left after : Counts} {t' : List ℤ} → without_rows counts (numbers_of t (row_width * (k - 1)) (row_width * m)) ≡ Ok left
          → t' ≡ put_at t (row_width * (k - 1)) (table_numbers (new_rows (entries_of n t) k m c q))
          → after ≡ with_rows left (numbers_of t' (row_width * (k - 1)) (row_width * m))
          → EditIs rev t n k l counts (record { answer = Ok m; counts = after }) t'
      unfolding edit_answer edit_leaves edit_counts edit_counted
      edit_done {left} {t' = t'} e g z =
          let f = sym (fit e) in
          let h : t' ≡ put_at t (row_width * (k - 1)) (table_numbers w.span.rows) = g ∙ rw w.rows in
          record {
            answer = rw (w.verdict, f, w.meets);
            leaves = rw (w.verdict, f) h;
            counts = z ∙ rw (w.verdict, f, new_numbers w h)
                (counts_replaced (old_rows (entries_of n t) k w.span) w.span.rows counts f (omega (arith, w.counted, w.upto, w.found.few)) left (sym taken_is ∙ e));
          }
