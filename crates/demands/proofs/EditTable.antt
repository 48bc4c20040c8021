-- An edit in the numbers of a table: the rows of its span are written in place of as many old ones, so the numbers are
-- those of the new rows, and rows, numbers and holes outside the span are as they were.
use mathlib.Core.Path.{◌≡◌, refl, sym, ap, ◌∙◌}
use mathlib.Core.Bool.{Bool, true, false, cond}
use mathlib.Core.List.{List, ◌++◌, append_assoc}
use Prim.Native.Nat.{ℕ, ◌+◌, ◌-◌, ◌*◌, ◌≤◌}
use native.Mathlib.Omega.{arith}
use lib.IntN.{ℤ}
use lib.ListN.{length, take, drop, length-append, take-append-drop}
use lib.Seq.{take_at, drop_at, length-take-le}
use Rattle.std.specs.Prelude.{Ok, Err}
use Rattle.lists.specs.Put.{put_at}
use Rattle.lists.proofs.Put.{put_length, put_before, put_after}
use Rattle.runs.specs.Machine.{accepted, refused, Entry, all_hold, Span}
use Rattle.runs.specs.Agreement.{FirstAgreement}
use Rattle.rules.specs.declared.Command.{Command}
use Rattle.rules.specs.declared.State.{State}
use Rattle.rules.specs.declared.Refusal.{Refusal}
use Rattle.rules.specs.declared.Revision.{Revision}
use Rattle.rules.specs.declared.Counts.{Counts}
use Rattle.rules.specs.Results.{refused_at}
use Rattle.rules.specs.Refusals.{no_such_line}
use Rattle.rules.specs.Numbers.{max_lines}
use Rattle.rules.specs.State.{start}
use Rattle.rules.specs.Rows.{row_width, table_numbers, Sizes}
use Rattle.rules.specs.Reading.{Rows}
use Rattle.rules.specs.Counting.{counts_of, counts_fit}
use Rattle.rules.specs.Editing.{is_line, no_line_end, edit_rows, edit_of, old_rows, edit_counted, edit_answer, edit_leaves, edit_counts}
use Rattle.rules.specs.Asking.{hole_in, hole_answer}
use Rattle.laws.proofs.Sizes.{line_says, line_is, sizes_fit_lem}
use Rattle.laws.proofs.InRange.{RowsOk}
use Rattle.laws.proofs.Entries.{table_length, table_append, entries_table}
use Rattle.answers.proofs.LineHoles.{hole_first, hole_rest}
use Rattle.answers.proofs.EditSpan.{counted_fit, counted_refused}
use Rattle.answers.proofs.OwnCounts.{own_fit, own_after}
use Rattle.demands.specs.Demand3.{SameOutside}
use Rattle.demands.proofs.EditRows.{edit_agreement, edit_counted_lem}

cond_same {ℓ} : {A : Type ℓ} (t : Bool) {a b : A} (c : A) → (t ≡ true → a ≡ b) → cond t a c ≡ cond t b c
cond_same true c f = f refl
cond_same false c f = refl

-- ---- rows in the place of others

module _ (rs : Rows) (rest : List ℤ) (j : ℕ) (h : j ≤ length rs) where
  parted : table_numbers rs ++ rest ≡ table_numbers (take j rs) ++ (table_numbers (drop j rs) ++ rest)
  parted =
      ap (λ (z : Rows). table_numbers z ++ rest) (sym (take-append-drop j rs)) ∙ ap (λ (z : List ℤ). z ++ rest) (table_append (take j rs) (drop j rs))
      ∙ append_assoc (table_numbers (take j rs)) (table_numbers (drop j rs)) rest

  first_length : length (table_numbers (take j rs)) ≡ row_width * j
  first_length = table_length (take j rs) ∙ ap (λ (n : ℕ). row_width * n) (length-take-le j rs h)

  take_table : take (row_width * j) (table_numbers rs ++ rest) ≡ table_numbers (take j rs)
  take_table = ap (take (row_width * j)) parted ∙ take_at (table_numbers (take j rs)) (table_numbers (drop j rs) ++ rest) (row_width * j) first_length

  drop_table : drop (row_width * j) (table_numbers rs ++ rest) ≡ table_numbers (drop j rs) ++ rest
  drop_table = ap (drop (row_width * j)) parted ∙ drop_at (table_numbers (take j rs)) (table_numbers (drop j rs) ++ rest) (row_width * j) first_length

pub table_put : (rs ns : Rows) (rest : List ℤ) (j : ℕ) → j + length ns ≤ length rs
    → put_at (table_numbers rs ++ rest) (row_width * j) (table_numbers ns) ≡ table_numbers (put_at rs j ns) ++ rest
table_put rs ns rest j h =
    let n : row_width * j + length (table_numbers ns) ≡ row_width * (j + length ns) = omega (arith, table_length ns) in
    rw (take_table rs rest j (omega arith), n, drop_table rs rest (j + length ns) h)
    (sym (append_assoc (table_numbers (take j rs) ++ table_numbers ns) (table_numbers (drop (j + length ns) rs)) rest)
    ∙ ap (λ (z : List ℤ). z ++ table_numbers (drop (j + length ns) rs) ++ rest) (sym (table_append (take j rs) ns))
    ∙ ap (λ (z : List ℤ). z ++ rest) (sym (table_append (take j rs ++ ns) (drop (j + length ns) rs))))

-- as many rows in the place of all
pub table_again : (rs ns : Rows) (rest : List ℤ) → length ns ≡ length rs → put_at (table_numbers rs ++ rest) 0 (table_numbers ns) ≡ table_numbers ns ++ rest
table_again rs ns rest e =
    ap (λ (z : List ℤ). table_numbers ns ++ z)
    (drop_at (table_numbers rs) rest (0 + length (table_numbers ns)) (omega (arith, table_length rs, table_length ns)))

-- ---- the edit of line k in a table of whole rows

module _ (rev : Revision) (rs : Rows) (rest : List ℤ) (ok : RowsOk rs) (few : length rs ≤ max_lines) (k : ℕ) (a : 1 ≤ k) (b : k ≤ length rs) (l : List ℕ) (hl : no_line_end l ≡ true) where
  sizes : (ns : Rows) → length ns ≡ length rs → Sizes (table_numbers ns ++ rest) (length rs)
  sizes ns e = record { some = omega arith; few = few; room = omega (arith, table_length ns, length-append (table_numbers ns) rest) }

  edit_of_lem : edit_of rev (table_numbers rs ++ rest) (length rs) k l ≡ edit_rows rev (all_hold rs) k l
  unfolding edit_of
  edit_of_lem = rw (sizes_fit_lem (table_numbers rs ++ rest) (length rs) (sizes rs refl), line_is (length rs) k a b, hl, entries_table rs rest ok)

  pub edit_refuses : (c : Counts) (e : Refusal) (i : ℕ) → edit_rows rev (all_hold rs) k l ≡ refused e i
      → (edit_answer rev (table_numbers rs ++ rest) (length rs) k l c ≡ refused_at e i) × (edit_leaves rev (table_numbers rs ++ rest) (length rs) k l c ≡ table_numbers rs ++ rest)
      × (edit_counts rev (table_numbers rs ++ rest) (length rs) k l c ≡ c)
  unfolding edit_answer edit_leaves edit_counts
  edit_refuses c e i h =
      let r = counted_refused rev (table_numbers rs ++ rest) (length rs) k l c e i (edit_of_lem ∙ h) in
      (rw r, rw r, rw r)

  module _ (s : Span Command State) (h : edit_rows rev (all_hold rs) k l ≡ accepted s) where
    meets : FirstAgreement start rs (put_at rs (k - 1) s.rows) k s.meeting
    meets = edit_agreement rev rs k a b l s h

    counted : s.meeting ≡ k - 1 + length s.rows
    counted = edit_counted_lem rev rs k a b l s h

    inside : k - 1 + length s.rows ≤ length rs
    inside = omega (arith, counted, meets.upto)

    pub new_length : length (put_at rs (k - 1) s.rows) ≡ length rs
    new_length = put_length rs (k - 1) s.rows inside

    -- the counts c handed in, which fit
    module _ (c : Counts) (f : counts_fit (old_rows (all_hold rs) k s) c ≡ true) where
      pub counted_accepts : edit_counted rev (table_numbers rs ++ rest) (length rs) k l c ≡ accepted s
      counted_accepts =
          counted_fit rev (table_numbers rs ++ rest) (length rs) k l c s (edit_of_lem ∙ h)
          (ap (λ (es : List (Entry Command State)). counts_fit (old_rows es k s) c) (entries_table rs rest ok) ∙ f)

      pub edit_accepts : edit_answer rev (table_numbers rs ++ rest) (length rs) k l c ≡ Ok s.meeting
      unfolding edit_answer
      edit_accepts = rw counted_accepts

      pub edit_writes : edit_leaves rev (table_numbers rs ++ rest) (length rs) k l c ≡ table_numbers (put_at rs (k - 1) s.rows) ++ rest
      unfolding edit_leaves
      edit_writes = rw counted_accepts (table_put rs s.rows rest (k - 1) inside)

    -- the rows' own counts do
    pub own_fits : counts_fit (old_rows (all_hold rs) k s) (counts_of rs) ≡ true
    own_fits = own_fit rs k s few

    pub own_counts : edit_counts rev (table_numbers rs ++ rest) (length rs) k l (counts_of rs) ≡ counts_of (put_at rs (k - 1) s.rows)
    unfolding edit_counts
    own_counts = rw (counted_accepts (counts_of rs) own_fits, entries_table rs rest ok) (own_after rs k s)

    -- ---- outside the span

    hole_answer_lem : (ns : Rows) → length ns ≡ length rs → RowsOk ns → (j : ℕ)
        → hole_answer (table_numbers ns ++ rest) (length rs) j ≡ cond (is_line (length rs) j) (hole_in (all_hold ns) j) (refused_at no_such_line 0)
    unfolding hole_answer
    hole_answer_lem ns e g j =
        rw (sizes_fit_lem (table_numbers ns ++ rest) (length rs) (sizes ns e), rw e at (entries_table ns rest g))

    module _ (g : RowsOk (put_at rs (k - 1) s.rows)) where
      same_hole_lem : (j : ℕ) → (1 ≤ j → j ≤ length rs → hole_in (all_hold (put_at rs (k - 1) s.rows)) j ≡ hole_in (all_hold rs) j)
          → hole_answer (table_numbers (put_at rs (k - 1) s.rows) ++ rest) (length rs) j ≡ hole_answer (table_numbers rs ++ rest) (length rs) j
      same_hole_lem j f =
          hole_answer_lem (put_at rs (k - 1) s.rows) new_length g j
          ∙ cond_same (is_line (length rs) j) (refused_at no_such_line 0) (λ t. let p = line_says (length rs) j t in f p.0 p.1)
          ∙ sym (hole_answer_lem rs refl ok j)

      pub same_outside : SameOutside (table_numbers rs ++ rest) (table_numbers (put_at rs (k - 1) s.rows) ++ rest) (length rs) k s.meeting
      same_outside =
          let first : take (k - 1) (put_at rs (k - 1) s.rows) ≡ take (k - 1) rs = put_before rs (k - 1) s.rows (omega arith) in
          let after : drop s.meeting (put_at rs (k - 1) s.rows) ≡ drop s.meeting rs
          = put_after rs (k - 1) s.meeting s.rows (omega (arith, counted)) meets.upto in
          record {
            numbers_before =
                take_table (put_at rs (k - 1) s.rows) rest (k - 1) (omega (arith, new_length)) ∙ ap table_numbers first
                ∙ sym (take_table rs rest (k - 1) (omega arith));
            numbers_after =
                drop_table (put_at rs (k - 1) s.rows) rest s.meeting (omega (arith, new_length, meets.upto)) ∙ ap (λ (z : Rows). table_numbers z ++ rest) after
                ∙ sym (drop_table rs rest s.meeting meets.upto);
            holes_before = λ j n. same_hole_lem j (λ p q. hole_first rs (put_at rs (k - 1) s.rows) new_length j p q (k - 1) first (omega arith));
            holes_after = λ j n. same_hole_lem j (λ p q. hole_rest rs (put_at rs (k - 1) s.rows) new_length j p q s.meeting after (sym (meets.agrees (omega arith))) n);
          }
