-- What reading, editing and writing leave of what is lent. An answer and what it leaves come from one verdict: on a refusal
-- nothing is put anywhere, on success a list is put in one place, inside what is lent, and that leaves the rest.
use mathlib.Core.Path.{◌≡◌, refl, sym, ap, ◌∙◌, subst, subst₂}
use mathlib.Core.Bool.{Bool, true, false, cond, false≢true}
use mathlib.Core.List.{List}
use Prim.Native.Nat.{ℕ, ◌+◌, ◌-◌, ◌*◌, ◌≤◌}
use native.Mathlib.Omega.{arith}
use borrow.Author.Tests.{leb-true}
use lib.Dec.{leb}
use lib.IntN.{ℤ}
use lib.ListN.{length, take, drop}
use Rattle.std.specs.Prelude.{Ok}
use Rattle.rules.proofs.Said.{refused_same}
use Rattle.lists.specs.Put.{put_at}
use Rattle.lists.proofs.Put.{put_length, put_before, put_after}
use Rattle.runs.specs.Machine.{Verdict, accepted, refused, on_verdict, Span}
use Rattle.rules.specs.declared.Command.{Command}
use Rattle.rules.specs.declared.State.{State}
use Rattle.lists.proofs.Choice.{cond_all}
use Rattle.rules.specs.declared.Refusal.{Refusal}
use Rattle.rules.specs.declared.Revision.{Revision}
use Rattle.rules.specs.declared.Counts.{Counts}
use Rattle.rules.specs.Results.{refused_at}
use Rattle.rules.specs.Refusals.{refusal_number, refusal_column, no_column, forbidden_byte, out_of_range, no_room, bad_table}
use Rattle.rules.specs.Numbers.{max_lines, max_line}
use Rattle.rules.specs.Rows.{row_width, table_numbers, entries_of}
use Rattle.rules.specs.Reading.{Rows, file_of, has_room, in_room, with_rows, read_answer, read_leaves}
use Rattle.rules.specs.Counting.{counts_of, no_counts, read_counts, counts_fit, counts_after}
use Rattle.rules.specs.Editing.{edit_of, meeting_of, leaves_of, old_rows, edit_counted, edit_answer, edit_leaves, edit_counts}
use Rattle.rules.specs.Writing.{longest_line, text_of_rows, rows_of, in_block, with_text, write_answer, write_leaves}
use Rattle.laws.proofs.Sizes.{sizes_say, line_says, room_says}
use Rattle.laws.proofs.Entries.{table_length}
use Rattle.obeys.proofs.Files.{refused_says}
use Rattle.round.proofs.Files.{text_length}
use Rattle.answers.proofs.Refused.{Told, faulty_told, edit_told, rows_told}
use Rattle.answers.proofs.AcceptedFile.{read_done, read_writes, file_few}
use Rattle.answers.proofs.GoodTables.{good_whole}
use Rattle.answers.proofs.WrittenTable.{rows_good, write_done, write_writes}
use Rattle.answers.proofs.EditSpan.{SpanOf, edit_tests, edit_done, counted_fit, counted_says}
use Rattle.answers.proofs.Small.{span_of}
use Rattle.demands.specs.Demand1.{among, OnLine, column_refusals, ColumnOnly, read_refusals, edit_refusals, write_refusals, ReadLeavesRest, EditLeavesRest, WriteLeavesRest}

-- ---- reading

-- a refusal that names no column, and one that does
no_column_lem : (e : Refusal) → among column_refusals (refusal_number e) ≡ false → refusal_column e ≡ no_column → ColumnOnly e
no_column_lem e h c = record { named = λ k. absurd (false≢true (sym h ∙ k)); nought = λ _. c }

in_column : (e : Refusal) → among column_refusals (refusal_number e) ≡ true → 1 ≤ refusal_column e → refusal_column e ≤ max_line → ColumnOnly e
in_column e h p q = record { named = λ _. (p, q); nought = λ k. absurd (false≢true (sym k ∙ h)) }

-- a refusal that reading gives
abbrev InRead : Refusal → ℕ → Type 0
InRead e i = (among read_refusals (refusal_number e) ≡ true) × (i ≤ max_lines + 1) × ColumnOnly e

file_refusals : (rev : Revision) (bs : List ℕ) (e : Refusal) (i : ℕ) → file_of rev bs ≡ refused e i → InRead e i
file_refusals rev bs e i h =
    faulty_told InRead (plain _ refl refl refl 0 (omega arith))
    (λ j n. record {
      line = record {
        long = plain _ refl refl refl j n;
        byte = λ c p q. (refl, n, in_column (forbidden_byte c) refl p q);
        form = plain _ refl refl refl j n;
        range = λ c p q. (refl, n, in_column (out_of_range c) refl p q);
      };
      step = record {
        phase = plain _ refl refl refl j n;
        motion = plain _ refl refl refl j n;
        again = plain _ refl refl refl j n;
        undeclared = plain _ refl refl refl j n;
        unselected = plain _ refl refl refl j n;
        arc = plain _ refl refl refl j n;
      };
      many = plain _ refl refl refl j n;
      unended = plain _ refl refl refl j n;
      short = plain _ refl refl refl j n;
    }) ((refused_says bs e i).0 h)
  where
    plain : (e : Refusal) → among read_refusals (refusal_number e) ≡ true → among column_refusals (refusal_number e) ≡ false → refusal_column e ≡ no_column
        → (j : ℕ) → j ≤ max_lines + 1 → InRead e j
    plain e a b c j n = (a, n, no_column_lem e b c)

module _ (rev : Revision) (bs : List ℕ) (t : List ℤ) where
  no_room_lem : (rs : Rows) (e : Refusal) (i : ℕ) (b : Bool) → cond b (Ok (length rs)) (refused_at no_room 0) ≡ refused_at e i
      → (cond b (put_at t 0 (table_numbers rs)) t ≡ t) × InRead e i
  no_room_lem rs e i true h = absurd (let z : ◌≡◌ {A = ℕ} 0 1 = cc in omega arith)
  no_room_lem rs e i false h = let d : no_room ≡ e = (refused_same h).0 in let z : 0 ≡ i = (refused_same h).1 in (refl, subst₂ InRead d z (refl, omega arith, no_column_lem no_room refl refl))

  not_read_lem : (e : Refusal) (i : ℕ) (v : Verdict Rows Refusal) → file_of rev bs ≡ v → on_verdict v refused_at (in_room t) ≡ refused_at e i
      → (on_verdict v (λ e i. t) (with_rows t) ≡ t) × InRead e i
  not_read_lem e i (accepted rs) w h = no_room_lem rs e i (has_room t (length rs)) h
  not_read_lem e i (refused a j) w h =
      let d : a ≡ e = (refused_same h).0 in
      let z : j ≡ i = (refused_same h).1 in
      (refl, subst₂ InRead d z (file_refusals rev bs a j w))

  read_beyond : (n : ℕ) → read_answer rev bs t ≡ Ok n → drop (row_width * n) (read_leaves rev bs t) ≡ drop (row_width * n) t
  read_beyond n h =
      let d = read_done rev bs t n h in
      ap (drop (row_width * n)) (read_writes rev bs t d.rows d.read d.room)
      ∙ put_after t 0 (row_width * n) (table_numbers d.rows) (omega (arith, table_length d.rows, d.counted)) (omega (arith, d.room, d.counted))

  room_kept : (rs : Rows) (b : Bool) → has_room t (length rs) ≡ b → length (cond b (put_at t 0 (table_numbers rs)) t) ≡ length t
  room_kept rs true h = put_length t 0 (table_numbers rs) (omega (arith, table_length rs, room_says t (length rs) h))
  room_kept rs false h = refl

  -- a refused file's counts
  no_room_counts : (rs : Rows) (e : Refusal) (i : ℕ) (b : Bool) → cond b (Ok (length rs)) (refused_at no_room 0) ≡ refused_at e i → cond b (counts_of rs) no_counts ≡ no_counts
  no_room_counts rs e i true h = absurd (let z : ◌≡◌ {A = ℕ} 0 1 = cc in omega arith)
  no_room_counts rs e i false h = refl

  counts_are_none : (e : Refusal) (i : ℕ) (v : Verdict Rows Refusal) → on_verdict v refused_at (in_room t) ≡ refused_at e i
      → on_verdict v (λ e i. no_counts) (λ rs. cond (has_room t (length rs)) (counts_of rs) no_counts) ≡ no_counts
  counts_are_none e i (accepted rs) h = no_room_counts rs e i (has_room t (length rs)) h
  counts_are_none e i (refused a j) h = refl

  read_length : (v : Verdict Rows Refusal) → length (on_verdict v (λ e i. t) (with_rows t)) ≡ length t
  read_length (accepted rs) = room_kept rs (has_room t (length rs)) refl
  read_length (refused e i) = refl

  pub read_rest : ReadLeavesRest rev bs t
  unfolding read_answer read_leaves read_counts
  read_rest = record {
    refused = λ e i h. let w = not_read_lem e i (file_of rev bs) refl h in (w.0, w.1.0, w.1.1);
    column_only = λ e i h. (not_read_lem e i (file_of rev bs) refl h).1.2;
    inside = λ n h. let d = read_done rev bs t n h in (omega (arith, file_few rev bs d.rows d.read, d.counted), omega (arith, d.room, d.counted));
    beyond = read_beyond;
    as_many = read_length (file_of rev bs);
    counts_are_none = λ e i h. counts_are_none e i (file_of rev bs) h;
  }

-- ---- editing

abbrev InEdit : ℕ → Refusal → ℕ → Type 0
InEdit n e i = (among edit_refusals (refusal_number e) ≡ true) × OnLine (n + 1) (max_lines + 1) i × ColumnOnly e

module _ (rev : Revision) (t : List ℤ) (n k : ℕ) (l : List ℕ) (c : Counts) where
  edit_refusals_lem : Told (InEdit n) (edit_of rev t n k l)
  edit_refusals_lem =
      let z : OnLine (n + 1) (max_lines + 1) 0 = (omega arith, omega arith) in
      edit_told (InEdit n) t n (plain _ refl refl refl 0 z) rev k l (plain _ refl refl refl 0 z) (plain _ refl refl refl 0 z)
      (λ h. record {
        steps = λ j m. let o : OnLine (n + 1) (max_lines + 1) j = (omega arith, omega arith) in
            record {
              phase = plain _ refl refl refl j o;
              motion = plain _ refl refl refl j o;
              again = plain _ refl refl refl j o;
              undeclared = plain _ refl refl refl j o;
              unselected = plain _ refl refl refl j o;
              arc = plain _ refl refl refl j o;
            };
        damaged = λ j m. plain _ refl refl refl j (omega arith, omega arith);
        short = plain _ refl refl refl (n + 1) (omega arith, omega arith);
      })
      (λ h m. let o : OnLine (n + 1) (max_lines + 1) k = (omega arith, omega arith) in
      record {
        long = plain _ refl refl refl k o;
        byte = λ c p q. (refl, o, in_column (forbidden_byte c) refl p q);
        form = plain _ refl refl refl k o;
        range = λ c p q. (refl, o, in_column (out_of_range c) refl p q);
      })
    where
      plain : (e : Refusal) → among edit_refusals (refusal_number e) ≡ true → among column_refusals (refusal_number e) ≡ false → refusal_column e ≡ no_column
          → (j : ℕ) → OnLine (n + 1) (max_lines + 1) j → InEdit n e j
      plain e a b c j o = (a, o, no_column_lem e b c)

  -- and last the counts
  counted_told : (v : Verdict (Span Command State) Refusal) → Told (InEdit n) v
      → Told (InEdit n) (on_verdict v refused (λ s. cond (counts_fit (old_rows (entries_of n t) k s) c) (accepted s) (refused bad_table 0)))
  counted_told (accepted s) w =
      cond_all (Told (InEdit n)) (counts_fit (old_rows (entries_of n t) k s) c) (λ _. tt) (λ _. (refl, (omega arith, omega arith), no_column_lem bad_table refl refl))
  counted_told (refused e i) w = w

  counted_refusals : Told (InEdit n) (edit_counted rev t n k l c)
  unfolding edit_counted
  counted_refusals = counted_told (edit_of rev t n k l) edit_refusals_lem

  not_edited : (e : Refusal) (i : ℕ) (v : Verdict (Span Command State) Refusal) → Told (InEdit n) v → meeting_of v ≡ refused_at e i
      → (leaves_of t k v ≡ t) × InEdit n e i × (on_verdict v (λ e i. c) (λ s. counts_after (old_rows (entries_of n t) k s) s.rows c) ≡ c)
  not_edited e i (accepted s) w h = absurd (let z : ◌≡◌ {A = ℕ} 0 1 = cc in omega arith)
  not_edited e i (refused a j) w h = let d : a ≡ e = (refused_same h).0 in let z : j ≡ i = (refused_same h).1 in (refl, subst₂ (InEdit n) d z w, refl)

  module _ (s : Span Command State) (h : edit_of rev t n k l ≡ accepted s) (f : counts_fit (old_rows (entries_of n t) k s) c ≡ true) where
    -- the span's rows stand inside
    record Inside : Type 0 where
      first : 1 ≤ k
      span : SpanOf n k s
      few : n ≤ max_lines
      room : row_width * n ≤ length t
      end : row_width * (k - 1) + length (table_numbers s.rows) ≡ row_width * s.meeting

    inside : Inside
    inside =
        let d = edit_tests rev t n k l s h in
        let p = line_says n k d.line in
        let z = span_of rev t n k l s h in
        record { first = p.0; span = z; few = (sizes_say t n d.sizes).few; room = (sizes_say t n d.sizes).room; end = omega (arith, table_length s.rows, z.counted) }

    edit_left : edit_leaves rev t n k l c ≡ put_at t (row_width * (k - 1)) (table_numbers s.rows)
    unfolding edit_leaves
    edit_left = rw (counted_fit rev t n k l c s h f)

    edit_before : take (row_width * (k - 1)) (edit_leaves rev t n k l c) ≡ take (row_width * (k - 1)) t
    edit_before =
        let c = inside in
        ap (take (row_width * (k - 1))) edit_left ∙ put_before t (row_width * (k - 1)) (table_numbers s.rows) (omega (arith, c.span.upto, c.room))

    edit_after : drop (row_width * s.meeting) (edit_leaves rev t n k l c) ≡ drop (row_width * s.meeting) t
    edit_after =
        let c = inside in
        ap (drop (row_width * s.meeting)) edit_left
        ∙ put_after t (row_width * (k - 1)) (row_width * s.meeting) (table_numbers s.rows) (omega (arith, c.end)) (omega (arith, c.span.counted, c.span.upto, c.room))

    edit_kept : length (put_at t (row_width * (k - 1)) (table_numbers s.rows)) ≡ length t
    edit_kept =
        let c = inside in
        put_length t (row_width * (k - 1)) (table_numbers s.rows) (omega (arith, c.end, c.span.counted, c.span.upto, c.room))

  edit_length : (v : Verdict (Span Command State) Refusal) → edit_counted rev t n k l c ≡ v
      → length (leaves_of t k v) ≡ length t
  edit_length (accepted s) h = let w = counted_says rev t n k l c s h in edit_kept s w.0 w.1
  edit_length (refused e i) h = refl

  pub edit_rest : EditLeavesRest rev t n k l c
  unfolding edit_answer edit_leaves edit_counts
  edit_rest = record {
    refused = λ e i h. let w = not_edited e i (edit_counted rev t n k l c) counted_refusals h in (w.0, w.1.0, w.1.1);
    column_only = λ e i h. (not_edited e i (edit_counted rev t n k l c) counted_refusals h).1.2;
    inside = λ m h.
        let d = edit_done rev t n k l c m h in
        let c = inside d.span d.verdict d.fit in
        (c.first, omega (arith, c.span.counted, c.span.some, d.meets), omega (arith, c.span.counted, c.span.upto, d.meets), c.few, c.room);
    before = λ m h. let d = edit_done rev t n k l c m h in edit_before d.span d.verdict d.fit;
    after = λ m h. let d = edit_done rev t n k l c m h in
        subst (λ (j : ℕ). drop (row_width * j) (edit_leaves rev t n k l c) ≡ drop (row_width * j) t) d.meets (edit_after d.span d.verdict d.fit);
    as_many = edit_length (edit_counted rev t n k l c) refl;
    counts_kept = λ e i h. (not_edited e i (edit_counted rev t n k l c) counted_refusals h).2;
  }

-- ---- writing

-- a refusal of a table of n rows, one of some
abbrev pub TableRefusal : List ℕ → ℕ → Refusal → ℕ → Type 0
TableRefusal some n e i = (among some (refusal_number e) ≡ true) × OnLine n max_lines i × (refusal_column e ≡ no_column)

pub at_zero : (n : ℕ) → OnLine n max_lines 0
at_zero n = (omega arith, omega arith)

pub rows_named : (some : List ℕ) (n : ℕ) → among some (refusal_number bad_table) ≡ true → n ≤ max_lines → (j : ℕ) → j ≤ n → TableRefusal some n bad_table j
rows_named some n h few j m = (h, (m, omega arith), refl)

module _ (t : List ℤ) (n : ℕ) (b : List ℕ) where
  no_block : (x : List ℕ) (e : Refusal) (i : ℕ) (c : Bool) → cond c (Ok (length x)) (refused_at no_room 0) ≡ refused_at e i
      → (cond c (put_at b 0 x) b ≡ b) × TableRefusal write_refusals n e i
  no_block x e i true h = absurd (let z : ◌≡◌ {A = ℕ} 0 1 = cc in omega arith)
  no_block x e i false h = let d : no_room ≡ e = (refused_same h).0 in let z : 0 ≡ i = (refused_same h).1 in (refl, subst₂ (TableRefusal write_refusals n) d z (refl, at_zero n, refl))

  not_written : (e : Refusal) (i : ℕ) (v : Verdict Rows Refusal) → Told (TableRefusal write_refusals n) v → on_verdict v refused_at (λ rs. in_block b (text_of_rows rs)) ≡ refused_at e i
      → (on_verdict v (λ e i. b) (λ rs. with_text b (text_of_rows rs)) ≡ b) × TableRefusal write_refusals n e i
  not_written e i (accepted rs) w h = no_block (text_of_rows rs) e i (leb (length (text_of_rows rs)) (length b)) h
  not_written e i (refused a j) w h = let d : a ≡ e = (refused_same h).0 in let z : j ≡ i = (refused_same h).1 in (refl, subst₂ (TableRefusal write_refusals n) d z w)

  write_inside : (m : ℕ) → write_answer t n b ≡ Ok m → (m ≤ length b) × (m ≤ longest_line * n) × (n ≤ max_lines)
  write_inside m h =
      let d = write_done t n b m h in
      let g = rows_good t n d.rows d.verdict in
      let w = good_whole t n d.rows g in
      (omega (arith, d.counted, d.room), omega (arith, d.counted, text_length d.rows w.rows.within_range, w.count), (sizes_say t n g.fits).few)

  write_beyond : (m : ℕ) → write_answer t n b ≡ Ok m → drop m (write_leaves t n b) ≡ drop m b
  write_beyond m h =
      let d = write_done t n b m h in
      ap (drop m) (write_writes t n b d.rows d.verdict d.room) ∙ put_after b 0 m (text_of_rows d.rows) (omega (arith, d.counted)) (omega (arith, d.counted, d.room))

  block_kept : (x : List ℕ) (c : Bool) → leb (length x) (length b) ≡ c → length (cond c (put_at b 0 x) b) ≡ length b
  block_kept x true h = put_length b 0 x (omega (arith, leb-true (length x) (length b) h))
  block_kept x false h = refl

  write_length : (v : Verdict Rows Refusal) → length (on_verdict v (λ e i. b) (λ rs. with_text b (text_of_rows rs))) ≡ length b
  write_length (accepted rs) = block_kept (text_of_rows rs) (leb (length (text_of_rows rs)) (length b)) refl
  write_length (refused e i) = refl

  pub write_rest : WriteLeavesRest t n b
  unfolding write_answer write_leaves
  write_rest = record {
    refused = λ e i h.
        let w = not_written e i (rows_of t n) (rows_told (TableRefusal write_refusals n) t n (refl, at_zero n, refl) (rows_named write_refusals n refl)) h in
        (w.0, w.1.0, w.1.1, w.1.2);
    inside = write_inside;
    beyond = write_beyond;
    as_many = write_length (rows_of t n);
  }
