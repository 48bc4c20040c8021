-- Demand 3. A fresh reading of the edited file runs the lines before the edited one to the same state, then does what the
-- edit's rerun does, and from the meeting line on is the old reading: equal states, equal lines left.
use mathlib.Core.Path.{◌≡◌, refl, sym, ap, ◌∙◌, subst, subst₂}
use mathlib.Core.Bool.{true}
use mathlib.Core.List.{List, ◌++◌}
use Prim.Native.Nat.{ℕ, ◌+◌, ◌-◌, ◌*◌, ◌≤◌}
use native.Mathlib.Omega.{arith}
use lib.IntN.{ℤ}
use lib.ListN.{length, drop, length-append}
use Rattle.std.specs.Prelude.{Ok}
use Rattle.lists.specs.Put.{put_at}
use Rattle.runs.specs.Machine.{Verdict, accepted, refused, all_hold, Span}
use Rattle.runs.specs.Agreement.{FirstAgreement}
use Rattle.runs.specs.Edits.{with_span}
use Rattle.runs.proofs.Meeting.{one_meeting}
use Rattle.rules.specs.declared.Command.{Command}
use Rattle.rules.specs.declared.State.{State}
use Rattle.rules.specs.declared.Refusal.{Refusal}
use Rattle.rules.specs.declared.Revision.{Revision}
use Rattle.rules.specs.declared.Counts.{Counts}
use Rattle.rules.specs.Results.{Answer, refused_at}
use Rattle.rules.specs.Numbers.{max_file}
use Rattle.rules.specs.State.{start}
use Rattle.rules.specs.Rows.{row_width, table_numbers}
use Rattle.rules.specs.Reading.{Rows, file_of, read_answer, read_leaves}
use Rattle.rules.specs.Counting.{counts_of, read_counts}
use Rattle.rules.specs.Editing.{no_line_end, edit_rows, edit_answer, edit_leaves, edit_counts}
use Rattle.laws.proofs.Entries.{table_length}
use Rattle.demands.specs.EditedFile.{LineOf, edited}
use Rattle.demands.specs.Demand3.{SameVerdict, MeetsAt, SpanIs, SameCounts, AsReadAfresh, Demand3}
use Rattle.answers.proofs.AcceptedFile.{read_done, file_run, file_of_lem, file_few, file_ok, read_accepts, read_writes, read_counts_lem, read_refuses}
use Rattle.demands.proofs.EveryLine.{every_line, one_edited}
use Rattle.demands.proofs.EditRows.{edit_agreement}
use Rattle.demands.proofs.EditIsReading.{edit_is_reading, line_from, line_upto}
use Rattle.demands.proofs.EditTable.{table_again, edit_refuses, edit_accepts, edit_writes, own_fits, own_counts, new_length, same_outside}

-- the table of an accepted file, whatever stands after its rows
module _ (rev : Revision) {bs : List ℕ} {k : ℕ} (w : LineOf bs k) (rs : Rows) (read : file_of rev bs ≡ accepted rs) (l : List ℕ) (hl : no_line_end l ≡ true)
    (hb : length (edited w l) ≤ max_file) (rest : List ℤ) where
  fresh : file_of rev (edited w l) ≡ with_span rs k (edit_rows rev (all_hold rs) k l)
  fresh = file_of_lem rev (edited w l) hb ∙ edit_is_reading rev w rs (file_run rev bs rs read) l hl

  from : 1 ≤ k
  from = line_from rev w rs (file_run rev bs rs read)

  upto : k ≤ length rs
  upto = line_upto rev w rs (file_run rev bs rs read)

  -- a table u, of which the edit's answer is a, the numbers it leaves v, and the counts it hands back c
  AsAfresh : List ℤ → List ℤ → Answer → Counts → Type 0
  AsAfresh u v a c =
      SameVerdict (length rs) a (read_answer rev (edited w l) u) × (v ≡ read_leaves rev (edited w l) u) × SpanIs rev bs (edited w l) u v (length rs) k a
      × SameCounts (counts_of rs) a c (read_counts rev (edited w l) u)

  as_refused : (e : Refusal) (i : ℕ) → edit_rows rev (all_hold rs) k l ≡ refused e i
      → AsAfresh (table_numbers rs ++ rest) (table_numbers rs ++ rest) (refused_at e i) (counts_of rs)
  unfolding AsAfresh
  as_refused e i h =
      let r = read_refuses rev (edited w l) (table_numbers rs ++ rest) e i (fresh ∙ ap (with_span rs k) h) in
      (r.0, sym r.1, refl, refl)

  as_accepted : (s : Span Command State) → edit_rows rev (all_hold rs) k l ≡ accepted s
      → AsAfresh (table_numbers rs ++ rest) (table_numbers (put_at rs (k - 1) s.rows) ++ rest) (Ok s.meeting) (counts_of (put_at rs (k - 1) s.rows))
  unfolding AsAfresh
  as_accepted s h =
      let new : Rows = put_at rs (k - 1) s.rows in
      let f : file_of rev (edited w l) ≡ accepted new = fresh ∙ ap (with_span rs k) h in
      let n : length new ≡ length rs
      = new_length rev rs rest (file_ok rev bs rs read) (file_few rev bs rs read) k from upto l hl s h in
      let room : row_width * length new ≤ length (table_numbers rs ++ rest) = omega (arith, n, table_length rs, length-append (table_numbers rs) rest) in (
        read_accepts rev (edited w l) (table_numbers rs ++ rest) new f room ∙ ap Ok n,
        sym (read_writes rev (edited w l) (table_numbers rs ++ rest) new f room ∙ table_again rs new rest n),
        (
          record { old = rs; new = new; read_old = read; read_new = f; first = edit_agreement rev rs k from upto l s h },
          same_outside rev rs rest (file_ok rev bs rs read) (file_few rev bs rs read) k from upto l hl s h (file_ok rev (edited w l) new f),
        ),
        sym (read_counts_lem rev (edited w l) (table_numbers rs ++ rest) new f room),
      )

  as_afresh : (v : Verdict (Span Command State) Refusal) → edit_rows rev (all_hold rs) k l ≡ v
      → AsAfresh (table_numbers rs ++ rest) (edit_leaves rev (table_numbers rs ++ rest) (length rs) k l (counts_of rs))
      (edit_answer rev (table_numbers rs ++ rest) (length rs) k l (counts_of rs)) (edit_counts rev (table_numbers rs ++ rest) (length rs) k l (counts_of rs))
  as_afresh (refused e i) h =
      let r = edit_refuses rev rs rest (file_ok rev bs rs read) (file_few rev bs rs read) k from upto l hl (counts_of rs) e i h in
      rw (r.0, r.1, r.2) (as_refused e i h)
  as_afresh (accepted s) h =
      let own = own_fits rev rs rest (file_ok rev bs rs read) (file_few rev bs rs read) k from upto l hl s h in
      rw (
        edit_accepts rev rs rest (file_ok rev bs rs read) (file_few rev bs rs read) k from upto l hl s h (counts_of rs) own,
        edit_writes rev rs rest (file_ok rev bs rs read) (file_few rev bs rs read) k from upto l hl s h (counts_of rs) own,
        own_counts rev rs rest (file_ok rev bs rs read) (file_few rev bs rs read) k from upto l hl s h,
      ) (as_accepted s h)

  whole : AsReadAfresh rev bs (edited w l) (table_numbers rs ++ rest) (counts_of rs) (length rs) k l
  unfolding AsAfresh
  whole = let a = as_afresh (edit_rows rev (all_hold rs) k l) refl in record { verdict = a.0; table = a.1; counts = a.3; span = a.2 }

-- ---- a file that was read

module _ (rev : Revision) (bs : List ℕ) (t : List ℤ) (n : ℕ) (h : read_answer rev bs t ≡ Ok n) where
  line : (k : ℕ) → 1 ≤ k → k ≤ n → LineOf bs k
  line k a b = let d = read_done rev bs t n h in every_line rev bs d.rows d.read k a (omega (arith, d.counted))

  no_other : (k : ℕ) → LineOf bs k → (1 ≤ k) × (k ≤ n)
  no_other k w =
      let d = read_done rev bs t n h in
      let r = file_run rev bs d.rows d.read in
      (line_from rev w d.rows r, omega (arith, line_upto rev w d.rows r, d.counted))

  as_read : (k : ℕ) (w : LineOf bs k) (l : List ℕ) → no_line_end l ≡ true → length (edited w l) ≤ max_file
      → AsReadAfresh rev bs (edited w l) (read_leaves rev bs t) (read_counts rev bs t) n k l
  as_read k w l hl hb =
      let d = read_done rev bs t n h in
      subst (λ (m : ℕ). AsReadAfresh rev bs (edited w l) (read_leaves rev bs t) (read_counts rev bs t) m k l) d.counted
      (rw (read_writes rev bs t d.rows d.read d.room, read_counts_lem rev bs t d.rows d.read d.room)
      (whole rev w d.rows d.read l hl hb (drop (0 + length (table_numbers d.rows)) t)))

meets_once : {rev : Revision} (old_file new_file : List ℕ) (k m n : ℕ) → MeetsAt rev old_file new_file k m → MeetsAt rev old_file new_file k n → m ≡ n
meets_once old_file new_file k m n v w =
    let p : v.old ≡ w.old = let e = sym v.read_old ∙ w.read_old in cc in
    let q : v.new ≡ w.new = let e = sym v.read_new ∙ w.read_new in cc in
    one_meeting (subst₂ (λ (a b : Rows). FirstAgreement start a b k m) p q v.first) w.first

pub demand_3 : (rev : Revision) → Demand3 rev
demand_3 rev = record {
  every_line = line rev;
  no_other = no_other rev;
  one_edited = λ bs k v w l h. one_edited v w l h;
  as_read_afresh = as_read rev;
  one_meeting = meets_once;
}
