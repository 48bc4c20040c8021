-- The whole answer: the size, the lines, the room; the rows stand first in the block, and are copied.
use mathlib.Core.Path.{◌≡◌, refl, sym, ap, subst, ◌∙◌}
use mathlib.Core.Bool.{cond}
use mathlib.Core.List.{List, ◌++◌}
use Prim.Native.Nat.{ℕ, ◌+◌, ◌*◌, ◌/◌, ◌<◌, ◌≤◌}
use native.Mathlib.Omega.{arith}
use native.Mathlib.Nat.{zero-add}
use borrow.Author.Tests.{le-leb, lt-leb}
use lib.IntN.{ℤ}
use lib.ListN.{length, take, drop}
use lib.Seq.{take_at}
use Rattle.std.specs.Prelude.{Ok, Err}
use Rattle.rules.specs.Results.{Answer, at_line, refused_at}
use Rattle.rules.proofs.Said.{refused_same}
use Rattle.lists.specs.Put.{put_in}
use Rattle.runs.specs.Machine.{Verdict, accepted, refused, on_verdict}
use Rattle.rules.specs.declared.Refusal.{Refusal}
use Rattle.rules.specs.declared.Refused.{Refused}
use Rattle.rules.specs.declared.Counts.{Counts}
use Rattle.rules.specs.declared.Counted.{Counted}
use Rattle.rules.specs.declared.Revision.{Revision}
use Rattle.rules.specs.Refusals.{no_room, file_too_long}
use Rattle.rules.specs.Numbers.{max_file, max_lines}
use Rattle.rules.specs.Lines.{lines_of}
use Rattle.rules.specs.Rows.{row_width, table_numbers}
use Rattle.rules.specs.Answers.{said}
use Rattle.rules.specs.Reading.{Rows, run_of, file_of, has_room, in_room, with_rows, read_answer, read_leaves}
use Rattle.rules.specs.Counting.{counts_of, no_counts, read_counts}
use Rattle.laws.proofs.Entries.{table_length}
use Rattle.put.proofs.Puts.{copied_all}
use Rattle.tally.specs.Standing as C
use Rattle.tally.proofs.RowCounts.{rows_counted}
use Rattle.reader.specs.Parts.{told_from, left_from, Block, LinesRead, not_read}
use Rattle.reader.specs.Read.{ReadIs}

pub read_long : (rev : Revision) (bs : List ℕ) (t : List ℤ) → max_file < length bs → {x : Refused} → x ≡ at_line file_too_long 0 → {r : Counted} → r ≡ not_read x → ReadIs rev bs t r t
unfolding read_answer read_leaves read_counts file_of
read_long rev bs t h q w = let e = lt-leb (length bs) max_file h in rw (w, q) (record { answer = rw e; leaves = rw e; counts = rw e })

-- what the answer of the lines says of their verdict
verdict_refused : (v : Verdict Rows Refusal) (e : Refusal) (i : ℕ) → refused_at e i ≡ told_from 0 v → v ≡ refused e i
verdict_refused (accepted rs) e i q = absurd (let z : ◌≡◌ {A = ℕ} 0 1 = cc in omega arith)
verdict_refused (refused f j) e i q = let same = refused_same q in cc

verdict_done : (v : Verdict Rows Refusal) (n : ℕ) → Ok n ≡ told_from 0 v → (rs : Rows) × ((v ≡ accepted rs) × (n ≡ length rs))
verdict_done (accepted rs) n q = (rs, (refl, cc (zero-add (length rs))))
verdict_done (refused f j) n q = absurd (let z : ◌≡◌ {A = ℕ} 0 1 = cc in omega arith)

block_of : {rev : Revision} {bs : List ℕ} {z b : List ℤ} {r : Answer} → LinesRead rev bs z r b → {n : ℕ} → r ≡ Ok n → Block rev bs z (Ok n) b
block_of {rev} {bs} {z} {b} w h = subst (λ (a : Answer). Block rev bs z a b) h w.block

module _ (rev : Revision) (bs : List ℕ) (t : List ℤ) (fits : length bs ≤ max_file) where
  from_verdict : (v : Verdict Rows Refusal) → run_of rev (lines_of bs) ≡ v → (r : Counted) {t' : List ℤ}
      → r.answer ≡ on_verdict v refused_at (in_room t) → t' ≡ on_verdict v (λ e i. t) (with_rows t)
      → r.counts ≡ on_verdict v (λ e i. no_counts) (λ rs. cond (has_room t (length rs)) (counts_of rs) no_counts) → ReadIs rev bs t r t'
  unfolding read_answer read_leaves read_counts file_of
  from_verdict v e r a l c = let f = le-leb (length bs) max_file fits in record { answer = rw (f, e) (ap said a); leaves = rw (f, e) l; counts = rw (f, e) c }

  module _ (n : ℕ) (rs : Rows) (ev : run_of rev (lines_of bs) ≡ accepted rs) (en : n ≡ length rs) where
    rows_no_room : length t / row_width < n → ReadIs rev bs t (not_read (at_line no_room 0)) t
    unfolding has_room
    rows_no_room h = let e = lt-leb n (length t / row_width) h in from_verdict (accepted rs) ev (not_read (at_line no_room 0)) (rw (← en, e)) (rw (← en, e)) (rw (← en, e))

    rows_done : n ≤ length t / row_width → n ≤ max_lines → (z b : List ℤ) {t' : List ℤ} → b ≡ left_from z 0 (run_of rev (lines_of bs)) → t' ≡ put_in t 0 (take (row_width * n) b)
        → {c : Counts} → c ≡ C.with_rows no_counts (take (row_width * n) b) → ReadIs rev bs t (record { answer = Ok n; counts = c }) t'
    unfolding has_room
    rows_done h few z b e f {c} g =
        let a : b ≡ table_numbers rs ++ drop (0 + length (table_numbers rs)) z = rw ev at e in
        let w : row_width * n ≡ length (table_numbers rs) = ap (λ (k : ℕ). row_width * k) en ∙ sym (table_length rs) in
        let d : take (row_width * n) b ≡ table_numbers rs = rw a (take_at (table_numbers rs) (drop (0 + length (table_numbers rs)) z) (row_width * n) (sym w)) in
        let room = le-leb n (length t / row_width) h in
        from_verdict (accepted rs) ev (record { answer = Ok n; counts = c })
        (rw (← en, room)) (rw (← en, room) (f ∙ ap (put_in t 0) d ∙ sym (copied_all t 0 (table_numbers rs) (omega arith))))
        (rw (← en, room) (g ∙ ap (C.with_rows no_counts) d ∙ rows_counted rs (omega arith)))

  -- b is the block after its lines were read into z
  module _ {z b : List ℤ} {r : Answer} (w : LinesRead rev bs z r b) where
    pub read_refused : (x : Refused) → r ≡ Err x → {r' : Counted} → r' ≡ not_read x → ReadIs rev bs t r' t
    read_refused x h q =
        rw q (from_verdict (refused x.refusal x.line) (verdict_refused (run_of rev (lines_of bs)) x.refusal x.line (sym h ∙ w.answer)) (not_read x) refl refl refl)

    module _ (n : ℕ) (h : r ≡ Ok n) where
      read_rows : (rs : Rows) × ((run_of rev (lines_of bs) ≡ accepted rs) × (n ≡ length rs))
      read_rows = verdict_done (run_of rev (lines_of bs)) n (sym h ∙ w.answer)

      pub read_no_room : length t / row_width < n → {x : Refused} → x ≡ at_line no_room 0 → {r' : Counted} → r' ≡ not_read x → ReadIs rev bs t r' t
      read_no_room k q g = rw (g, q) (rows_no_room n read_rows.0 read_rows.1.0 read_rows.1.1 k)

      pub read_done : n ≤ length t / row_width → {t' : List ℤ} → t' ≡ put_in t 0 (take (row_width * n) b)
          → {o : Counts} → o ≡ no_counts → {c : Counts} → c ≡ C.with_rows o (take (row_width * n) b) → ReadIs rev bs t (record { answer = Ok n; counts = c }) t'
      read_done k f q g = rows_done n read_rows.0 read_rows.1.0 read_rows.1.1 k (block_of w h).0 z b (block_of w h).1 f (rw q at g)
