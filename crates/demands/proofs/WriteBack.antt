-- Demand 2, writing. Each row that is no comment has a line, which says its command again and is taken to its state, as a
-- comment leaves the state (crate round); so the text is a file of the rows without comments.
use mathlib.Core.Path.{◌≡◌, refl, sym, ap, ◌∙◌, subst}
use mathlib.Core.List.{List, [], ◌∷◌}
use Prim.Native.Nat.{ℕ, ◌+◌, ◌*◌, ◌≤◌}
use native.Mathlib.Omega.{arith}
use lib.IntN.{ℤ}
use lib.ListN.{length, take, drop}
use Rattle.lists.specs.Put.{put_at}
use Rattle.lists.proofs.Put.{put_at_lem}
use Rattle.rules.specs.declared.Revision.{Revision}
use Rattle.rules.specs.Lines.{lines_of}
use Rattle.rules.specs.Rows.{row_width, table_numbers, Good}
use Rattle.rules.specs.Reading.{Rows, read_leaves}
use Rattle.rules.specs.Writing.{text_of_rows}
use Rattle.obeys.proofs.Files.{obeys_iff}
use Rattle.laws.proofs.InRange.{RowsOk}
use Rattle.round.specs.Comments.{without_comments, text_with_comments}
use Rattle.round.proofs.Lines.{spelt_fits, spelt_line}
use Rattle.round.proofs.Files.{GoodRows, kept_good, text_kept, text_length, file_back, same_bytes}
use Rattle.demands.specs.WriteBack.{ShortLines, Writes, ReadsBack, WritesBack}
use Rattle.answers.proofs.AcceptedFile.{read_accepts, read_writes}
use Rattle.answers.proofs.GoodTables.{file_table, good_whole}
use Rattle.answers.proofs.WrittenTable.{good_rows, write_accepts, write_writes}

-- ---- lines

lines_short : (rs : Rows) → RowsOk rs → ShortLines (lines_of (text_with_comments rs))
unfolding text_with_comments lines_of
lines_short [] h = tt
lines_short (r ∷ rs) h =
    rw (spelt_line r.command h.0 (text_with_comments rs)) (refl, omega (arith, (spelt_fits r.command h.0).short), lines_short rs h.2)

-- ---- a good table

pub good_writes : (t : List ℤ) (n : ℕ) (rs : Rows) → Good t n rs → (b : List ℕ) → length (text_of_rows rs) ≤ length b → Writes t n (text_of_rows rs) b
good_writes t n rs g b h =
    let e = good_rows t n rs g in
    let w = write_writes t n b rs e h in
    record { answer = write_accepts t n b rs e h; text = w; found = ap (take (length (text_of_rows rs))) w ∙ put_at_lem b 0 (text_of_rows rs) (omega arith) }

module _ (rev : Revision) (rs : Rows) (g : GoodRows rs) (u : List ℤ) (h : row_width * length (without_comments rs) ≤ length u) where
  left : read_leaves rev (text_of_rows rs) u ≡ put_at u 0 (table_numbers (without_comments rs))
  left = read_writes rev (text_of_rows rs) u (without_comments rs) (file_back rev rs g) h

  back_good : Good (read_leaves rev (text_of_rows rs) u) (length (without_comments rs)) (without_comments rs)
  back_good =
      subst (λ (z : List ℤ). Good z (length (without_comments rs)) (without_comments rs)) (sym left)
      (file_table rev (text_of_rows rs) (without_comments rs) (file_back rev rs g) (drop (0 + length (table_numbers (without_comments rs))) u))

  again : (b : List ℕ) → length (text_of_rows rs) ≤ length b → Writes (read_leaves rev (text_of_rows rs) u) (length (without_comments rs)) (text_of_rows rs) b
  again b k =
      let e = same_bytes rs in
      subst (λ (x : List ℕ). Writes (read_leaves rev (text_of_rows rs) u) (length (without_comments rs)) x b) e
      (good_writes (read_leaves rev (text_of_rows rs) u) (length (without_comments rs)) (without_comments rs) back_good b (rw e k))

  reads_back : ReadsBack rev rs u
  reads_back = record { answer = read_accepts rev (text_of_rows rs) u (without_comments rs) (file_back rev rs g) h; table = left; good = back_good; same_bytes = again }

pub write_back : (t : List ℤ) (n : ℕ) (rs : Rows) → Good t n rs → WritesBack t n rs
write_back t n rs g =
    let w = good_whole t n rs g in
    record {
      writes = good_writes t n rs g;
      obeys = λ rev. (obeys_iff (text_of_rows rs)).1 (without_comments rs) (file_back rev rs w.rows);
      short_lines = rw (text_kept rs) (lines_short (without_comments rs) (kept_good rs w.rows).within_range);
      room = omega (arith, text_length rs w.rows.within_range, w.count);
      reads_back = λ rev. reads_back rev rs w.rows;
    }
