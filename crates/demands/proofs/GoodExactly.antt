-- A table is good exactly when some accepted file reads to it: a good table's rows, each written as a line, comments too,
-- are such a file, and what a file reads to follows and ends as its lines do.
use mathlib.Core.Path.{◌≡◌, sym, ap, ◌∙◌, subst, subst₂}
use mathlib.Core.List.{List, ◌++◌}
use Prim.Native.Nat.{ℕ, ◌+◌, ◌*◌, ◌≤◌}
use native.Mathlib.Omega.{arith}
use lib.IntN.{ℤ}
use lib.ListN.{length, drop}
use Rattle.std.specs.Prelude.{Ok}
use Rattle.rules.specs.declared.Revision.{Revision}
use Rattle.rules.specs.Rows.{row_width, table_numbers, Good}
use Rattle.rules.specs.Reading.{Rows, read_answer, read_leaves}
use Rattle.laws.proofs.Entries.{table_length}
use Rattle.round.specs.Comments.{text_with_comments}
use Rattle.round.proofs.Files.{commented_file_back}
use Rattle.demands.specs.GoodTable.{GoodTable}
use Rattle.demands.specs.GoodExactly.{GoodExactly}
use Rattle.answers.proofs.AcceptedFile.{read_done, read_accepts, read_writes}
use Rattle.answers.proofs.GoodTables.{file_table, good_whole}

module _ (rev : Revision) (t : List ℤ) (n : ℕ) (rs : Rows) (g : Good t n rs) where
  -- the file of a good table, read into the table itself, changes nothing
  pub good_read : (read_answer rev (text_with_comments rs) t ≡ Ok n) × (read_leaves rev (text_with_comments rs) t ≡ t)
  good_read =
      let w = good_whole t n rs g in
      let f = commented_file_back rev rs w.rows in
      let room : row_width * length rs ≤ length t = omega (arith, w.count, w.room) in
      let m : 0 + length (table_numbers rs) ≡ row_width * n = omega (arith, table_length rs, w.count) in (
        read_accepts rev (text_with_comments rs) t rs f room ∙ ap Ok w.count,
        read_writes rev (text_with_comments rs) t rs f room ∙ ap (λ (j : ℕ). table_numbers rs ++ drop j t) m ∙ sym w.numbers,
      )

pub read_good : (rev : Revision) (bs : List ℕ) (t : List ℤ) (n : ℕ) → read_answer rev bs t ≡ Ok n → GoodTable (read_leaves rev bs t) n
read_good rev bs t n h =
    let d = read_done rev bs t n h in
    record {
      rows = d.rows;
      good = subst₂ (λ (u : List ℤ) (j : ℕ). Good u j d.rows) (sym (read_writes rev bs t d.rows d.read d.room)) d.counted
          (file_table rev bs d.rows d.read (drop (0 + length (table_numbers d.rows)) t));
    }

pub good_exactly : GoodExactly
good_exactly = record {
  good_read = λ rev t n w. let r = good_read rev t n w.rows w.good in
      record { file = text_with_comments w.rows; lent = t; answer = r.0; table = r.1 };
  read_good = λ rev t n w. subst (λ (u : List ℤ). GoodTable u n) w.table (read_good rev w.file w.lent n w.answer);
}
