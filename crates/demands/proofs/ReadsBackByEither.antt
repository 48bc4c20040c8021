-- What is written is the text of the table's rows, and each revision accepts that as the same rows.
use mathlib.Core.Path.{◌≡◌, sym, ◌∙◌, subst}
use mathlib.Core.List.{List}
use Prim.Native.Nat.{ℕ}
use lib.IntN.{ℤ}
use lib.ListN.{take}
use Rattle.std.specs.Prelude.{Ok}
use Rattle.rules.specs.declared.Revision.TheVariants.{Rev2019, Rev2021}
use Rattle.rules.specs.Writing.{text_of_rows, write_answer, write_leaves}
use Rattle.round.proofs.Files.{file_back}
use Rattle.answers.proofs.GoodTables.{good_whole}
use Rattle.answers.proofs.WrittenTable.{rows_good, write_done}
use Rattle.demands.specs.ReadsBackByEither.{SameByEither, ReadsBackByEither}
use Rattle.demands.proofs.WriteBack.{write_back}
use Rattle.demands.proofs.OlderAccepts.{same_file}

module _ (t : List ℤ) (n : ℕ) (b : List ℕ) (m : ℕ) (h : write_answer t n b ≡ Ok m) where
  by_either : (u : List ℤ) → SameByEither (take m (write_leaves t n b)) u
  by_either u =
      let d = write_done t n b m h in
      let g = rows_good t n d.rows d.verdict in
      let good = (good_whole t n d.rows g).rows in
      let text : take m (write_leaves t n b) ≡ text_of_rows d.rows
      = subst (λ (k : ℕ). take k (write_leaves t n b) ≡ text_of_rows d.rows) d.counted ((write_back t n d.rows g).writes b d.room).found in
      let same = same_file Rev2019 Rev2021 (text_of_rows d.rows) u (file_back Rev2019 d.rows good ∙ sym (file_back Rev2021 d.rows good)) in
      subst (λ (x : List ℕ). SameByEither x u) (sym text) (record { answer = same.0; table = same.1 })

pub reads_back_by_either : ReadsBackByEither
reads_back_by_either = record { written = by_either }
