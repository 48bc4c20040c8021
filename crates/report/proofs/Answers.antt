-- What the print-outs leave, one law for each way out.
use mathlib.Core.Path.{◌≡◌, refl, sym, ap, ◌∙◌, subst₂}
use mathlib.Core.Bool.{true}
use mathlib.Core.List.{List}
use Prim.Native.Nat.{ℕ, ◌+◌, ◌-◌, ◌≤◌}
use native.Mathlib.Omega.{arith}
use borrow.Author.Tests.{leb-true}
use lib.Dec.{leb}
use lib.IntN.{ℤ}
use lib.ListN.{length, drop}
use Rattle.std.specs.Prelude.{Option, Some, None, Ok, Err}
use Rattle.rules.specs.Results.{Answer, Looked, refused_at}
use Rattle.lists.proofs.Choice.{both}
use Rattle.runs.specs.Machine.{Verdict, accepted, refused, last_of}
use Rattle.rules.specs.declared.Refusal.{Refusal}
use Rattle.rules.specs.declared.Refused.{Refused}
use Rattle.rules.specs.declared.Counts.{Counts}
use Rattle.rules.specs.declared.Row.{Row}
use Rattle.rules.specs.declared.State.{State}
use Rattle.rules.specs.State.{start}
use Rattle.rules.specs.declared.Counted.{Counted}
use Rattle.rules.specs.declared.Revision.{Revision}
use Rattle.rules.specs.Numbers.{max_tool}
use Rattle.rules.specs.Rows.{table_room, table_numbers, entry_of, Good}
use Rattle.rules.specs.Reading.{Rows, file_of, read_answer, read_leaves}
use Rattle.rules.specs.Editing.{state_in}
use Rattle.rules.specs.Counting.{counts_of}
use Rattle.rules.specs.Printing.{refused_text, printed, counts_printed}
use Rattle.rules.proofs.Said.{said_one, refused_same}
use Rattle.laws.proofs.Sizes.{sizes_say}
use Rattle.answers.proofs.AcceptedFile.{ReadDone, file_few, read_done, read_accepts, read_writes, read_refuses, read_counts_lem}
use Rattle.answers.proofs.GoodTables.{file_table}
use Rattle.table.specs.Table.{look_at}
use Rattle.reader.specs.Read.{ReadIs}
use Rattle.text.specs.Wrote.{Wrote}
use Rattle.text.proofs.Wrote.{wrote_all}
use Rattle.report.specs.Parts.{Out, holes_out, counts_out, PrintsOut}
use Rattle.report.specs.Report.{text_room, blocks_fit, Reports}
use Rattle.report.proofs.Printed.{counts_are, last_found, text_is}
use Rattle.report.proofs.Short.{printed_short, counts_printed_short}

-- ---- the room

module _ (table : List ℤ) (text : List ℕ) where
  fit_says : blocks_fit table text ≡ true → (table_room ≤ length table) × (text_room ≤ length text)
  unfolding blocks_fit
  fit_says e =
      let w = both (leb table_room (length table)) (leb text_room (length text)) e in
      (leb-true table_room (length table) w.0, leb-true text_room (length text) w.1)

-- ---- the two print-outs

module _ (rev : Revision) (file : List ℕ) where
  pub holes_prints : PrintsOut rev file holes_out (printed rev file)
  unfolding printed
  holes_prints = record {
    short = printed_short rev file;
    of_refused = λ e i h. rw h;
    of_rows = λ rs h t g. rw h (sym (text_is t (length rs) rs g refl));
  }

  pub counts_prints : PrintsOut rev file counts_out (counts_printed rev file)
  unfolding counts_printed
  counts_prints = record {
    short = counts_printed_short rev file;
    of_refused = λ e i h. rw h;
    of_rows = λ rs h t g. rw h (sym (counts_are t (length rs) rs g max_tool (omega arith)));
  }

-- ---- the table that an accepted file was read into

module _ {rev : Revision} {file : List ℕ} {table T : List ℤ} {a : Counted} (d : ReadIs rev file table a T) (n : ℕ) (g : a.answer ≡ Ok n) where
  done : ReadDone rev file table n
  done = read_done rev file table n (sym (said_one d.answer) ∙ g)

  good : Good T n done.rows
  good =
      subst₂ (λ (t : List ℤ) (k : ℕ). Good t k done.rows) (sym (d.leaves ∙ read_writes rev file table done.rows done.read done.room)) done.counted
      (file_table rev file done.rows done.read (drop (0 + length (table_numbers done.rows)) table))

  pub some_lines : 1 ≤ n
  some_lines = (sizes_say T n good.fits).some

  counts_are_lem : a.counts ≡ counts_of done.rows
  counts_are_lem = d.counts ∙ read_counts_lem rev file table done.rows done.read done.room

  module _ {l : Looked} (e : l ≡ look_at T (n - 1)) where
    last_row : state_in (entry_of l) ≡ Some (last_of start done.rows)
    last_row = rw e (last_found T n done.rows good (sym done.counted))

    pub no_last : l ≡ None → ⊥
    no_last k = let z : ◌≡◌ {A = Option State} None (Some (last_of start done.rows)) = rw k at last_row in cc

    last_lem : (r : Row) → l ≡ Some r → r.state ≡ last_of start done.rows
    last_lem r k = let z : ◌≡◌ {A = Option State} (Some r.state) (Some (last_of start done.rows)) = rw k at last_row in cc

-- ---- what it leaves

module _ {rev : Revision} {file : List ℕ} {out : Out} {x : List ℕ} (s : PrintsOut rev file out x) where
  shown_lem : (rs : Rows) → file_of rev file ≡ accepted rs → (t : List ℤ) (n : ℕ) → Good t n rs → n ≡ length rs → (q : State) → q ≡ last_of start rs
      → (c : Counts) → c ≡ counts_of rs → out t n q c ≡ x
  shown_lem rs h t n g m q e c f = let y = s.of_rows rs h t (rw m at g) in rw (m, e, f) (sym y)

  module _ (table : List ℤ) (text : List ℕ) (roomy : blocks_fit table text ≡ true) where
    reported : {T : List ℤ} → T ≡ read_leaves rev file table → (y : List ℕ) → y ≡ x → {text' : List ℕ} {r : ℕ} → Wrote text 0 y text' r → Reports x rev file table text r T text'
    reported le y e p =
        let z = (fit_says table text roomy).1 in
        let w = wrote_all (omega (arith, z, ap length e, s.short)) p in
        record { bytes = rw (roomy, ← e) w.0; count = rw (roomy, ← e) (omega (arith, w.1)); numbers = rw roomy le; inside = omega (arith, z, w.1, ap length e, s.short) }

    -- for a file that is accepted, the table has room
    refusal : (e : Refusal) (i : ℕ) → read_answer rev file table ≡ refused_at e i → (v : Verdict Rows Refusal) → file_of rev file ≡ v → file_of rev file ≡ refused e i
    refusal e i a (accepted rs) v =
        let d = read_accepts rev file table rs v (omega (arith, file_few rev file rs v, (fit_says table text roomy).0)) in
        absurd (let z : ◌≡◌ {A = ℕ} 0 1 = cc in omega arith)
    refusal e i a (refused y j) v =
        let d = (read_refuses rev file table y j v).0 in
        let g : ◌≡◌ {A = Answer} (refused_at y j) (refused_at e i) = sym d ∙ a in
        let k = refused_same g in
        rw (← k.0, ← k.1) v

    module _ {T : List ℤ} {a : Counted} (d : ReadIs rev file table a T) {text' : List ℕ} {k : ℕ} where
      pub file_refused : (r : Refused) → a.answer ≡ Err r → Wrote text 0 (refused_text r.refusal r.line) text' k → Reports x rev file table text k T text'
      file_refused r g p = reported d.leaves _ (sym (s.of_refused r.refusal r.line (refusal r.refusal r.line (sym (said_one d.answer) ∙ g) (file_of rev file) refl))) p

      pub file_done : (n : ℕ) → a.answer ≡ Ok n → {l : Looked} → l ≡ look_at T (n - 1) → (r : Row) → l ≡ Some r → Wrote text 0 (out T n r.state a.counts) text' k
          → Reports x rev file table text k T text'
      file_done n g e r k p =
          let f = done d n g in
          reported d.leaves _ (shown_lem f.rows f.read T n (good d n g) (sym f.counted) r.state (last_lem d n g e r k) a.counts (counts_are_lem d n g)) p
