-- A line of an accepted file spells its row's command; and an edit of the file's rows is a fresh reading of the edited file: the same
-- refusal at the same line, or the rows of the span in the place of the old ones. It is so of any machine.
use mathlib.Core.Path.{◌≡◌, sym, ap, ap₂, ◌∙◌, subst, subst₂}
use mathlib.Core.Bool.{true}
use mathlib.Core.List.{List, ◌∷◌}
use Prim.Native.Nat.{ℕ, ◌+◌, ◌-◌, ◌≤◌}
use native.Mathlib.Omega.{arith}
use borrow.Author.Tests.{le-leb}
use lib.ListN.{length, get_or, length-append}
use lib.Seq.{get_or-append_seam}
use Rattle.runs.specs.Machine.{Out, on_out, accepted, refused, Row, all_hold}
use Rattle.runs.specs.Edits.{with_span}
use Rattle.runs.proofs.Append.{run_reads}
use Rattle.runs.proofs.Chains.{chain_length}
use Rattle.runs.proofs.Edit.{Around, reads_around}
use Rattle.runs.proofs.Given.{lines_afresh}
use Rattle.rules.specs.declared.Command.{Command}
use Rattle.rules.specs.declared.State.{State}
use Rattle.rules.specs.declared.Refusal.{Refusal}
use Rattle.rules.specs.declared.Revision.{Revision}
use Rattle.rules.specs.Refusals.{bad_table, ends_too_soon}
use Rattle.rules.specs.Numbers.{max_lines}
use Rattle.rules.specs.Lines.{Line, lines_of}
use Rattle.rules.specs.Commands.{line_of}
use Rattle.rules.specs.State.{start, taken, has_ended, same_state}
use Rattle.rules.specs.Reading.{say_out, answer_in, command_in, Rows, no_row, row_of, run_from, run_of}
use Rattle.rules.specs.Editing.{no_line_end, edit_rows}
use Rattle.rules.specs.Spelling.{SpellsLine}
use Rattle.laws.proofs.Lines.{line_with, first_text}
use Rattle.obeys.proofs.Split.{LineReads, yields_line}
use Rattle.demands.specs.EditedFile.{LineOf, edited}
use Rattle.demands.proofs.EditedLines.{lines_old, lines_set, text_new, line_number}
use Rattle.demands.proofs.EditRows.{same_eq, same_refl, given, edit_rows_lem}

module _ (rev : Revision) {bs : List ℕ} {k : ℕ} (w : LineOf bs k) (rs : Rows) (h : run_of rev (lines_of bs) ≡ accepted rs) where
  -- ---- line k, and its row

  rows : Around (command_in rev) taken start (lines_of w.before) (line_with w.line w.here.ends) (lines_of w.after) 0 rs
  unfolding run_of
  rows =
      reads_around (command_in rev) taken start (lines_of w.before) (line_with w.line w.here.ends) (lines_of w.after) 0 rs
      (run_reads (command_in rev) taken has_ended ends_too_soon start _ 0 rs (rw (lines_old w) at h)).reads

  by_rows : k ≡ length rows.first + 1
  by_rows = omega (arith, line_number w, chain_length rows.reads_first)

  pub line_from : 1 ≤ k
  line_from = omega (arith, by_rows)

  pub line_upto : k ≤ length rs
  line_upto = omega (arith, by_rows, ap length rows.parts, length-append rows.first (rows.here ∷ rows.rest))

  line_reads : LineReads rev k (line_with w.line w.here.ends) (row_of rs k).command
  line_reads =
      let n : k - 1 ≡ length rows.first = omega (arith, by_rows) in
      let i : 0 + length (lines_of w.before) + 1 ≡ k = omega (arith, line_number w) in
      let here : row_of rs k ≡ rows.here
      = ap₂ (λ (z : Rows) (j : ℕ). get_or z j no_row) rows.parts n ∙ get_or-append_seam rows.first rows.here rows.rest no_row in
      subst₂ (λ (j : ℕ) (r : Row Command State). LineReads rev j (line_with w.line w.here.ends) r.command) i (sym here)
      (yields_line (0 + length (lines_of w.before) + 1) (line_with w.line w.here.ends) rows.here.command rows.reads_here)

  pub line_spells : SpellsLine rev w.line (row_of rs k).command
  line_spells = subst (λ (z : List ℕ). SpellsLine rev z (row_of rs k).command) (first_text w.here) line_reads.spelling

  -- ---- the edited file

  module _ (l : List ℕ) (hl : no_line_end l ≡ true) where
    new_line_lem : command_in rev k (line_with l w.here.ends) ≡ say_out (line_of rev l)
    unfolding command_in answer_in
    new_line_lem = rw (le-leb k max_lines line_reads.counted, text_new l w.here.ends hl)

    within : k ≤ length (lines_of bs)
    within =
        omega (arith, line_number w, ap length (lines_old w), length-append (lines_of w.before) (line_with w.line w.here.ends ∷ lines_of w.after))

    pub edit_is_reading : run_of rev (lines_of (edited w l)) ≡ with_span rs k (edit_rows rev (all_hold rs) k l)
    unfolding run_of
    edit_is_reading =
        ap (λ (z : List Line). run_from rev start z 0) (lines_set w l hl)
        ∙ (lines_afresh taken same_state has_ended bad_table ends_too_soon same_eq same_refl start (command_in rev)).edited (lines_of bs) rs h k line_from within (line_with l w.here.ends)
        ∙ ap (with_span rs k)
        (ap (λ (x : Out Command Refusal). on_out x (λ e. refused e k) (given rev rs k line_from line_upto l)) new_line_lem ∙ sym (edit_rows_lem rev rs k line_from line_upto l))
