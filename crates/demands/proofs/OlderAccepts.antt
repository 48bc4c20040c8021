-- A file is its reading, and what 2021 reads so 2019 does; an edit depends on the revision by its new line alone.
use mathlib.Core.Path.{◌≡◌, refl, sym, ◌∙◌}
use mathlib.Core.List.{List}
use Prim.Native.Nat.{ℕ}
use lib.IntN.{ℤ}
use Rattle.std.specs.Prelude.{Ok}
use Rattle.lists.specs.Words.{starts_with}
use Rattle.rules.specs.declared.Command.{Command}
use Rattle.rules.specs.declared.Revision.{Revision}
use Rattle.rules.specs.declared.Counts.{Counts}
use Rattle.rules.specs.declared.Revision.TheVariants.{Rev2019, Rev2021}
use Rattle.rules.specs.Numbers.{is_digit, digits_of, magnitude_of, unsigned_of, millionths, is_size, is_tool}
use Rattle.rules.specs.Lines.{is_printable}
use Rattle.rules.specs.Commands.{tool_form, form_of, in_range, meaning_of, command_of, line_of}
use Rattle.rules.specs.Spelling.{SpellsLine}
use Rattle.rules.specs.Reading.{file_of, read_answer, read_leaves}
use Rattle.rules.specs.Counting.{read_counts}
use Rattle.rules.specs.Editing.{edit_rows, edit_of, edit_counted, edit_answer, edit_leaves, edit_counts}
use Rattle.obeys.proofs.Lines.{line_read}
use Rattle.obeys.proofs.Files.{file_iff}
use Rattle.obeys.proofs.Older.{older_line, older_reading}
use Rattle.answers.proofs.AcceptedFile.{read_done}
use Rattle.demands.specs.EditRefused.{Meets, agree, last}
use Rattle.demands.specs.OlderAccepts.{OneDigitLines, OlderAccepts}
use Rattle.demands.proofs.CountsExactly.{edit_refused_exactly}
use Rattle.demands.proofs.OneDigit.{always_5, never_5, all_else}

-- ---- a file

-- what is answered and left is the verdict's
pub same_file : (v w : Revision) (bs : List ℕ) (t : List ℤ) → file_of v bs ≡ file_of w bs
    → (read_answer v bs t ≡ read_answer w bs t) × (read_leaves v bs t ≡ read_leaves w bs t) × (read_counts v bs t ≡ read_counts w bs t)
unfolding read_answer read_leaves read_counts
same_file v w bs t e = (rw e, rw e, rw e)

read : (bs : List ℕ) (t : List ℤ) (n : ℕ) → read_answer Rev2021 bs t ≡ Ok n
    → (read_answer Rev2019 bs t ≡ Ok n) × (read_leaves Rev2019 bs t ≡ read_leaves Rev2021 bs t) × (read_counts Rev2019 bs t ≡ read_counts Rev2021 bs t)
read bs t n h =
    let d = read_done Rev2021 bs t n h in
    let older = (file_iff bs d.rows).1 (older_reading ((file_iff {rev = Rev2021} bs d.rows).0 d.read)) in
    let s = same_file Rev2019 Rev2021 bs t (older ∙ sym d.read) in
    (s.0 ∙ h, s.1, s.2)

-- ---- an edit

same_edit : (v w : Revision) (t : List ℤ) (n k : ℕ) (l : List ℕ) (c : Counts) → line_of v l ≡ line_of w l
    → (edit_answer v t n k l c ≡ edit_answer w t n k l c) × (edit_leaves v t n k l c ≡ edit_leaves w t n k l c) × (edit_counts v t n k l c ≡ edit_counts w t n k l c)
unfolding edit_answer edit_leaves edit_counts edit_counted edit_of edit_rows
same_edit v w t n k l c e = (rw e, rw e, rw e)

new_line_lem : {rev : Revision} {t : List ℤ} {n k : ℕ} {l : List ℕ} {m : ℕ} → Meets rev t n k l m → (c : Command) × SpellsLine rev l c
new_line_lem (agree {c = c} left w sp d u h) = (c, sp)
new_line_lem (last {c = c} w sp d u h) = (c, sp)

edit : (t : List ℤ) (n k : ℕ) (l : List ℕ) (c : Counts) (m : ℕ) → edit_answer Rev2021 t n k l c ≡ Ok m
    → (edit_answer Rev2019 t n k l c ≡ Ok m) × (edit_leaves Rev2019 t n k l c ≡ edit_leaves Rev2021 t n k l c) × (edit_counts Rev2019 t n k l c ≡ edit_counts Rev2021 t n k l c)
edit t n k l c m h =
    let w = (new_line_lem ((edit_refused_exactly.done Rev2021 t n k l c m).0 h).meets).1 in
    let s = same_edit Rev2019 Rev2021 t n k l c (line_read (older_line w) ∙ sym (line_read w)) in
    (s.0 ∙ h, s.1, s.2)

-- ---- all of it

one_digit_lines : OneDigitLines
unfolding line_of command_of form_of tool_form starts_with is_printable digits_of is_digit unsigned_of magnitude_of meaning_of in_range is_tool is_size millionths
one_digit_lines = record { taken = refl; refused = refl; zero = refl; three_digits = refl }

pub older_accepts : OlderAccepts
older_accepts = record {
  reading = λ bs rs w. older_reading w;
  read = read;
  edit = edit;
  all_else = all_else;
  always_5 = always_5;
  never_5 = never_5;
  lines = one_digit_lines;
}
