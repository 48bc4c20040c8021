-- There is room for every part of every answer: no line and no count goes further than a file's lines or the bytes of its text, no column
-- further than the longest line (crate answers, Small).
use mathlib.Core.Path.{◌≡◌, refl, sym, ◌∙◌}
use mathlib.Core.List.{List}
use Prim.Native.Nat.{ℕ, ◌<◌}
use native.Mathlib.Omega.{arith}
use lib.IntN.{ℤ}
use Rattle.rules.specs.Results.{HoleAnswer, refused_at}
use Rattle.rules.specs.declared.Refusal.{Refusal}
use Rattle.rules.specs.declared.Revision.{Revision}
use Rattle.rules.specs.declared.Counts.{Counts}
use Rattle.rules.specs.Answers.{Said, refused, said, hole_said}
use Rattle.rules.specs.Reading.{read_answer}
use Rattle.rules.specs.Editing.{meeting_answer, edit_answer}
use Rattle.rules.specs.Asking.{hole_answer}
use Rattle.rules.specs.Writing.{write_answer}
use Rattle.rules.proofs.Said.{hole_said_one}
use Rattle.answers.proofs.Small as Answers
use Rattle.xnc.specs.Door.{wide, Narrow}

narrow_of : {b : ℕ} → b < wide → {s t : Said} → s ≡ t → Answers.Small b t → Narrow s
narrow_of h e w = rw e (record { number = omega (arith, w.number); column = omega (arith, w.column); value = omega (arith, w.value) })

pub read_small : (rev : Revision) (file : List ℕ) (table : List ℤ) {s : Said} → s ≡ said (read_answer rev file table) → Narrow s
read_small rev file table h = narrow_of (omega arith) h (Answers.read_small rev file table)

pub meeting_small : (rev : Revision) (table : List ℤ) (n line : ℕ) (text : List ℕ) {s : Said} → s ≡ said (meeting_answer rev table n line text) → Narrow s
meeting_small rev table n line text h = narrow_of (omega arith) h (Answers.meeting_small rev table n line text)

pub edit_small : (rev : Revision) (table : List ℤ) (n line : ℕ) (text : List ℕ) (c : Counts) {s : Said} → s ≡ said (edit_answer rev table n line text c) → Narrow s
edit_small rev table n line text c h = narrow_of (omega arith) h (Answers.edit_small rev table n line text c)

pub write_small : (table : List ℤ) (n : ℕ) (text : List ℕ) {s : Said} → s ≡ said (write_answer table n text) → Narrow s
write_small table n text h = narrow_of (omega arith) h (Answers.write_small table n text)

pub hole_small : (table : List ℤ) (n line : ℕ) {a : HoleAnswer} → hole_said a ≡ hole_said (hole_answer table n line) → (e : Refusal) (i : ℕ) → a ≡ refused_at e i
    → Narrow (refused e i)
hole_small table n line h e i w = narrow_of (omega arith) refl (Answers.hole_small table n line e i (sym (hole_said_one h) ∙ w))
