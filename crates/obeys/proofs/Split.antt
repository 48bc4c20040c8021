-- What line i of a file says, and the lines that a spelled line and its end fall into.
use mathlib.Core.Path.{◌≡◌, refl, sym, ap, ◌∙◌, subst}
use mathlib.Core.Bool.{Bool, true, false, cond}
use mathlib.Core.List.{List, [], ◌∷◌, ◌++◌, append_assoc}
use Prim.Native.Nat.{ℕ, ◌<◌, ◌≤◌}
use native.Mathlib.Omega.{arith}
use borrow.Author.Tests.{le-leb, lt-leb, leb-true, leb-false}
use lib.Dec.{leb}
use Rattle.lists.proofs.Choice.{cond_all}
use Rattle.runs.specs.Machine.{Out, yields, stops}
use Rattle.rules.specs.declared.Command.{Command}
use Rattle.rules.specs.declared.Refusal.{Refusal}
use Rattle.rules.specs.declared.LineAnswer.{LineAnswer}
use Rattle.rules.specs.declared.Revision.{Revision}
use Rattle.rules.specs.Numbers.{max_lines}
use Rattle.rules.specs.Lines.{LF, CR, Line, lines_of, ends_in_cr, text_of}
use Rattle.rules.specs.Refusals.{too_many_lines, line_not_ended}
use Rattle.rules.specs.Commands.{says_no, line_of}
use Rattle.rules.specs.Spelling.{Printable, SpellsLine, LineEnd, lf, crlf, SpellsFile, line}
use Rattle.rules.specs.Reading.{say_out, answer_in, command_in}
use Rattle.laws.proofs.Lines.{printable_without, no_cr, text_plain, cr_last, line_with, end_line, end_text}
use Rattle.obeys.specs.Faults.{LineRefused}
use Rattle.obeys.proofs.Lines.{printable_read, LineSays, line_sound, line_says, line_read}

-- ---- a line's text

-- what is left of a line: all, or all but a CR
data CutTo : List ℕ → List ℕ → Type 0 where
  same : {b : List ℕ} → CutTo b b
  less : {t : List ℕ} → CutTo (t ++ (CR ∷ [])) t

text_cut : (l : List ℕ) → CutTo l (text_of l)
text_cut l = by (ends_in_cr l) refl
  where
    by : (t : Bool) → ends_in_cr l ≡ t → CutTo l (text_of l)
    by true e = subst (λ (z : List ℕ). CutTo z (text_of l)) (sym (cr_last l e)) less
    by false e = subst (CutTo l) (sym (text_plain l e)) same

-- ---- line i of a file

-- it is a command: it is ended, and its bytes without its end spell that command
pub record LineReads (rev : Revision) (i : ℕ) (l : Line) (c : Command) : Type 0 where
  pub counted : i ≤ max_lines
  pub ends : l.ended ≡ true
  pub spelling : SpellsLine rev (text_of l.bytes) c

-- or it is none: 2, there are more lines than allowed; or 3, it is not ended; or its bytes spell none
pub data LineFault (rev : Revision) (i : ℕ) (l : Line) : Refusal → Type 0 where
  beyond : max_lines < i → LineFault rev i l too_many_lines
  unended : i ≤ max_lines → l.ended ≡ false → LineFault rev i l line_not_ended
  unread : {e : Refusal} → i ≤ max_lines → l.ended ≡ true → LineRefused rev (text_of l.bytes) e → LineFault rev i l e

abbrev InFile : Revision → ℕ → Line → Out Command Refusal → Type 0
InFile rev i l (yields c) = LineReads rev i l c
InFile rev i l (stops e) = LineFault rev i l e

ended_says : (rev : Revision) (i : ℕ) (l : Line) (o : Out Command Refusal) → i ≤ max_lines → l.ended ≡ true → LineSays rev (text_of l.bytes) o → InFile rev i l o
ended_says rev i l (yields c) h e w = record { counted = h; ends = e; spelling = w }
ended_says rev i l (stops r) h e w = unread h e w

in_file_sound : (rev : Revision) (i : ℕ) (l : Line) → InFile rev i l (command_in rev i l)
unfolding command_in answer_in
in_file_sound rev i l =
    cond_all (λ (a : LineAnswer). InFile rev i l (say_out a)) (leb i max_lines) {b = says_no too_many_lines}
    (λ h. cond_all (λ (a : LineAnswer). InFile rev i l (say_out a)) l.ended {b = says_no line_not_ended}
    (λ e. ended_says rev i l (say_out (line_of rev (text_of l.bytes))) (leb-true i max_lines h) e (line_sound rev (text_of l.bytes)))
    (λ e. unended (leb-true i max_lines h) e))
    (λ h. beyond (leb-false i max_lines h))

fault_stops : {rev : Revision} {i : ℕ} {l : Line} {e : Refusal} → LineFault rev i l e → command_in rev i l ≡ stops e
unfolding command_in answer_in
fault_stops {rev} {i} (beyond h) = rw (lt-leb i max_lines h)
fault_stops {rev} {i} (unended h e) = rw (le-leb i max_lines h, e)
fault_stops {rev} {i} {l} (unread {e = r} h e w) =
    let a : answer_in rev i l ≡ line_of rev (text_of l.bytes) = rw (le-leb i max_lines h, e) in
    ap say_out a ∙ (line_says rev (text_of l.bytes) (stops r)).1 w

-- it is refused exactly where it is at fault, and so; and is a command exactly where it reads as one
pub line_fault : {rev : Revision} (i : ℕ) (l : Line) (e : Refusal) → (command_in rev i l ≡ stops e → LineFault rev i l e) × (LineFault rev i l e → command_in rev i l ≡ stops e)
line_fault {rev} i l e = (λ d. subst (InFile rev i l) d (in_file_sound rev i l), fault_stops)

pub yields_line : {rev : Revision} (i : ℕ) (l : Line) (c : Command) → command_in rev i l ≡ yields c → LineReads rev i l c
yields_line {rev} i l c e = subst (InFile rev i l) e (in_file_sound rev i l)

pub line_yields : {rev : Revision} {i : ℕ} {l : Line} {c : Command} → LineReads rev i l c → command_in rev i l ≡ yields c
unfolding command_in answer_in
line_yields {rev} {i} w = rw (le-leb i max_lines w.counted, w.ends, line_read w.spelling)

-- ---- a line and the lines after it, as bytes of a file

cut_spells : {rev : Revision} {b t rest : List ℕ} {c : Command} {cs : List Command} → CutTo b t → SpellsLine rev t c → SpellsFile rev rest cs → SpellsFile rev (b ++ (LF ∷ rest)) (c ∷ cs)
cut_spells same w f = line w lf f
cut_spells {rev} {rest = rest} {c} {cs} (less {t = t}) w f = subst (λ (z : List ℕ). SpellsFile rev z (c ∷ cs)) (sym (append_assoc t (CR ∷ []) (LF ∷ rest))) (line w crlf f)

pub spells_first : {rev : Revision} {i : ℕ} (l : Line) (rest : List ℕ) (c : Command) (cs : List Command) → LineReads rev i l c → SpellsFile rev rest cs
    → SpellsFile rev (l.bytes ++ (cond l.ended (LF ∷ []) [] ++ rest)) (c ∷ cs)
spells_first l rest c cs w f = rw w.ends (cut_spells (text_cut l.bytes) w.spelling f)

-- a spelled line and its end fall into one line, whose text it is
module _ {l e : List ℕ} (p : Printable l) (w : LineEnd e) where
  pub spelled_falls : (rest : List ℕ) → lines_of (l ++ (e ++ rest)) ≡ line_with l w ∷ lines_of rest
  spelled_falls rest = end_line l w rest (printable_without LF (omega arith) l (printable_read p))

  pub spelled_text : text_of (line_with l w).bytes ≡ l
  spelled_text = end_text l w (λ _. no_cr l (printable_without CR (omega arith) l (printable_read p)))
