-- Every line of an accepted file is a line that demand 3 speaks of, and the edited file is one: its bytes are its lines
-- put together again.
use mathlib.Core.Path.{◌≡◌, refl, sym, ap, ◌∙◌, subst}
use mathlib.Core.Bool.{true, false, false≢true}
use mathlib.Core.List.{List, [], ◌∷◌, ◌++◌, append_assoc, append-nil}
use Prim.Native.Nat.{ℕ, zero, suc, ◌-◌, ◌<◌, ◌≤◌}
use native.Mathlib.Omega.{arith}
use lib.ListN.{length, get_or, set}
use lib.Seq.{get_or_at}
use Rattle.runs.specs.Machine.{accepted}
use Rattle.runs.proofs.Chains.{chain_length}
use Rattle.rules.specs.declared.Revision.{Revision}
use Rattle.rules.specs.Lines.{LF, Line, empty_line, lines_of, ends_in_cr, text_of, NoLF, AllEnded}
use Rattle.rules.specs.Spelling.{LineEnd, lf, crlf}
use Rattle.rules.specs.Reading.{Rows, file_of}
use Rattle.rules.specs.Editing.{no_line_end}
use Rattle.laws.proofs.Lines.{ends_cr, ended_line, cr_of, line_with, ended, last, FirstOf, first_of, first_line, no_cr_end, join_of, join_lines}
use Rattle.answers.proofs.AcceptedFile.{file_accepts, file_ended}
use Rattle.demands.specs.EditedFile.{none, one_more, LineOf, edited}
use Rattle.demands.proofs.EditedLines.{line_number, lines_old, lines_set}

-- ---- line k

-- the first line, whose bytes are b
module _ (bs b rest : List ℕ) (p : bs ≡ b ++ (LF ∷ rest)) (h : NoLF b) where
  first : LineOf bs 1
  first = record {
    before = [];
    from = bs;
    parts = refl;
    lines_before = 0;
    whole_lines = none;
    number = refl;
    line = text_of b;
    after = rest;
    here = first_line bs b rest p h;
  }

  -- a line of the rest is a line of all
  later : {k : ℕ} → LineOf rest k → LineOf bs (suc k)
  later w = record {
    before = b ++ (LF ∷ w.before);
    from = w.from;
    parts = p ∙ ap (λ (z : List ℕ). b ++ (LF ∷ z)) w.parts ∙ sym (append_assoc b (LF ∷ w.before) w.from);
    lines_before = suc w.lines_before;
    whole_lines = one_more (first_line (b ++ (LF ∷ w.before)) b w.before refl h) w.whole_lines;
    number = ap suc w.number;
    line = w.line;
    after = w.after;
    here = w.here;
  }

-- among lines that are all ended
line_in : (k : ℕ) (bs : List ℕ) (ls : List Line) → FirstOf bs ls → AllEnded ls → k < length ls
    → ((rest : List ℕ) → AllEnded (lines_of rest) → 1 ≤ k → k ≤ length (lines_of rest) → LineOf rest k) → LineOf bs (suc k)
line_in k bs [] f h n ih = absurd (omega arith)
line_in zero bs (l ∷ ls) (ended rest t p f r) h n ih = first bs l.bytes rest p f
line_in (suc k) bs (l ∷ ls) (ended rest t p f r) h n ih = later bs l.bytes rest p f (ih rest (rw r h.1) (omega arith) (omega (arith, ap length r)))
line_in k bs (l ∷ ls) (last t m f) h n ih = absurd (false≢true (sym t ∙ h.0))

line_at : (k : ℕ) (bs : List ℕ) → AllEnded (lines_of bs) → k < length (lines_of bs) → LineOf bs (suc k)
line_at zero bs h n = line_in zero bs (lines_of bs) (first_of bs) h n (λ rest g j m. absurd (omega arith))
line_at (suc k) bs h n = line_in (suc k) bs (lines_of bs) (first_of bs) h n (λ rest g j m. line_at k rest g m)

pub every_line : (rev : Revision) (bs : List ℕ) (rs : Rows) → file_of rev bs ≡ accepted rs → (k : ℕ) → 1 ≤ k → k ≤ length rs → LineOf bs k
every_line rev bs rs h k a b =
    let n : suc (k - 1) ≡ k = omega arith in
    subst (LineOf bs) n (line_at (k - 1) bs (file_ended rev bs rs h) (omega (arith, chain_length (file_accepts rev bs rs h).reads)))

-- ---- one edited file

-- two ends of one line
same_end : (a b : List ℕ) {d e : List ℕ} (v : LineEnd d) (w : LineEnd e) → (d ≡ LF ∷ [] → ends_in_cr a ≡ false) → (e ≡ LF ∷ [] → ends_in_cr b ≡ false)
    → a ++ cr_of v ≡ b ++ cr_of w → cr_of v ≡ cr_of w
same_end a b lf lf f g h = refl
same_end a b crlf crlf f g h = refl
same_end a b lf crlf f g h = absurd (false≢true (sym (f refl) ∙ ap ends_in_cr (sym (append-nil a) ∙ h) ∙ ends_cr b))
same_end a b crlf lf f g h = absurd (false≢true (sym (g refl) ∙ ap ends_in_cr (sym (append-nil b) ∙ sym h) ∙ ends_cr a))

module _ {bs : List ℕ} {k : ℕ} where
  at_line : (w : LineOf bs k) → get_or (lines_of bs) (k - 1) empty_line ≡ line_with w.line w.here.ends
  at_line w =
      let n : length (lines_of w.before) ≡ k - 1 = omega (arith, line_number w) in
      rw (lines_old w) (get_or_at (lines_of w.before) (line_with w.line w.here.ends) (lines_of w.after) empty_line (k - 1) n)

  pub one_edited : (v w : LineOf bs k) (l : List ℕ) → no_line_end l ≡ true → edited v l ≡ edited w l
  one_edited v w l h =
      let c : cr_of v.here.ends ≡ cr_of w.here.ends
      = same_end v.line w.line v.here.ends w.here.ends (λ e. no_cr_end v.line (v.here.no_cr_left e)) (λ e. no_cr_end w.line (w.here.no_cr_left e)) (ap (λ (z : Line). z.bytes) (sym (at_line v) ∙ at_line w)) in
      let d : lines_of (edited v l) ≡ lines_of (edited w l)
      = lines_set v l h ∙ ap (λ (z : List ℕ). set (lines_of bs) (k - 1) (ended_line (l ++ z))) c ∙ sym (lines_set w l h) in
      sym (join_lines (edited v l)) ∙ ap join_of d ∙ join_lines (edited w l)
