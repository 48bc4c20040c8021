-- The lines of the edited file are those of the file, line k's bytes replaced: whole lines before it are read by
-- themselves, and a line is read up to its LF.
use mathlib.Core.Path.{◌≡◌, refl, sym, ap, ◌∙◌}
use mathlib.Core.Bool.{true}
use mathlib.Core.List.{List, ◌∷◌, ◌++◌}
use Prim.Native.Nat.{ℕ, suc, ◌+◌, ◌-◌}
use native.Mathlib.Omega.{arith}
use lib.ListN.{length, set}
use lib.Seq.{set_at}
use Rattle.rules.specs.Lines.{Line, lines_of, text_of, AllEnded}
use Rattle.rules.specs.Spelling.{LineEnd}
use Rattle.rules.specs.Editing.{no_line_end}
use Rattle.laws.proofs.Lines.{new_no_lf, new_no_cr, no_cr, line_with, end_line, end_text, lines_append, first_falls}
use Rattle.demands.specs.EditedFile.{WholeLines, none, one_more, LineOf, edited}

-- a new line's text is what was given
pub text_new : (l : List ℕ) {e : List ℕ} (w : LineEnd e) → no_line_end l ≡ true → text_of (line_with l w).bytes ≡ l
text_new l w h = end_text l w (λ _. no_cr l (new_no_cr l h))

-- ---- the file's lines, and the edited file's

whole_ended : {b : List ℕ} {n : ℕ} → WholeLines b n → AllEnded (lines_of b) × (length (lines_of b) ≡ n)
unfolding lines_of
whole_ended none = (tt, refl)
whole_ended (one_more w h) =
    let g = whole_ended h in
    let e = first_falls w in
    (rw e (refl, g.0), ap length e ∙ ap suc g.1)

module _ {bs : List ℕ} {k : ℕ} (w : LineOf bs k) where
  pub line_number : k ≡ length (lines_of w.before) + 1
  line_number = omega (arith, w.number, (whole_ended w.whole_lines).1)

  pub lines_old : lines_of bs ≡ lines_of w.before ++ (line_with w.line w.here.ends ∷ lines_of w.after)
  lines_old =
      ap lines_of w.parts ∙ lines_append w.before w.from (whole_ended w.whole_lines).0
      ∙ ap (λ (z : List Line). lines_of w.before ++ z) (first_falls w.here)

  module _ (l : List ℕ) (h : no_line_end l ≡ true) where
    pub lines_edited : lines_of (edited w l) ≡ lines_of w.before ++ (line_with l w.here.ends ∷ lines_of w.after)
    lines_edited =
        lines_append w.before (l ++ (w.here.end ++ w.after)) (whole_ended w.whole_lines).0
        ∙ ap (λ (z : List Line). lines_of w.before ++ z) (end_line l w.here.ends w.after (new_no_lf l h))

    -- the same lines, but for line k
    pub lines_set : lines_of (edited w l) ≡ set (lines_of bs) (k - 1) (line_with l w.here.ends)
    lines_set =
        let n : length (lines_of w.before) ≡ k - 1 = omega (arith, line_number) in
        lines_edited ∙ sym (rw lines_old (set_at (lines_of w.before) (line_with w.line w.here.ends) (lines_of w.after) (line_with l w.here.ends) (k - 1) n))
