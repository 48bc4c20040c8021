-- Which forms a line can have by its first bytes.
use mathlib.Core.Path.{◌≡◌, refl, sym, ap, subst, ◌∙◌}
use mathlib.Core.Bool.{Bool, true, false, not, ◌&&◌, ◌||◌, cond}
use mathlib.Core.List.{List, [], ◌∷◌, ◌++◌}
use Prim.Native.Nat.{ℕ, ◌-◌, ◌<◌, ◌≤◌}
use Prim.Native.Char.{code}
use native.Mathlib.Omega.{arith}
use borrow.Author.Tests.{ne_eqb}
use lib.Dec.{eqb}
use lib.ListN.{length, get_or, take, drop}
use lib.Seq.{take-length}
use Rattle.std.specs.Prelude.{Option, Some, None, ok_or, MatchOption, Result, Ok, Err, MatchResult, IsOkAnd}
use Rattle.std.proofs.Common.{append-nil, sub-one}
use Rattle.std.specs.List.{list_any}
use Rattle.lists.specs.Words.{bytes, starts_with}
use Rattle.lists.proofs.Words.{starts_true}
use Rattle.points.specs.declared.Point.{Point}
use Rattle.points.specs.declared.Arc.{Arc}
use Rattle.rules.specs.declared.Command.{Command}
use Rattle.rules.specs.declared.Command.TheVariants as K
use Rattle.rules.specs.declared.Refusal.{Refusal}
use Rattle.rules.specs.declared.Revision.{Revision}
use Rattle.rules.specs.Refusals.{no_such_form}
use Rattle.rules.specs.Commands.{Form, m48, metric, inch, percent, g05, g00, hit, m15, m16, g01, g02, g03, m30, Formed, no_form, at_end, no_semicolon, comment_form, point_form, tool_form, form_of, column_after, says, meaning_of, on_form, command_of}
use Rattle.rules.proofs.Columns.{same_columns}
use Rattle.command.specs.Parts.{said, answer_of, PointLine, ArcLine, ToolLine, NoWord}

-- ---- a line's first bytes

first : (s : List ℕ) {b : ℕ} → get_or s 0 0 ≡ b → 0 < b → b ∷ drop 1 s ≡ s
first [] e h = absurd (omega arith)
first (a ∷ l) e h = ap (λ (z : ℕ). z ∷ l) (sym e)

three : (s : List ℕ) {a b c : ℕ} → get_or s 0 0 ≡ a → get_or s 1 0 ≡ b → get_or s 2 0 ≡ c → 0 < c → a ∷ b ∷ c ∷ drop 3 s ≡ s
three [] e f g h = absurd (omega arith)
three (x ∷ []) e f g h = absurd (omega arith)
three (x ∷ y ∷ []) e f g h = absurd (omega arith)
three (x ∷ y ∷ z ∷ l) e f g h = cc

take_rest : (s : List ℕ) → take (length s - 1) (drop 1 s) ≡ drop 1 s
take_rest [] = refl
take_rest (b ∷ l) = rw sub-one (take-length l)

semicolons : (l : List ℕ) → no_semicolon l ≡ not (list_any (λ (b : ℕ). eqb b (code ";")) l)
unfolding no_semicolon
semicolons [] = refl
semicolons (b ∷ l) = by (eqb b (code ";")) (semicolons l)
  where
    by : (t : Bool) → no_semicolon l ≡ not (list_any (λ (b : ℕ). eqb b (code ";")) l) → (not t && no_semicolon l) ≡ not (t || list_any (λ (b : ℕ). eqb b (code ";")) l)
    by true e = refl
    by false e = e

-- m is the command k of r, a point or an arc
abbrev Mapped : {A : Type 0} → (A → Command) → Result A Refusal → Result Command Refusal → Type 0
Mapped k r m = MatchResult r (λ x. IsOkAnd m (λ y. y ≡ k x)) (λ e. m ≡ Err e)

mapped : {A : Type 0} (k : A → Command) (r : Result A Refusal) (m : Result Command Refusal) → Mapped k r m → said m ≡ answer_of k r
mapped k (Ok x) (Ok y) h = ap says h
mapped k (Ok x) (Err e) h = absurd h
mapped k (Err e) m h = ap said h

module _ (rev : Revision) (s : List ℕ) where
  -- a hit's X belongs to its point
  pub hit_line : get_or s 0 0 ≡ code "X" → (r : Result Point Refusal) → PointLine s 0 r → (m : Result Command Refusal) → Mapped K.Hit r m → said m ≡ command_of rev s
  unfolding PointLine command_of form_of starts_with meaning_of
  hit_line e r h m q =
      mapped K.Hit r m q ∙ h K.Hit hit (λ after x y. refl)
      ∙ subst (λ (l : List ℕ). on_form (column_after 0 l) (point_form l (λ x y rest. at_end rest (hit x y))) ≡ command_of rev l) (first s e (omega arith)) refl

  -- behind its T no other letter has passed
  pub tool_line : get_or s 0 0 ≡ code "T" → (r : Result Command Refusal) → ToolLine rev s r → said r ≡ command_of rev s
  unfolding ToolLine command_of form_of starts_with column_after
  tool_line e r h =
      h ∙ same_columns (column_after 1 (drop 1 s)) (column_after 0 (code "T" ∷ drop 1 s)) refl refl refl refl (tool_form rev (drop 1 s))
      ∙ ap (command_of rev) (first s e (omega arith))

  -- nor behind G and two digits
  column_past : (a b c : ℕ) → a ≤ code "9" → b ≤ code "9" → code "A" ≤ c → (code "G" ≡ c → ⊥)
      → column_after 3 (drop 3 s) c ≡ column_after 0 (code "G" ∷ a ∷ b ∷ drop 3 s) c
  unfolding column_after
  column_past a b c p q h n = rw (ne_eqb (code "G") c n, ne_eqb a c (omega arith), ne_eqb b c (omega arith))

  module _ (g : get_or s 0 0 ≡ code "G") (z : get_or s 1 0 ≡ code "0") where
    g_line : (b : ℕ) → get_or s 2 0 ≡ b → 0 < b → b ≤ code "9" → (f : Formed) → form_of rev (code "G" ∷ code "0" ∷ b ∷ drop 3 s) ≡ f
        → on_form (column_after 3 (drop 3 s)) f ≡ command_of rev s
    unfolding command_of
    g_line b e h k f q =
        same_columns (column_after 3 (drop 3 s)) (column_after 0 (code "G" ∷ code "0" ∷ b ∷ drop 3 s))
        (column_past (code "0") b (code "X") (omega arith) k (omega arith) (omega arith)) (column_past (code "0") b (code "Y") (omega arith) k (omega arith) (omega arith))
        (column_past (code "0") b (code "A") (omega arith) k (omega arith) (omega arith)) (column_past (code "0") b (code "C") (omega arith) k (omega arith) (omega arith)) f
        ∙ ap (on_form (column_after 0 (code "G" ∷ code "0" ∷ b ∷ drop 3 s))) (sym q) ∙ ap (command_of rev) (three s g z e h)

    module _ (r : Result Point Refusal) (h : PointLine s 3 r) (m : Result Command Refusal) where
      pub g00_line : get_or s 2 0 ≡ code "0" → Mapped K.G00 r m → said m ≡ command_of rev s
      unfolding PointLine form_of starts_with meaning_of
      g00_line e q = mapped K.G00 r m q ∙ h K.G00 g00 (λ after x y. refl) ∙ g_line (code "0") e (omega arith) (omega arith) _ refl

      pub g01_line : get_or s 2 0 ≡ code "1" → Mapped K.G01 r m → said m ≡ command_of rev s
      unfolding PointLine form_of starts_with meaning_of
      g01_line e q = mapped K.G01 r m q ∙ h K.G01 g01 (λ after x y. refl) ∙ g_line (code "1") e (omega arith) (omega arith) _ refl

    module _ (r : Result Arc Refusal) (h : ArcLine s 3 r) (m : Result Command Refusal) where
      pub g02_line : get_or s 2 0 ≡ code "2" → Mapped K.G02 r m → said m ≡ command_of rev s
      unfolding ArcLine form_of starts_with meaning_of
      g02_line e q = mapped K.G02 r m q ∙ h K.G02 g02 (λ after x y a. refl) ∙ g_line (code "2") e (omega arith) (omega arith) _ refl

      pub g03_line : get_or s 2 0 ≡ code "3" → Mapped K.G03 r m → said m ≡ command_of rev s
      unfolding ArcLine form_of starts_with meaning_of
      g03_line e q = mapped K.G03 r m q ∙ h K.G03 g03 (λ after x y a. refl) ∙ g_line (code "3") e (omega arith) (omega arith) _ refl

  -- after its `;` a comment holds no second one
  one_semicolon : {v : Bool} → list_any (λ (b : ℕ). eqb b (code ";")) (take (length s - 1) (drop 1 s)) ≡ v → no_semicolon (drop 1 s) ≡ not v
  one_semicolon h = semicolons (drop 1 s) ∙ ap not (ap (list_any (λ (b : ℕ). eqb b (code ";"))) (sym (take_rest s)) ∙ h)

  pub comment_line : get_or s 0 0 ≡ code ";" → list_any (λ (b : ℕ). eqb b (code ";")) (take (length s - 1) (drop 1 s)) ≡ false → says K.Comment ≡ command_of rev s
  unfolding command_of form_of starts_with comment_form meaning_of
  comment_line e h = by (drop 1 s) (one_semicolon h) ∙ ap (command_of rev) (first s e (omega arith))
    where
      by : (l : List ℕ) → no_semicolon l ≡ true → says K.Comment ≡ command_of rev (code ";" ∷ l)
      by l n = rw n

  -- none of these lines, and no word
  module _ (x : 0 < length s → get_or s 0 0 ≡ code "X" → ⊥) (t : 0 < length s → get_or s 0 0 ≡ code "T" → ⊥)
      (c : 0 < length s → get_or s 0 0 ≡ code ";" → list_any (λ (b : ℕ). eqb b (code ";")) (take (length s - 1) (drop 1 s)) ≡ true)
      (g : 2 < length s → get_or s 0 0 ≡ code "G" → get_or s 1 0 ≡ code "0" → code "0" ≤ get_or s 2 0 → get_or s 2 0 ≤ code "3" → ⊥) where
    pass : (v : Bool) {a b : Formed} → (v ≡ true → a ≡ no_form) → b ≡ no_form → cond v a b ≡ no_form
    pass true h k = h refl
    pass false h k = k

    no_word : (w : List ℕ) (f : Form) → (s ≡ w → ⊥) → starts_with s w ≡ true → at_end (drop (length w) s) f ≡ no_form
    no_word w f n h = by (drop (length w) s) (starts_true s w h)
      where
        by : (l : List ℕ) → s ≡ w ++ l → at_end l f ≡ no_form
        by [] e = absurd (n (e ∙ append-nil w))
        by (b ∷ l) e = refl

    no_letter : (b : ℕ) → (0 < length s → get_or s 0 0 ≡ b → ⊥) → starts_with s (b ∷ []) ≡ true → ⊥
    no_letter b n h = let e = starts_true s (b ∷ []) h in n (omega (arith, ap length e)) (ap (λ (l : List ℕ). get_or l 0 0) e)

    no_g : (b : ℕ) → code "0" ≤ b → b ≤ code "3" → starts_with s (code "G" ∷ code "0" ∷ b ∷ []) ≡ true → ⊥
    no_g b p q h =
        let e = starts_true s (code "G" ∷ code "0" ∷ b ∷ []) h in
        let d : get_or s 2 0 ≡ b = ap (λ (l : List ℕ). get_or l 2 0) e in
        g (omega (arith, ap length e)) (ap (λ (l : List ℕ). get_or l 0 0) e) (ap (λ (l : List ℕ). get_or l 1 0) e) (omega arith) (omega arith)

    no_line : NoWord s → form_of rev s ≡ no_form
    unfolding form_of comment_form
    no_line (not_m48, not_metric, not_inch, not_percent, not_g05, not_m15, not_m16, not_m30) =
        pass (starts_with s (bytes ";")) (λ h. let e = starts_true s (bytes ";") h in rw (one_semicolon (c (omega (arith, ap length e)) (ap (λ (l : List ℕ). get_or l 0 0) e))))
        (pass (starts_with s (bytes "M48")) (no_word (bytes "M48") m48 not_m48)
        (pass (starts_with s (bytes "METRIC")) (no_word (bytes "METRIC") metric not_metric)
        (pass (starts_with s (bytes "INCH")) (no_word (bytes "INCH") inch not_inch)
        (pass (starts_with s (bytes "%")) (no_word (bytes "%") percent not_percent)
        (pass (starts_with s (bytes "G05")) (no_word (bytes "G05") g05 not_g05)
        (pass (starts_with s (bytes "G00")) (λ h. absurd (no_g (code "0") (omega arith) (omega arith) h))
        (pass (starts_with s (bytes "T")) (λ h. absurd (no_letter (code "T") t h))
        (pass (starts_with s (bytes "X")) (λ h. absurd (no_letter (code "X") x h))
        (pass (starts_with s (bytes "M15")) (no_word (bytes "M15") m15 not_m15)
        (pass (starts_with s (bytes "M16")) (no_word (bytes "M16") m16 not_m16)
        (pass (starts_with s (bytes "G01")) (λ h. absurd (no_g (code "1") (omega arith) (omega arith) h))
        (pass (starts_with s (bytes "G02")) (λ h. absurd (no_g (code "2") (omega arith) (omega arith) h))
        (pass (starts_with s (bytes "G03")) (λ h. absurd (no_g (code "3") (omega arith) (omega arith) h))
        (pass (starts_with s (bytes "M30")) (no_word (bytes "M30") m30 not_m30) refl))))))))))))))

    pub other_line : (o : Option Command) → MatchOption o (NoWord s) (λ k. (rev : Revision) → says k ≡ command_of rev s) → said (ok_or o no_such_form) ≡ command_of rev s
    unfolding command_of
    other_line (Some k) h = h rev
    other_line None h = rw (no_line h)

pub ruleset lines = (tool_line, comment_line)
