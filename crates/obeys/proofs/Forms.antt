-- A line has a form exactly where it spells it. The words that begin the forms differ, so of a spelled line every earlier
-- test fails by computing.
use mathlib.Core.Path.{◌≡◌, refl, sym, ap, ◌∙◌, subst}
use mathlib.Core.Bool.{true, not, cond}
use mathlib.Core.List.{List, [], ◌∷◌, ◌++◌, append_assoc, append-nil}
use Prim.Native.Nat.{ℕ, ◌≤◌}
use Prim.Native.Char.{code}
use borrow.Author.Tests.{ne_eqb, eqb-false, not-true}
use lib.Dec.{eqb}
use lib.ListN.{length, drop}
use Rattle.lists.specs.Words.{bytes, starts_with}
use Rattle.lists.proofs.Choice.{cond_all, both}
use Rattle.lists.proofs.Words.{begins, starts_true}
use Rattle.rules.specs.declared.Revision.{Revision}
use Rattle.rules.specs.Numbers.{is_digit, DigitRun, digits_of, Decimal, NumberRead, got, on_number, unsigned_of, signed_of}
use Rattle.rules.specs.Numbers as N
use Rattle.rules.specs.Commands.{Form, m48, metric, inch, declare, percent, g05, g00, select, hit, m15, m16, g01, g02, g03, m30, Formed, is, no_form, at_end, no_semicolon, comment_form, point_form, arc_form, fewest_declared, fewest_selected, most_digits, tool_digits, declare_form, select_form, after_tool, tool_form, form_of}
use Rattle.rules.specs.Spelling.{Digits, Unsigned, Signed, SpellsPoint, xy, SpellsArc, xya, SpellsDeclared, tc, NoSemicolon, other, Spells, comment_is, m48_is, metric_is, inch_is, declare_is, percent_is, g05_is, g00_is, select_is, hit_is, m15_is, m16_is, g01_is, g02_is, g03_is, m30_is}
use Rattle.rules.specs.Spelling as S
use Rattle.rules.proofs.Revisions.{digits_fit, fit_digits}
use Rattle.laws.proofs.Digits.{NoDigit, NoPoint}
use Rattle.obeys.proofs.Numbers.{digits_read, Found, Run, read_digits, Reads, unsigned_read, signed_read, read_unsigned, read_signed}

-- ---- what is spelled is read

at_end_lem : (l : List ℕ) (P : List ℕ → Type 0) → P (l ++ []) → P l
at_end_lem l P h = subst P (append-nil l) h

unsigned_end : {b : List ℕ} {d : Decimal} → Unsigned b d → unsigned_of b ≡ got d []
unfolding starts_with
unsigned_end {b} {d} w = at_end_lem b (λ z. unsigned_of z ≡ got d []) (unsigned_read w [] tt refl)

point_read : {b : List ℕ} {x y : Decimal} → SpellsPoint b x y → (rest : List ℕ) → NoDigit rest → NoPoint rest → (f : Decimal → Decimal → List ℕ → Formed) → point_form (b ++ rest) f ≡ f x y rest
unfolding point_form starts_with is_digit
point_read (xy {a = a} {b = b} v w) rest p q f = rw (append_assoc a (bytes "Y" ++ b) rest, signed_read v (bytes "Y" ++ (b ++ rest)) refl refl, signed_read w rest p q)

point_end : {b : List ℕ} {x y : Decimal} → SpellsPoint b x y → (f : Decimal → Decimal → List ℕ → Formed) → point_form b f ≡ f x y []
unfolding starts_with
point_end {b} {x} {y} w f = at_end_lem b (λ z. point_form z f ≡ f x y []) (point_read w [] tt refl f)

arc_read : {b : List ℕ} {x y r : Decimal} → SpellsArc b x y r → (f : Decimal → Decimal → Decimal → Form) → arc_form b f ≡ is (f x y r)
unfolding arc_form starts_with is_digit
arc_read (xya {b = b} {x = x} {y = y} w v) f =
    point_read w (bytes "A" ++ b) refl refl (λ x y rest. cond (starts_with rest (bytes "A")) (on_number (unsigned_of (drop 1 rest)) no_form (λ r rest'. at_end rest' (f x y r))) no_form)
    ∙ rw (unsigned_end v)

comment_read : {l : List ℕ} → NoSemicolon l → no_semicolon l ≡ true
unfolding no_semicolon
comment_read S.nothing = refl
comment_read (other {b = b} h w) = rw (ne_eqb b (code ";") h) (comment_read w)

declare_read : (rev : Revision) {b : List ℕ} {k t : ℕ} {d : Decimal} → SpellsDeclared b k t d → fewest_declared rev ≤ k → k ≤ most_digits
    → tool_form rev b ≡ is (declare t d)
unfolding tool_form starts_with is_digit
declare_read rev {k = k} (tc {b = b} w v) p q = rw (digits_read w (bytes "C" ++ b) refl, digits_fit (fewest_declared rev) k p q, unsigned_end v)

select_read : (rev : Revision) {ds : List ℕ} {k t : ℕ} → Digits ds k t → fewest_selected ≤ k → k ≤ most_digits → tool_form rev ds ≡ is (select t)
unfolding tool_form starts_with
select_read rev {ds} {k} {t} w p q = at_end_lem ds (λ z. tool_form rev z ≡ is (select t)) (rw (digits_read w [] tt, digits_fit fewest_selected k p q))

pub form_read : {rev : Revision} {l : List ℕ} {f : Form} → Spells rev l f → form_of rev l ≡ is f
unfolding form_of starts_with comment_form
form_read (comment_is w) = rw (comment_read w)
form_read m48_is = refl
form_read metric_is = refl
form_read inch_is = refl
form_read {rev} (declare_is w p q) = declare_read rev w p q
form_read percent_is = refl
form_read g05_is = refl
form_read (g00_is w) = point_end w (λ x y rest. at_end rest (g00 x y))
form_read {rev} (select_is w p q) = select_read rev w p q
form_read (hit_is (xy v w)) = point_end (xy v w) (λ x y rest. at_end rest (hit x y))
form_read m15_is = refl
form_read m16_is = refl
form_read (g01_is w) = point_end w (λ x y rest. at_end rest (g01 x y))
form_read (g02_is w) = arc_read w g02
form_read (g03_is w) = arc_read w g03
form_read m30_is = refl

-- ---- what is read is spelled

read_all : (P : Formed → Type 0) (Q : List ℕ → Decimal → Type 0) (l : List ℕ) (r : NumberRead) {k : Decimal → List ℕ → Formed}
    → Reads Q l r → P no_form → ((d : Decimal) (rest : List ℕ) → Found (λ b. Q b d) l rest → P (k d rest)) → P (on_number r no_form k)
read_all P Q l (got d rest) w f g = g d rest w
read_all P Q l N.no_number w f g = f

-- at the end, nothing is left
ended_all : (P : Formed → Type 0) (rest : List ℕ) (f : Form) → P no_form → (rest ≡ [] → P (is f)) → P (at_end rest f)
ended_all P [] f z g = g refl
ended_all P (b ∷ rest) f z g = z

found_end : (P : List ℕ → Type 0) (l rest : List ℕ) → Found P l rest → rest ≡ [] → P l
found_end P l rest v e = subst P (sym (v.parts ∙ ap (λ (z : List ℕ). v.b ++ z) e ∙ append-nil v.b)) v.has

point_found : (l r r' : List ℕ) (x y : Decimal) → Found (λ b. Signed b x) l (bytes "Y" ++ r) → Found (λ b. Signed b y) r r' → Found (λ b. SpellsPoint b x y) (bytes "X" ++ l) r'
point_found l r r' x y v w = record {
  b = bytes "X" ++ (v.b ++ (bytes "Y" ++ w.b));
  parts = ap (λ (z : List ℕ). bytes "X" ++ z) (v.parts ∙ ap (λ (z : List ℕ). v.b ++ (bytes "Y" ++ z)) w.parts ∙ sym (append_assoc v.b (bytes "Y" ++ w.b) r'));
  has = xy v.has w.has;
}

point_all : (P : Formed → Type 0) (l : List ℕ) (f : Decimal → Decimal → List ℕ → Formed) → P no_form
    → ((x y : Decimal) (rest : List ℕ) → Found (λ b. SpellsPoint b x y) l rest → P (f x y rest)) → P (point_form l f)
unfolding point_form
point_all P l f z g =
    cond_all P (starts_with l (bytes "X"))
    (λ s. read_all P Signed (drop 1 l) (signed_of (drop 1 l)) (read_signed (drop 1 l)) z
    (λ x rest v. cond_all P (starts_with rest (bytes "Y"))
    (λ t. read_all P Signed (drop 1 rest) (signed_of (drop 1 rest)) (read_signed (drop 1 rest)) z
    (λ y rest' w. g x y rest' (begins l (bytes "X") s (λ z. Found (λ b. SpellsPoint b x y) z rest')
    (point_found (drop 1 l) (drop 1 rest) rest' x y (subst (Found (λ b. Signed b x) (drop 1 l)) (starts_true rest (bytes "Y") t) v) w))))
    (λ _. z)))
    (λ _. z)

arc_all : (P : Formed → Type 0) (l : List ℕ) (f : Decimal → Decimal → Decimal → Form) → P no_form
    → ((x y r : Decimal) → SpellsArc l x y r → P (is (f x y r))) → P (arc_form l f)
unfolding arc_form
arc_all P l f z g =
    point_all P l (λ x y rest. cond (starts_with rest (bytes "A")) (on_number (unsigned_of (drop 1 rest)) no_form (λ r rest'. at_end rest' (f x y r))) no_form) z
    (λ x y rest v. cond_all P (starts_with rest (bytes "A"))
    (λ t. read_all P Unsigned (drop 1 rest) (unsigned_of (drop 1 rest)) (read_unsigned (drop 1 rest)) z
    (λ r rest' w. ended_all P rest' (f x y r) z (λ e. g x y r (arc_found rest x y r v (starts_true rest (bytes "A") t) (found_end (λ b. Unsigned b r) (drop 1 rest) rest' w e)))))
    (λ _. z))
  where
    arc_found : (rest : List ℕ) (x y r : Decimal) → Found (λ b. SpellsPoint b x y) l rest → rest ≡ bytes "A" ++ drop 1 rest → Unsigned (drop 1 rest) r → SpellsArc l x y r
    arc_found rest x y r v e u = subst (λ (z : List ℕ). SpellsArc z x y r) (sym (v.parts ∙ ap (λ (z : List ℕ). v.b ++ z) e)) (xya v.has u)

no_semicolon_lem : (l : List ℕ) → no_semicolon l ≡ true → NoSemicolon l
unfolding no_semicolon
no_semicolon_lem [] e = S.nothing
no_semicolon_lem (b ∷ l) e =
    let h = both (not (eqb b (code ";"))) (no_semicolon l) e in
    other (eqb-false b (code ";") (not-true (eqb b (code ";")) h.0)) (no_semicolon_lem l h.1)

starts_none : (l : List ℕ) → starts_with l [] ≡ true
unfolding starts_with
starts_none l = refl

module _ (rev : Revision) where
  abbrev pub Sound : List ℕ → Formed → Type 0
  Sound l (is f) = Spells rev l f
  Sound l no_form = Unit {0}

  -- a line that begins with a word: nothing more, a point, an arc
  module _ (l w : List ℕ) (t : starts_with l w ≡ true) where
    word_sound : (f : Form) → Spells rev w f → Sound l (at_end (drop (length w) l) f)
    word_sound f h = ended_all (Sound l) (drop (length w) l) f tt (λ e. subst (λ (z : List ℕ). Spells rev z f) (sym (starts_true l w t ∙ ap (λ (z : List ℕ). w ++ z) e ∙ append-nil w)) h)

    point_sound : (k : Decimal → Decimal → Form) → ((b : List ℕ) (x y : Decimal) → SpellsPoint b x y → Spells rev (w ++ b) (k x y))
        → Sound l (point_form (drop (length w) l) (λ x y rest. at_end rest (k x y)))
    point_sound k h =
        point_all (Sound l) (drop (length w) l) (λ x y rest. at_end rest (k x y)) tt
        (λ x y rest v. ended_all (Sound l) rest (k x y) tt (λ e. begins l w t (λ z. Spells rev z (k x y)) (h (drop (length w) l) x y (found_end (λ b. SpellsPoint b x y) (drop (length w) l) rest v e))))

    arc_sound : (k : Decimal → Decimal → Decimal → Form) → ((b : List ℕ) (x y r : Decimal) → SpellsArc b x y r → Spells rev (w ++ b) (k x y r))
        → Sound l (arc_form (drop (length w) l) k)
    arc_sound k h = arc_all (Sound l) (drop (length w) l) k tt (λ x y r v. begins l w t (λ z. Spells rev z (k x y r)) (h (drop (length w) l) x y r v))

  comment_sound : (l : List ℕ) → Sound (bytes ";" ++ l) (comment_form l)
  unfolding comment_form
  comment_sound l = cond_all (Sound (bytes ";" ++ l)) (no_semicolon l) (λ e. comment_is (no_semicolon_lem l e)) (λ _. tt)

  tool_sound : (l : List ℕ) (t : DigitRun) → Run l t → Sound (bytes "T" ++ l) (after_tool rev t)
  tool_sound l t v = cond_all (Sound (bytes "T" ++ l)) (starts_with t.rest (bytes "C")) declared (λ _. selected)
    where
      declared : starts_with t.rest (bytes "C") ≡ true → Sound (bytes "T" ++ l) (declare_form rev t)
      declared s =
          cond_all (Sound (bytes "T" ++ l)) (tool_digits (fewest_declared rev) t.count)
          (λ c. read_all (Sound (bytes "T" ++ l)) Unsigned (drop 1 t.rest) (unsigned_of (drop 1 t.rest)) (read_unsigned (drop 1 t.rest)) tt
          (λ d rest w. ended_all (Sound (bytes "T" ++ l)) rest (declare t.value d) tt
          (λ e. subst (λ (z : List ℕ). Spells rev (bytes "T" ++ z) (declare t.value d)) (sym (v.parts ∙ ap (λ (z : List ℕ). v.b ++ z) (starts_true t.rest (bytes "C") s)))
          (let h = fit_digits (fewest_declared rev) t.count c in
          declare_is (tc v.has (found_end (λ b. Unsigned b d) (drop 1 t.rest) rest w e)) h.0 h.1))))
          (λ _. tt)

      selected : Sound (bytes "T" ++ l) (select_form t)
      selected =
          cond_all (Sound (bytes "T" ++ l)) (tool_digits fewest_selected t.count)
          (λ c. let h = fit_digits fewest_selected t.count c in
          ended_all (Sound (bytes "T" ++ l)) t.rest (select t.value) tt
          (λ e. select_is (found_end (λ b. Digits b t.count t.value) l t.rest v e) h.0 h.1))
          (λ _. tt)

  pub form_sound : (l : List ℕ) → Sound l (form_of rev l)
  unfolding form_of tool_form
  form_sound l =
      cond_all (Sound l) (starts_with l (bytes ";")) (λ t. begins l (bytes ";") t (λ z. Sound z (comment_form (drop 1 l))) (comment_sound (drop 1 l)))
      (λ _. cond_all (Sound l) (starts_with l (bytes "M48")) (λ t. word_sound l (bytes "M48") t m48 m48_is)
      (λ _. cond_all (Sound l) (starts_with l (bytes "METRIC")) (λ t. word_sound l (bytes "METRIC") t metric metric_is)
      (λ _. cond_all (Sound l) (starts_with l (bytes "INCH")) (λ t. word_sound l (bytes "INCH") t inch inch_is)
      (λ _. cond_all (Sound l) (starts_with l (bytes "%")) (λ t. word_sound l (bytes "%") t percent percent_is)
      (λ _. cond_all (Sound l) (starts_with l (bytes "G05")) (λ t. word_sound l (bytes "G05") t g05 g05_is)
      (λ _. cond_all (Sound l) (starts_with l (bytes "G00")) (λ t. point_sound l (bytes "G00") t g00 (λ _ _ _ w. g00_is w))
      (λ _. cond_all (Sound l) (starts_with l (bytes "T"))
      (λ t. begins l (bytes "T") t (λ z. Sound z (tool_form rev (drop 1 l))) (tool_sound (drop 1 l) (digits_of (drop 1 l)) (read_digits (drop 1 l))))
      (λ _. cond_all (Sound l) (starts_with l (bytes "X")) (λ _. point_sound l [] (starts_none l) hit (λ _ _ _ w. hit_is w))
      (λ _. cond_all (Sound l) (starts_with l (bytes "M15")) (λ t. word_sound l (bytes "M15") t m15 m15_is)
      (λ _. cond_all (Sound l) (starts_with l (bytes "M16")) (λ t. word_sound l (bytes "M16") t m16 m16_is)
      (λ _. cond_all (Sound l) (starts_with l (bytes "G01")) (λ t. point_sound l (bytes "G01") t g01 (λ _ _ _ w. g01_is w))
      (λ _. cond_all (Sound l) (starts_with l (bytes "G02")) (λ t. arc_sound l (bytes "G02") t g02 (λ _ _ _ _ w. g02_is w))
      (λ _. cond_all (Sound l) (starts_with l (bytes "G03")) (λ t. arc_sound l (bytes "G03") t g03 (λ _ _ _ _ w. g03_is w))
      (λ _. cond_all (Sound l) (starts_with l (bytes "M30")) (λ t. word_sound l (bytes "M30") t m30 m30_is)
      (λ _. tt)))))))))))))))

  pub form_iff : (l : List ℕ) (f : Form) → (form_of rev l ≡ is f → Spells rev l f) × (Spells rev l f → form_of rev l ≡ is f)
  form_iff l f = (λ e. subst (Sound l) e (form_sound l), form_read)
