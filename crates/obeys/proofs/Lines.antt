-- A line is answered with a command exactly where it spells that command, and with a refusal exactly where that refusal
-- is so.
use mathlib.Core.Path.{◌≡◌, refl, sym, ap, ◌∙◌, subst}
use mathlib.Core.Bool.{Bool, true, false, ◌&&◌, cond, false≢true}
use mathlib.Core.List.{List, [], ◌∷◌, ◌++◌}
use Prim.Native.Nat.{ℕ, suc, ◌+◌, ◌≤◌}
use borrow.Author.Tests.{le-leb, lt-leb, leb-true, leb-false}
use lib.Dec.{leb, eqb}
use lib.ListN.{length}
use Rattle.std.specs.Prelude.{Result, Ok, Err, is_ok}
use Rattle.lists.specs.Words.{bytes}
use Rattle.lists.proofs.Choice.{cond_all, both}
use Rattle.runs.specs.Machine.{Out, yields, stops}
use Rattle.rules.specs.declared.Command.TheVariants.{Comment}
use Rattle.rules.specs.declared.Command.{Command}
use Rattle.rules.specs.declared.LineAnswer.{LineAnswer}
use Rattle.rules.specs.declared.Refusal.{Refusal}
use Rattle.rules.specs.declared.Revision.{Revision}
use Rattle.rules.specs.Refusals.{line_too_long, forbidden_byte, no_such_form, out_of_range}
use Rattle.rules.specs.Numbers.{max_line}
use Rattle.rules.specs.Lines.{is_allowed, is_printable, allowed_bytes}
use Rattle.rules.specs.Commands.{Form, declare, Formed, is, form_of, column_after, tool_column, says, says_no, in_range, meaning_of, on_form, command_of, line_of}
use Rattle.rules.specs.Spelling.{tc, Spells, comment_is, m48_is, metric_is, inch_is, declare_is, percent_is, g05_is, g00_is, select_is, hit_is, m15_is, m16_is, g01_is, g02_is, g03_is, m30_is, Means, comment_means, m48_means, metric_means, inch_means, declare_means, percent_means, g05_means, g00_means, select_means, hit_means, m15_means, m16_means, g01_means, g02_means, g03_means, m30_means, Printable, byte, SpellsCommand, SpellsLine}
use Rattle.rules.specs.Commands as C
use Rattle.rules.specs.Spelling as S
use Rattle.rules.specs.Reading.{say_out}
use Rattle.obeys.specs.Faults.{OutAt, declared_tool_out, selected_tool_out, g00_out, hit_out, g01_out, g02_out, g03_out, LineRefused, too_long, forbidden, no_form, number_out_of_range}
use Rattle.obeys.proofs.Forms.{Sound, form_read, form_sound}
use Rattle.obeys.proofs.Ranges.{coordinate_read_lem, size_read_lem, tool_read, point_all, arc_all, tool_all, diameter_all, out_refused}

-- ---- what a form means

means_read : (after : ℕ → ℕ) {f : Form} {c : Command} → Means f c → meaning_of after f ≡ says c
unfolding meaning_of in_range
means_read after comment_means = refl
means_read after m48_means = refl
means_read after metric_means = refl
means_read after inch_means = refl
means_read after (declare_means t p) = let a = size_read_lem p in rw (tool_read t, a.0, a.1)
means_read after percent_means = refl
means_read after g05_means = refl
means_read after (g00_means p q) = let a = coordinate_read_lem p in let b = coordinate_read_lem q in rw (a.0, b.0, a.1, b.1)
means_read after (select_means t) = rw (tool_read t)
means_read after (hit_means p q) = let a = coordinate_read_lem p in let b = coordinate_read_lem q in rw (a.0, b.0, a.1, b.1)
means_read after m15_means = refl
means_read after m16_means = refl
means_read after (g01_means p q) = let a = coordinate_read_lem p in let b = coordinate_read_lem q in rw (a.0, b.0, a.1, b.1)
means_read after (g02_means p q o) = let a = coordinate_read_lem p in let b = coordinate_read_lem q in let c = size_read_lem o in rw (a.0, b.0, c.0, a.1, b.1, c.1)
means_read after (g03_means p q o) = let a = coordinate_read_lem p in let b = coordinate_read_lem q in let c = size_read_lem o in rw (a.0, b.0, c.0, a.1, b.1, c.1)
means_read after m30_means = refl

-- ---- a line's command

-- what each answer says of a line's bytes: the command; or 5, no form at all; or 7, a form with a number out of range
data CommandSays (rev : Revision) (l : List ℕ) : LineAnswer → Type 0 where
  spells : {c : Command} → SpellsCommand rev l c → CommandSays rev l (says c)
  formless : ((f : Form) → Spells rev l f → ⊥) → CommandSays rev l (says_no no_such_form)
  ranged_out : {f : Form} {c : ℕ} → Spells rev l f → OutAt l f c → CommandSays rev l (says_no (out_of_range c))

-- no command is a refusal
not_refused : {a : LineAnswer} {c : Command} → a ≡ says c → is_ok a.command ≡ false → ⊥
not_refused e f = false≢true (sym f ∙ ap (λ (a : LineAnswer). is_ok a.command) e)

abbrev told : Result Command Refusal → Command
told (Ok c) = c
told (Err e) = Comment

said_same : {c d : Command} → says c ≡ says d → c ≡ d
said_same e = ap (λ (a : LineAnswer). told a.command) e

command_read : {rev : Revision} {l : List ℕ} {c : Command} → SpellsCommand rev l c → command_of rev l ≡ says c
unfolding command_of
command_read {rev} {l} w = ap (on_form (column_after 0 l)) (form_read w.spelt) ∙ means_read (column_after 0 l) w.means

abbrev HasForm : Formed → Type 0
HasForm (is f) = Unit {0}
HasForm C.no_form = ⊥

-- a form that is spelled says its command, or which number is out of range
module _ {rev : Revision} where
  meant : {l : List ℕ} {f : Form} {c : Command} → Spells rev l f → Means f c → CommandSays rev l (says c)
  meant {f = f} w m = spells (record { form = f; spelt = w; means = m })

  spelt_says : {l : List ℕ} {f : Form} → Spells rev l f → CommandSays rev l (meaning_of (column_after 0 l) f)
  unfolding meaning_of column_after
  spelt_says (comment_is w) = meant (comment_is w) comment_means
  spelt_says m48_is = meant m48_is m48_means
  spelt_says metric_is = meant metric_is metric_means
  spelt_says inch_is = meant inch_is inch_means
  spelt_says (declare_is {t = t} {d = d} (tc {a = a} {b = b} v u) p q) =
      let s : Spells rev (bytes "T" ++ (a ++ (bytes "C" ++ b))) (declare t d) = declare_is (tc v u) p q in
      tool_all (CommandSays rev _) t tool_column _
      (λ w. diameter_all (CommandSays rev _) v u w _ (λ z. meant s (declare_means w z)) (λ c o. ranged_out s o))
      (λ n. ranged_out s (declared_tool_out (tc v u) n))
  spelt_says percent_is = meant percent_is percent_means
  spelt_says g05_is = meant g05_is g05_means
  spelt_says (g00_is w) = point_all (CommandSays rev _) w 3 _ (λ p q. meant (g00_is w) (g00_means p q)) (λ c o. ranged_out (g00_is w) (g00_out o))
  spelt_says (select_is {t = t} w p q) =
      tool_all (CommandSays rev _) t tool_column _ (λ z. meant (select_is w p q) (select_means z)) (λ n. ranged_out (select_is w p q) (selected_tool_out w n))
  spelt_says (hit_is w) = point_all (CommandSays rev _) w 0 _ (λ p q. meant (hit_is w) (hit_means p q)) (λ c o. ranged_out (hit_is w) (hit_out o))
  spelt_says m15_is = meant m15_is m15_means
  spelt_says m16_is = meant m16_is m16_means
  spelt_says (g01_is w) = point_all (CommandSays rev _) w 3 _ (λ p q. meant (g01_is w) (g01_means p q)) (λ c o. ranged_out (g01_is w) (g01_out o))
  spelt_says (g02_is w) = arc_all (CommandSays rev _) w 3 _ (λ p q z. meant (g02_is w) (g02_means p q z)) (λ c o. ranged_out (g02_is w) (g02_out o))
  spelt_says (g03_is w) = arc_all (CommandSays rev _) w 3 _ (λ p q z. meant (g03_is w) (g03_means p q z)) (λ c o. ranged_out (g03_is w) (g03_out o))
  spelt_says m30_is = meant m30_is m30_means

command_sound : {rev : Revision} (l : List ℕ) → CommandSays rev l (command_of rev l)
unfolding command_of
command_sound {rev} l = by (form_of rev l) refl
  where
    by : (x : Formed) → form_of rev l ≡ x → CommandSays rev l (on_form (column_after 0 l) x)
    by (is f) e = spelt_says (subst (Sound rev l) e (form_sound rev l))
    by C.no_form e = formless (λ f w. subst HasForm (sym (form_read w) ∙ e) tt)

command_answer : {rev : Revision} {l : List ℕ} {a : LineAnswer} → CommandSays rev l a → command_of rev l ≡ a
unfolding command_of
command_answer (spells w) = command_read w
command_answer {rev} {l} (formless h) = by (form_of rev l) refl
  where
    by : (x : Formed) → form_of rev l ≡ x → on_form (column_after 0 l) x ≡ says_no no_such_form
    by (is f) e = absurd (h f (subst (Sound rev l) e (form_sound rev l)))
    by C.no_form e = refl
command_answer {rev} {l} (ranged_out w o) = ap (on_form (column_after 0 l)) (form_read w) ∙ out_refused o

says_command : {rev : Revision} {l : List ℕ} {a : LineAnswer} {c : Command} → CommandSays rev l a → a ≡ says c → SpellsCommand rev l c
says_command {rev} {l} (spells w) e = subst (SpellsCommand rev l) (said_same e) w
says_command (formless h) e = absurd (not_refused e refl)
says_command (ranged_out w h) e = absurd (not_refused e refl)

pub command_iff : {rev : Revision} (l : List ℕ) (c : Command) → (command_of rev l ≡ says c → SpellsCommand rev l c) × (SpellsCommand rev l c → command_of rev l ≡ says c)
command_iff l c = (λ e. says_command (command_sound l) e, command_read)

pub one_command : {rev : Revision} {l : List ℕ} {c d : Command} → SpellsCommand rev l c → SpellsCommand rev l d → c ≡ d
one_command v w = said_same (sym (command_read v) ∙ command_read w)

-- ---- a line of a file

pub printable_read : {l : List ℕ} → Printable l → is_printable l ≡ true
unfolding is_printable
printable_read S.no_byte = refl
printable_read (byte {b = b} p q w) = rw (le-leb 32 b p, le-leb b 126 q) (printable_read w)

read_printable : (l : List ℕ) → is_printable l ≡ true → Printable l
unfolding is_printable
read_printable [] e = S.no_byte
read_printable (b ∷ l) e =
    let h = both (leb 32 b && leb b 126) (is_printable l) e in
    let g = both (leb 32 b) (leb b 126) h.0 in
    byte (leb-true 32 b g.0) (leb-true b 126 g.1) (read_printable l h.1)

-- the bytes that are allowed, and then one that isn't
pub record FirstForbidden (l : List ℕ) : Type 0 where
  pub before : List ℕ
  pub byte : ℕ
  pub after : List ℕ
  pub parts : l ≡ before ++ (byte ∷ after)
  pub allowed : Printable before
  pub not_allowed : Printable (byte ∷ []) → ⊥
  pub count : allowed_bytes l ≡ length before

first_forbidden : (l : List ℕ) → is_printable l ≡ false → FirstForbidden l
unfolding is_printable allowed_bytes
first_forbidden [] e = absurd (false≢true (sym e))
first_forbidden (b ∷ l) e = by (is_allowed b) refl e (λ z. first_forbidden l z)
  where
    by : (t : Bool) → is_allowed b ≡ t → (t && is_printable l) ≡ false → (is_printable l ≡ false → FirstForbidden l) → FirstForbidden (b ∷ l)
    by true s n more =
        let w = more n in
        let h = both (leb 32 b) (leb b 126) s in
        record {
          before = b ∷ w.before;
          byte = w.byte;
          after = w.after;
          parts = ap (λ (z : List ℕ). b ∷ z) w.parts;
          allowed = S.byte (leb-true 32 b h.0) (leb-true b 126 h.1) w.allowed;
          not_allowed = w.not_allowed;
          count = rw (s) (ap suc w.count);
        }
    by false s n more = record {
      before = [];
      byte = b;
      after = l;
      parts = refl;
      allowed = S.no_byte;
      not_allowed = λ w. false≢true (sym (ap (λ (t : Bool). t && true) s) ∙ printable_read w);
      count = rw s;
    }

forbidden_read : (rest : List ℕ) {a : List ℕ} {b : ℕ} → Printable a → (Printable (b ∷ []) → ⊥) → (is_printable (a ++ (b ∷ rest)) ≡ false) × (allowed_bytes (a ++ (b ∷ rest)) ≡ length a)
unfolding is_printable allowed_bytes
forbidden_read rest {b = b} S.no_byte n = by (is_allowed b) refl
  where
    by : (t : Bool) → is_allowed b ≡ t → ((t && is_printable rest) ≡ false) × (cond t (suc (allowed_bytes rest)) 0 ≡ 0)
    by true s = absurd (n (read_printable (b ∷ []) (ap (λ (t : Bool). t && true) s)))
    by false s = (refl, refl)
forbidden_read rest (S.byte {b = c} p q w) n =
    let h = forbidden_read rest w n in
    (rw (le-leb 32 c p, le-leb c 126 q) h.0, rw (le-leb 32 c p, le-leb c 126 q) (ap suc h.1))

-- what is said of a line's bytes: the command that they spell, or why they spell none
abbrev pub LineSays : Revision → List ℕ → Out Command Refusal → Type 0
LineSays rev l (yields c) = SpellsLine rev l c
LineSays rev l (stops e) = LineRefused rev l e

allowed : {rev : Revision} {l : List ℕ} {a : LineAnswer} → length l ≤ max_line → Printable l → CommandSays rev l a → LineSays rev l (say_out a)
allowed s p (spells w) = record { short = s; printable = p; command = w }
allowed s p (formless h) = no_form s p h
allowed s p (ranged_out w o) = number_out_of_range s p w o

pub line_sound : (rev : Revision) (l : List ℕ) → LineSays rev l (say_out (line_of rev l))
unfolding line_of
line_sound rev l =
    cond_all (λ a. LineSays rev l (say_out a)) (leb (length l) max_line) {b = says_no line_too_long}
    (λ s. cond_all (λ a. LineSays rev l (say_out a)) (is_printable l) {b = says_no (forbidden_byte (allowed_bytes l + 1))}
    (λ p. allowed (leb-true (length l) max_line s) (read_printable l p) (command_sound l))
    (λ p. let w = first_forbidden l p in
    subst (λ (k : ℕ). LineRefused rev l (forbidden_byte (k + 1))) (sym w.count) (forbidden w.after (leb-true (length l) max_line s) w.parts w.allowed w.not_allowed)))
    (λ s. too_long (leb-false (length l) max_line s))

line_answers : {rev : Revision} {l : List ℕ} {a : LineAnswer} → length l ≤ max_line → Printable l → CommandSays rev l a → line_of rev l ≡ a
unfolding line_of
line_answers {rev} {l} s p w = rw (le-leb (length l) max_line s, printable_read p) (command_answer w)

pub line_read : {rev : Revision} {l : List ℕ} {c : Command} → SpellsLine rev l c → line_of rev l ≡ says c
line_read w = line_answers w.short w.printable (spells w.command)

refused_line : {rev : Revision} {l : List ℕ} {e : Refusal} → LineRefused rev l e → say_out (line_of rev l) ≡ stops e
unfolding line_of
refused_line {rev} {l} (too_long h) = rw (lt-leb (length l) max_line h)
refused_line {rev} {l} (forbidden rest s e p n) =
    let h = forbidden_read rest p n in
    rw (le-leb (length l) max_line s, e, h.0, h.1)
refused_line (no_form s p h) = ap say_out (line_answers s p (formless h))
refused_line (number_out_of_range s p w o) = ap say_out (line_answers s p (ranged_out w o))

-- each answer is given exactly where what it says is so
pub line_says : (rev : Revision) (l : List ℕ) (o : Out Command Refusal)
    → (say_out (line_of rev l) ≡ o → LineSays rev l o) × (LineSays rev l o → say_out (line_of rev l) ≡ o)
line_says rev l (yields c) = (λ e. subst (LineSays rev l) e (line_sound rev l), λ w. ap say_out (line_read w))
line_says rev l (stops e) = (λ d. subst (LineSays rev l) d (line_sound rev l), refused_line)
