-- A command's line reads back to the command. Its numbers read back (Numbers), each at_end by a letter or by the line's end;
-- its bytes are printable and few, part by part, so the line is not cut and nothing is taken off its end.
use mathlib.Core.Path.{◌≡◌, refl, sym, ap, ◌∙◌}
use mathlib.Core.Bool.{true, false, ◌&&◌, false≢true, cond}
use mathlib.Core.List.{List, [], ◌∷◌, ◌++◌, append_assoc, append-nil}
use Prim.Native.Nat.{ℕ, zero, suc, ◌+◌, ◌-◌, ◌/◌, ◌%◌, ◌^◌, ◌<◌, ◌≤◌, min}
use native.Mathlib.Omega.{arith}
use native.Mathlib.Nat.{mod-lt}
use borrow.Author.Tests.{leb-true, le-leb}
use lib.Dec.{leb, eqb}
use lib.IntN.{ℤ, pos, negsuc, nat_abs}
use lib.ListN.{length, drop, length-append}
use Rattle.lists.specs.Words.{bytes, starts_with}
use Rattle.lists.proofs.Choice.{cond_all, both}
use Rattle.runs.specs.Machine.{yields}
use Rattle.points.specs.declared.Point.{Point}
use Rattle.points.specs.declared.Arc.{Arc}
use Rattle.points.specs.Points.{place_of}
use Rattle.rules.specs.declared.Command.{Command}
use Rattle.rules.specs.declared.Command.TheVariants.{Comment, M48, Metric, Inch, Declare, Percent, G05, G00, Select, Hit, M15, M16, G01, G02, G03, M30}
use Rattle.rules.specs.declared.Revision.{Revision}
use Rattle.rules.specs.Numbers.{max_line, max_lines, max_number, max_tool, max_places, is_digit, digits_of, Decimal, on_number, unsigned_of}
use Rattle.rules.specs.Lines.{LF, CR, lines_of, is_printable}
use Rattle.rules.specs.Kinds.{is_comment}
use Rattle.rules.specs.Commands.{Form, g00, hit, g01, g02, g03, Formed, no_form, at_end, no_semicolon, comment_form, point_form, arc_form, tool_form, form_of, says, point_of, arc_of, column_after, in_range, point_in_range, arc_in_range, meaning_of, on_form, command_of, line_of}
use Rattle.rules.specs.Reading.{answer_in, command_in}
use Rattle.rules.specs.Writing.{last_digits, width_of, fraction_text, number_text, radius_text, coordinate_text, tool_text, point_text, arc_text, spelt, line_text, longest_line}
use Rattle.rules.specs.Ranges.{PointOk, ArcOk, CommandOk}
use Rattle.rules.proofs.Revisions.{two_digits}
use Rattle.rules.proofs.Ranges.{tool_passes}
use Rattle.laws.proofs.Digits.{NoDigit, NoPoint}
use Rattle.laws.proofs.Lines.{printable_without, no_cr, text_plain, ended_line, lf_line}
use Rattle.round.proofs.Numbers.{tool_back, width_is, text_with, written_with, arc_places, places_in, fewest_places, written_millionths, number_back, radius_back, written_coordinate, coordinate_back, written_coordinate_lem, written_is, written_size}

-- ---- at most n bytes, all printable

pub record Fits (n : ℕ) (l : List ℕ) : Type 0 where
  pub short : length l ≤ n
  pub printable : is_printable l ≡ true

printable_append : (a b : List ℕ) → is_printable a ≡ true → is_printable b ≡ true → is_printable (a ++ b) ≡ true
unfolding is_printable
printable_append [] b p q = q
printable_append (x ∷ a) b p q = let h = both (leb 32 x && leb x 126) (is_printable a) p in rw (h.0, printable_append a b h.1 q)

fits_append : {m n : ℕ} {a b : List ℕ} → Fits m a → Fits n b → Fits (m + n) (a ++ b)
fits_append {a = a} {b = b} f g = record { short = omega (arith, length-append a b, f.short, g.short); printable = printable_append a b f.printable g.printable }

fits_more : {m n : ℕ} {l : List ℕ} → m ≤ n → Fits m l → Fits n l
fits_more h f = record { short = omega (arith, f.short); printable = f.printable }

-- a word of the format
word : (n : ℕ) (l : List ℕ) → (leb (length l) n && is_printable l) ≡ true → Fits n l
word n l e = let h = both (leb (length l) n) (is_printable l) e in record { short = leb-true (length l) n h.0; printable = h.1 }

digits_fit : (k m : ℕ) → Fits k (last_digits k m)
unfolding last_digits is_printable
digits_fit zero m = record { short = omega arith; printable = refl }
digits_fit (suc k) m =
    let d : ℕ = m / 10 ^ k % 10 in
    let h : d < 10 = mod-lt (m / 10 ^ k) (omega arith) in
    record { short = omega (arith, (digits_fit k m).short); printable = rw (le-leb 32 (48 + d) (omega arith), le-leb (48 + d) 126 (omega arith)) (digits_fit k m).printable }

fraction_fits : (d f : ℕ) → d ≤ max_places → Fits 7 (fraction_text d f)
unfolding fraction_text is_printable
fraction_fits d f h =
    cond_all (Fits 7) (eqb d 0) (λ _. word 7 [] refl) (λ _. fits_append (word 1 (bytes ".") refl) (fits_more h (digits_fit d (f / place_of d))))

text_fits : (d v : ℕ) → d ≤ max_places → v ≤ max_number → Fits 10 (text_with d v)
text_fits d v k h =
    fits_append (fits_more (width_is (v / 1000000) (omega arith)).short (digits_fit (width_of (v / 1000000)) (v / 1000000)))
    (fraction_fits d (v % 1000000) k)

pub number_fits : (v : ℕ) → v ≤ max_number → Fits 10 (number_text v)
unfolding number_text
number_fits v h = text_fits (places_in v) v (fewest_places v).most h

radius_fits : (d v : ℕ) → v ≤ max_number → Fits 10 (radius_text d v)
unfolding radius_text
radius_fits d v h = text_fits (min d max_places) v (omega arith) h

pub coordinate_fits : (x : ℤ) → nat_abs x ≤ max_number → Fits 11 (coordinate_text x)
unfolding coordinate_text is_printable
coordinate_fits (pos v) h = fits_more (omega arith) (number_fits v h)
coordinate_fits (negsuc v) h = fits_append (word 1 (bytes "-") refl) (number_fits (suc v) h)

pub point_fits : (p : Point) → PointOk p → Fits 24 (point_text p)
unfolding point_text is_printable
point_fits p h =
    fits_append (word 1 (bytes "X") refl) (fits_append (coordinate_fits p.x h.x_range)
    (fits_append (word 1 (bytes "Y") refl) (coordinate_fits p.y h.y_range)))

pub arc_fits : (a : Arc) → ArcOk a → Fits 35 (arc_text a)
unfolding arc_text is_printable
arc_fits a h =
    fits_append (point_fits a.to h.to_range)
    (fits_append (word 1 (bytes "A") refl) (radius_fits a.decimals a.radius h.radius_range.high))

-- the longest line without its end
abbrev longest_text : ℕ
longest_text = longest_line - 1

pub spelt_fits : (c : Command) → CommandOk c → Fits longest_text (spelt c)
unfolding spelt tool_text is_printable
spelt_fits Comment h = word longest_text (bytes ";") refl
spelt_fits M48 h = word longest_text (bytes "M48") refl
spelt_fits Metric h = word longest_text (bytes "METRIC") refl
spelt_fits Inch h = word longest_text (bytes "INCH") refl
spelt_fits (Declare t d) h =
    fits_more (omega arith) (fits_append (word 1 (bytes "T") refl) (fits_append (digits_fit 2 t) (fits_append (word 1 (bytes "C") refl) (number_fits d h.1.high))))
spelt_fits Percent h = word longest_text (bytes "%") refl
spelt_fits G05 h = word longest_text (bytes "G05") refl
spelt_fits (G00 p) h = fits_more (omega arith) (fits_append (word 3 (bytes "G00") refl) (point_fits p h))
spelt_fits (Select t) h = fits_more (omega arith) (fits_append (word 1 (bytes "T") refl) (digits_fit 2 t))
spelt_fits (Hit p) h = fits_more (omega arith) (point_fits p h)
spelt_fits M15 h = word longest_text (bytes "M15") refl
spelt_fits M16 h = word longest_text (bytes "M16") refl
spelt_fits (G01 p) h = fits_more (omega arith) (fits_append (word 3 (bytes "G01") refl) (point_fits p h))
spelt_fits (G02 a) h = fits_append (word 3 (bytes "G02") refl) (arc_fits a h)
spelt_fits (G03 a) h = fits_append (word 3 (bytes "G03") refl) (arc_fits a h)
spelt_fits M30 h = word longest_text (bytes "M30") refl

-- ---- what it says

point_form_lem : (p : Point) (rest : List ℕ) (k : Decimal → Decimal → List ℕ → Formed) → PointOk p → NoDigit rest → NoPoint rest
    → point_form (point_text p ++ rest) k ≡ k (written_coordinate p.x) (written_coordinate p.y) rest
unfolding point_form point_text starts_with is_digit
point_form_lem p rest k h e q =
    rw (
      append_assoc (coordinate_text p.x) (bytes "Y" ++ coordinate_text p.y) rest,
      coordinate_back p.x (bytes "Y" ++ (coordinate_text p.y ++ rest)) h.x_range refl refl,
      coordinate_back p.y rest h.y_range e q,
    )

point_is : (p : Point) → point_of (written_coordinate p.x) (written_coordinate p.y) ≡ p
point_is p = λ i. record { x = written_is p.x i; y = written_is p.y i }

tool_end : (t : ℕ) → t ≤ max_tool → digits_of (tool_text t) ≡ record { value = t; count = 2; rest = [] }
tool_end t h = ap digits_of (sym (append-nil (tool_text t))) ∙ tool_back t [] h tt

point_back : (after : ℕ → ℕ) (p : Point) (form : Decimal → Decimal → Form) (command : Point → Command)
    → ((x y : Decimal) → meaning_of after (form x y) ≡ point_in_range after x y (says (command (point_of x y))))
    → PointOk p → on_form after (point_form (point_text p) (λ x y rest. at_end rest (form x y))) ≡ says (command p)
unfolding starts_with in_range
point_back after p form command m h =
    ap (λ (l : List ℕ). on_form after (point_form l (λ x y rest. at_end rest (form x y)))) (sym (append-nil (point_text p)))
    ∙ rw (point_form_lem p [] (λ x y rest. at_end rest (form x y)) h tt refl, m (written_coordinate p.x) (written_coordinate p.y), written_coordinate_lem p.x h.x_range, written_coordinate_lem p.y h.y_range, point_is p)

arc_back : (after : ℕ → ℕ) (a : Arc) (form : Decimal → Decimal → Decimal → Form) (command : Arc → Command)
    → ((x y r : Decimal) → meaning_of after (form x y r) ≡ arc_in_range after x y r (says (command (arc_of x y r))))
    → ArcOk a → on_form after (arc_form (arc_text a) form) ≡ says (command a)
unfolding arc_form arc_text starts_with is_digit in_range
arc_back after a form command m h =
    let places = arc_places a h in
    rw (
      point_form_lem a.to (bytes "A" ++ radius_text a.decimals a.radius)
          (λ x y rest. cond (starts_with rest (bytes "A")) (on_number (unsigned_of (drop 1 rest)) no_form (λ r rest'. at_end rest' (form x y r))) no_form)
          h.to_range refl refl,
      radius_back a.decimals a.radius h.decimals_range h.radius_range.high,
      m (written_coordinate a.to.x) (written_coordinate a.to.y) (written_with a.decimals false a.radius),
      written_coordinate_lem a.to.x h.to_range.x_range,
      written_coordinate_lem a.to.y h.to_range.y_range,
      written_size a.radius places h.radius_range.low h.radius_range.high,
      point_is a.to,
      written_millionths false a.radius places,
    )

declare_back : (rev : Revision) (t d : ℕ) → CommandOk (Declare t d) → command_of rev (spelt (Declare t d)) ≡ says (Declare t d)
unfolding command_of form_of spelt tool_form starts_with is_digit meaning_of in_range
declare_back rev t d h =
    rw (
      tool_back t (bytes "C" ++ number_text d) h.0.high refl,
      two_digits rev,
      number_back d h.1.high,
      tool_passes t h.0.low h.0.high,
      written_size d (fewest_places d) h.1.low h.1.high,
      written_millionths false d (fewest_places d),
    )

select_back : (rev : Revision) (t : ℕ) → CommandOk (Select t) → command_of rev (spelt (Select t)) ≡ says (Select t)
unfolding command_of form_of spelt tool_form starts_with meaning_of in_range
select_back rev t h = rw (tool_end t h.high, tool_passes t h.low h.high)

command_back : (rev : Revision) (c : Command) → CommandOk c → command_of rev (spelt c) ≡ says c
unfolding command_of form_of spelt starts_with meaning_of no_semicolon comment_form point_text
command_back rev Comment h = refl
command_back rev M48 h = refl
command_back rev Metric h = refl
command_back rev Inch h = refl
command_back rev (Declare t d) h = declare_back rev t d h
command_back rev Percent h = refl
command_back rev G05 h = refl
command_back rev (G00 p) h = point_back (column_after 0 (spelt (G00 p))) p g00 G00 (λ x y. refl) h
command_back rev (Select t) h = select_back rev t h
command_back rev (Hit p) h = point_back (column_after 0 (spelt (Hit p))) p hit Hit (λ x y. refl) h
command_back rev M15 h = refl
command_back rev M16 h = refl
command_back rev (G01 p) h = point_back (column_after 0 (spelt (G01 p))) p g01 G01 (λ x y. refl) h
command_back rev (G02 a) h = arc_back (column_after 0 (spelt (G02 a))) a g02 G02 (λ x y r. refl) h
command_back rev (G03 a) h = arc_back (column_after 0 (spelt (G03 a))) a g03 G03 (λ x y r. refl) h
command_back rev M30 h = refl

-- ---- a command's line

pub spelt_says : (rev : Revision) (c : Command) → CommandOk c → line_of rev (spelt c) ≡ says c
unfolding line_of
spelt_says rev c h =
    let f = spelt_fits c h in
    rw (le-leb (length (spelt c)) max_line (omega (arith, f.short)), f.printable, command_back rev c h)

-- and as a line of a file
pub spelt_reads : (rev : Revision) (i : ℕ) (c : Command) → i ≤ max_lines → CommandOk c → command_in rev i (ended_line (spelt c)) ≡ yields c
unfolding command_in answer_in
spelt_reads rev i c n h =
    rw (le-leb i max_lines n, text_plain (spelt c) (no_cr (spelt c) (printable_without CR (omega arith) (spelt c) (spelt_fits c h).printable)), spelt_says rev c h)

pub spelt_line : (c : Command) → CommandOk c → (rest : List ℕ) → lines_of (spelt c ++ (LF ∷ rest)) ≡ ended_line (spelt c) ∷ lines_of rest
spelt_line c h rest = lf_line (spelt c) rest (printable_without LF (omega arith) (spelt c) (spelt_fits c h).printable)

pub comment_is : (c : Command) → is_comment c ≡ true → c ≡ Comment
comment_is Comment e = refl
comment_is M48 e = absurd (false≢true e)
comment_is Metric e = absurd (false≢true e)
comment_is Inch e = absurd (false≢true e)
comment_is (Declare t d) e = absurd (false≢true e)
comment_is Percent e = absurd (false≢true e)
comment_is G05 e = absurd (false≢true e)
comment_is (G00 p) e = absurd (false≢true e)
comment_is (Select t) e = absurd (false≢true e)
comment_is (Hit p) e = absurd (false≢true e)
comment_is M15 e = absurd (false≢true e)
comment_is M16 e = absurd (false≢true e)
comment_is (G01 p) e = absurd (false≢true e)
comment_is (G02 a) e = absurd (false≢true e)
comment_is (G03 a) e = absurd (false≢true e)
comment_is M30 e = absurd (false≢true e)

-- a comment is dropped, anything else has its line
pub comment_text : (c : Command) → is_comment c ≡ true → line_text c ≡ []
unfolding line_text
comment_text c e = rw e

pub line_text_lem : (c : Command) → is_comment c ≡ false → line_text c ≡ spelt c ++ (LF ∷ [])
unfolding line_text
line_text_lem c e = rw e

pub line_length : (c : Command) → CommandOk c → length (line_text c) ≤ longest_line
unfolding line_text
line_length c h =
    cond_all (λ (l : List ℕ). length l ≤ longest_line) (is_comment c) (λ _. omega arith)
    (λ _. omega (arith, length-append (spelt c) (LF ∷ []), (spelt_fits c h).short))
