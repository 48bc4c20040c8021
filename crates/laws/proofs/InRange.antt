-- A line that says a command says one whose numbers are in range, and a
-- step keeps the ranges of a state: so rows that lines read as are in range.
use mathlib.Core.Path.{◌≡◌, refl, subst}
use mathlib.Core.Bool.{Bool, true, false}
use mathlib.Core.List.{List, [], ◌∷◌, ◌++◌}
use Prim.Native.Nat.{ℕ, zero, suc, ◌+◌, ◌-◌, ◌%◌, ◌^◌, ◌≤◌}
use native.Mathlib.Omega.{arith}
use native.Mathlib.Nat.{mul-mod_left}
use lib.Dec.{leb}
use lib.IntN.{pos, neg_ℤ, nat_abs}
use lib.ListN.{length, get_or, take, drop}
use Rattle.std.specs.Prelude.{Result, Ok, Err}
use Rattle.lists.proofs.Choice.{cond_all}
use Rattle.runs.specs.Machine.{yields, last_of, nil, link}
use Rattle.runs.proofs.Append.{Reads}
use Rattle.runs.proofs.Meeting.{Redone, past, met, on}
use Rattle.rules.specs.declared.Refusal.{Refusal}
use Rattle.rules.specs.declared.State.{State}
use Rattle.rules.specs.declared.Command.{Command}
use Rattle.rules.specs.declared.Command.TheVariants as K
use Rattle.rules.specs.declared.LineAnswer.{LineAnswer}
use Rattle.rules.specs.declared.Revision.{Revision}
use Rattle.points.specs.Points.{place_of}
use Rattle.rules.specs.Results.{out_of}
use Rattle.rules.specs.Numbers.{max_line, max_number, max_tool, max_places, max_lines, Decimal, with_sign, millionths, is_coordinate, coordinate_of, is_size, is_tool}
use Rattle.rules.specs.Lines.{Line, text_of, is_printable}
use Rattle.rules.specs.Commands.{Form, comment, m48, metric, inch, declare, percent, g05, g00, select, hit, m15, m16, g01, g02, g03, m30, Formed, is, no_form, form_of, column_after, says, point_of, arc_of, in_range, point_in_range, arc_in_range, meaning_of, on_form, command_of, line_of}
use Rattle.rules.specs.State.{taken, has_ended}
use Rattle.rules.specs.Reading.{say_out, answer_in, command_in, Rows, no_row}
use Rattle.rules.specs.Ranges.{PointOk, NumberOk, ArcOk, StateOk, CommandOk}
use Rattle.rules.proofs.Ranges.{coordinate_says, size_says, tool_says}
use Rattle.laws.proofs.Keeps.{taken_ok}

nat_of_minus : (n : ℕ) → nat_abs (neg_ℤ (pos n)) ≡ n
nat_of_minus zero = refl
nat_of_minus (suc n) = refl

sign_same : (neg : Bool) (n : ℕ) → nat_abs (with_sign neg n) ≡ n
sign_same true n = nat_of_minus n
sign_same false n = refl

coordinate_ok : (d : Decimal) → is_coordinate d ≡ true → nat_abs (coordinate_of d) ≤ max_number
unfolding coordinate_of
coordinate_ok d e = rw (sign_same d.negative (millionths d)) (coordinate_says d e).1

size_ok : (d : Decimal) → is_size d ≡ true → NumberOk 1 max_number (millionths d)
size_ok d e = let h = size_says d e in record { low = h.1; high = h.2 }

-- a number is a multiple of its last place
size_whole : (d : Decimal) → millionths d % place_of d.places ≡ 0
unfolding millionths
size_whole d = mul-mod_left d.digits (10 ^ (max_places - d.places))

tool_ok : (t : ℕ) → is_tool t ≡ true → NumberOk 1 max_tool t
tool_ok t e = let h = tool_says t e in record { low = h.0; high = h.1 }

-- the command that a line says, if it says one, is in range
abbrev AnswerOk : Result Command Refusal → Type 0
AnswerOk (Ok c) = CommandOk c
AnswerOk (Err e) = Unit {0}

abbrev pub SaysOk : LineAnswer → Type 0
SaysOk a = AnswerOk a.command

within_range : (t : Bool) (k : ℕ) (a : LineAnswer) → (t ≡ true → SaysOk a) → SaysOk (in_range t k a)
unfolding in_range
within_range true k a h = h refl
within_range false k a h = tt

module _ (after : ℕ → ℕ) where
  point_ok : (x y : Decimal) (a : LineAnswer) → (PointOk (point_of x y) → SaysOk a) → SaysOk (point_in_range after x y a)
  point_ok x y a h =
      within_range (is_coordinate x) _ _ (λ p. within_range (is_coordinate y) _ a (λ q. h (record { x_range = coordinate_ok x p; y_range = coordinate_ok y q })))

  arc_ok : (x y r : Decimal) (a : LineAnswer) → (ArcOk (arc_of x y r) → SaysOk a) → SaysOk (arc_in_range after x y r a)
  arc_ok x y r a h =
      point_ok x y _ (λ p. within_range (is_size r) _ a
      (λ q. h (record { to_range = p; radius_range = size_ok r q; decimals_range = (size_says r q).0; whole_places = size_whole r })))

  meaning_ok : (f : Form) → SaysOk (meaning_of after f)
  unfolding meaning_of
  meaning_ok comment = tt
  meaning_ok m48 = tt
  meaning_ok metric = tt
  meaning_ok inch = tt
  meaning_ok (declare t d) = within_range (is_tool t) _ _ (λ p. within_range (is_size d) _ (says (K.Declare t (millionths d))) (λ q. (tool_ok t p, size_ok d q)))
  meaning_ok percent = tt
  meaning_ok g05 = tt
  meaning_ok (g00 x y) = point_ok x y (says (K.G00 (point_of x y))) (λ p. p)
  meaning_ok (select t) = within_range (is_tool t) _ (says (K.Select t)) (tool_ok t)
  meaning_ok (hit x y) = point_ok x y (says (K.Hit (point_of x y))) (λ p. p)
  meaning_ok m15 = tt
  meaning_ok m16 = tt
  meaning_ok (g01 x y) = point_ok x y (says (K.G01 (point_of x y))) (λ p. p)
  meaning_ok (g02 x y r) = arc_ok x y r (says (K.G02 (arc_of x y r))) (λ p. p)
  meaning_ok (g03 x y r) = arc_ok x y r (says (K.G03 (arc_of x y r))) (λ p. p)
  meaning_ok m30 = tt

  form_ok : (f : Formed) → SaysOk (on_form after f)
  form_ok (is f) = meaning_ok f
  form_ok no_form = tt

pub line_ok : (rev : Revision) (l : List ℕ) → SaysOk (line_of rev l)
unfolding line_of command_of
line_ok rev l =
    cond_all (λ (a : LineAnswer). SaysOk a) (leb (length l) max_line)
    (λ _. cond_all (λ (a : LineAnswer). SaysOk a) (is_printable l) (λ _. form_ok (column_after 0 l) (form_of rev l)) (λ _. tt))
    (λ _. tt)

-- ---- rows

-- rows whose numbers are all in range
abbrev pub RowsOk : Rows → Type 0
RowsOk [] = Unit {0}
RowsOk (r ∷ rs) = CommandOk r.command × StateOk r.state × RowsOk rs

pub rows_append : (xs ys : Rows) → RowsOk xs → RowsOk ys → RowsOk (xs ++ ys)
rows_append [] ys g h = h
rows_append (x ∷ xs) ys g h = (g.0, g.1, rows_append xs ys g.2 h)

pub rows_first : (xs ys : Rows) → RowsOk (xs ++ ys) → RowsOk xs
rows_first [] ys g = tt
rows_first (x ∷ xs) ys g = (g.0, g.1, rows_first xs ys g.2)

pub rows_rest : (xs ys : Rows) → RowsOk (xs ++ ys) → RowsOk ys
rows_rest [] ys g = g
rows_rest (x ∷ xs) ys g = rows_rest xs ys g.2

pub rows_take : (n : ℕ) (rs : Rows) → RowsOk rs → RowsOk (take n rs)
rows_take zero rs g = tt
rows_take (suc n) [] g = tt
rows_take (suc n) (r ∷ rs) g = (g.0, g.1, rows_take n rs g.2)

pub rows_drop : (n : ℕ) (rs : Rows) → RowsOk rs → RowsOk (drop n rs)
rows_drop zero rs g = g
rows_drop (suc n) [] g = tt
rows_drop (suc n) (r ∷ rs) g = rows_drop n rs g.2

pub row_ok : (rs : Rows) (j : ℕ) → RowsOk rs → CommandOk (get_or rs j no_row).command
row_ok [] j g = tt
row_ok (r ∷ rs) zero g = g.0
row_ok (r ∷ rs) (suc j) g = row_ok rs j g.2

pub last_ok : (p : State) (rs : Rows) → StateOk p → RowsOk rs → StateOk (last_of p rs)
unfolding last_of
last_ok p [] s g = s
last_ok p (r ∷ rs) s g = last_ok r.state rs g.1 g.2

-- the command that an answer gives
answer_ok : (a : LineAnswer) (c : Command) → SaysOk a → say_out a ≡ yields c → CommandOk c
answer_ok a c h = by a.command h
  where
    by : (r : Result Command Refusal) → AnswerOk r → out_of r ≡ yields c → CommandOk c
    by (Ok d) g e = let same : d ≡ c = cc in subst CommandOk same g
    by (Err f) g e = absurd (let z : ◌≡◌ {A = ℕ} 0 1 = cc in omega arith)

pub said_ok : (rev : Revision) (l : List ℕ) (c : Command) → say_out (line_of rev l) ≡ yields c → CommandOk c
said_ok rev l c h = answer_ok (line_of rev l) c (line_ok rev l) h

pub read_ok : (rev : Revision) (i : ℕ) (l : Line) (c : Command) → command_in rev i l ≡ yields c → CommandOk c
unfolding command_in answer_in
read_ok rev i l c h =
    answer_ok (answer_in rev i l) c
    (cond_all (λ (a : LineAnswer). SaysOk a) (leb i max_lines)
    (λ _. cond_all (λ (a : LineAnswer). SaysOk a) l.ended (λ _. line_ok rev (text_of l.bytes)) (λ _. tt))
    (λ _. tt)) h

pub reads_ok : (rev : Revision) {p : State} {ls : List Line} {i : ℕ} {rs : Rows} → Reads (command_in rev) taken p ls i rs → StateOk p → RowsOk rs
reads_ok rev nil s = tt
reads_ok rev {p} (link {l = l} {i = i} {r = r} e f h) s =
    let c : CommandOk r.command = read_ok rev (i + 1) l r.command e in
    let q : StateOk r.state = taken_ok p r.state r.command s c f in
    (c, q, reads_ok rev h q)

pub redone_ok : {p : State} {rs ns : Rows} → Redone taken has_ended p rs ns → StateOk p → RowsOk rs → RowsOk ns
redone_ok (past d) s g = tt
redone_ok {p} (met {q = q} {r = r} f e) s g = (g.0, taken_ok p q r.command s g.0 f, tt)
redone_ok {p} (on {q = q} {r = r} f ne h) s g =
    let o : StateOk q = taken_ok p q r.command s g.0 f in
    (g.0, o, redone_ok h o g.2)
