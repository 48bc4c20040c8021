-- X, a number, Y, a number, and A, a number after them: each way in which the form can fail, and the ranges after it.
use mathlib.Core.Path.{◌≡◌, refl, sym, ap, ap₂, subst, ◌∙◌}
use mathlib.Core.Bool.{Bool, true, false, cond}
use mathlib.Core.List.{List, [], ◌∷◌}
use Prim.Native.Nat.{ℕ, ◌+◌, ◌<◌, ◌≤◌}
use Prim.Native.Char.{code}
use native.Mathlib.Omega.{arith}
use native.Mathlib.Numerals.{add-one}
use borrow.Author.Tests.{eq-eqb, ne_eqb}
use lib.IntN.{ℤ}
use lib.ListN.{length, drop, drop_of_length-le}
use lib.Seq.{drop-cons, drop-drop}
use Rattle.std.specs.Prelude.{Option, Some, None, Result, Ok, Err}
use Rattle.points.specs.declared.Point.{Point}
use Rattle.points.specs.declared.Arc.{Arc}
use Rattle.lists.specs.Words.{bytes, starts_with}
use Rattle.lists.proofs.Words.{begins}
use Rattle.rules.specs.declared.Refusal.{Refusal}
use Rattle.rules.specs.declared.Command.{Command}
use Rattle.rules.specs.Refusals.{no_such_form, out_of_range}
use Rattle.rules.specs.Numbers.{max_places, Decimal, NumberRead, on_number, signed_of, unsigned_of, is_coordinate, coordinate_of, is_size, millionths}
use Rattle.rules.specs.Commands.{Form, Formed, is, no_form, at_end, point_form, arc_form, column_after, says, in_range}
use Rattle.rules.proofs.Columns.{past_place, TailOf, signed_tail}
use Rattle.rules.proofs.Ranges.{size_says}
use Rattle.number.specs.declared.Written.{Written}
use Rattle.number.specs.Capped.{HeldAs, ReadsTo, number_at, decimal_of, coordinate_read, size_read}
use Rattle.number.proofs.Runs.{stands_within}
use Rattle.number.proofs.Readings.{signed_reads, unsigned_reads, none_reads}
use Rattle.number.proofs.Ranges.{coordinate_exact, size_exact}
use Rattle.command.specs.declared.Pair.{Pair}
use Rattle.command.specs.Parts.{number_behind, HasPair, PairAt, placed, last_size, HasSize, SizeAt, answer_of, PointLine, ArcLine}

-- ---- the line's end

module _ (s : List ℕ) (n : ℕ) (f : Form) where
  pub ended_is : n ≡ length s → at_end (drop n s) f ≡ is f
  ended_is e = rw (drop_of_length-le s {i = n} (omega arith))

  pub ended_no : n ≤ length s → (n ≡ length s → ⊥) → at_end (drop n s) f ≡ no_form
  ended_no h e = rw (drop-cons s n 0 (omega arith))

-- ---- a diameter or a radius to the line's end

pub size_ends : (s : List ℕ) (at : ℕ) {r : Option Written} → r ≡ number_at (at + 1) (length s) (unsigned_of (drop at s)) → {w : Written} → r ≡ Some w → w.next ≡ length s → HasSize s at w
size_ends s at e {w} g n =
    let read : ReadsTo s (at + 1) (unsigned_of (drop at s)) w = unsigned_reads s at w e g in
    record {
      size_is = read.decimal;
      form = λ f. rw read.reading (ended_is s w.next (f read.decimal) n);
      column_is = read.column_is;
      holds = read.holds;
    }

pub size_same : {s : List ℕ} {at : ℕ} {w : Written} (h : HasSize s at w) → size_read w.column (decimal_of w) ≡ size_read (at + 1) h.size_is
size_same {w = w} h = size_exact w.column w h.size_is h.holds ∙ ap (λ (c : ℕ). size_read c h.size_is) h.column_is

-- a number in range has few places
pub size_places : (c : ℕ) (d : Decimal) {n : ℕ} {r : Result ℕ Refusal} → r ≡ size_read c d → r ≡ Ok n → d.places ≤ max_places
unfolding size_read
size_places c d {n} e g = by (is_size d) refl (sym e ∙ g)
  where
    by : (t : Bool) → is_size d ≡ t → cond t (Ok (millionths d)) (Err (out_of_range c)) ≡ Ok n → d.places ≤ max_places
    by true h _ = (size_says d h).0
    by false _ q = cc

-- ---- the columns behind letters

module _ (s : List ℕ) (at : ℕ) where
  -- a letter that stands at a place is found there
  pub column_here : (b : ℕ) → starts_with (drop at s) (b ∷ []) ≡ true → column_after at (drop at s) b ≡ at + 1 + 1
  unfolding column_after
  column_here b t = begins (drop at s) (b ∷ []) t (λ z. column_after at z b ≡ at + 1 + 1) (rw (eq-eqb b b refl) (omega arith))

  -- any other is looked for behind it
  column_next : (b c : ℕ) → starts_with (drop at s) (b ∷ []) ≡ true → (b ≡ c → ⊥) → column_after at (drop at s) c ≡ column_after (at + 1) (drop (at + 1) s) c
  unfolding column_after
  column_next b c t h =
      begins (drop at s) (b ∷ []) t (λ z. column_after at z c ≡ column_after (at + 1) (drop (at + 1) s) c)
      (rw (ne_eqb b c h, drop-drop 1 at s, add-one at))

  -- and behind a number
  column_past : (c d : ℕ) (w : Written) → code "9" < c → at ≤ length s → ReadsTo s d (signed_of (drop at s)) w
      → column_after at (drop at s) c ≡ column_after w.next (drop w.next s) c
  column_past c d w h k r = past_place s at w.next c (subst (TailOf (drop at s)) r.reading (signed_tail (drop at s))) k r.within h

-- ---- a letter and a number behind it

abbrev letter_form : ℕ → List ℕ → (Decimal → List ℕ → Formed) → Formed
letter_form b l g = cond (starts_with l (b ∷ [])) (on_number (signed_of (drop 1 l)) no_form g) no_form

record Behind (s : List ℕ) (at b : ℕ) (w : Written) : Type 0 where
  decimal : Decimal
  form : (g : Decimal → List ℕ → Formed) → letter_form b (drop at s) g ≡ g decimal (drop w.next s)
  column_is : w.column ≡ column_after at (drop at s) b
  past : (c : ℕ) → (b ≡ c → ⊥) → code "9" < c → column_after at (drop at s) c ≡ column_after w.next (drop w.next s) c
  holds : HeldAs w decimal
  within : w.next ≤ length s

module _ (s : List ℕ) (at b : ℕ) {r : Option Written} (e : r ≡ number_behind s at b) where
  behind_none : r ≡ None → (g : Decimal → List ℕ → Formed) → letter_form b (drop at s) g ≡ no_form
  behind_none n g = by (starts_with (drop at s) (b ∷ [])) (sym e ∙ n)
    where
      by : (t : Bool) → cond t (number_at (at + 1 + 1) (length s) (signed_of (drop (at + 1) s))) None ≡ None
          → cond t (on_number (signed_of (drop 1 (drop at s))) no_form g) no_form ≡ no_form
      by true q = rw (drop-drop 1 at s, none_reads (at + 1 + 1) (length s) (signed_of (drop (at + 1) s)) refl q)
      by false q = refl

  behind_some : {w : Written} → r ≡ Some w → Behind s at b w
  behind_some {w} n = by (starts_with (drop at s) (b ∷ [])) refl (sym e ∙ n)
    where
      by : (t : Bool) → starts_with (drop at s) (b ∷ []) ≡ t → cond t (number_at (at + 1 + 1) (length s) (signed_of (drop (at + 1) s))) None ≡ Some w → Behind s at b w
      by true t q =
          let read : ReadsTo s (at + 1 + 1) (signed_of (drop (at + 1) s)) w = signed_reads s (at + 1) w refl q in
          record {
            decimal = read.decimal;
            form = λ g. rw (t, drop-drop 1 at s) (ap (λ (z : NumberRead). on_number z no_form g) read.reading);
            column_is = read.column_is ∙ sym (column_here s at b t);
            past = λ c k h. column_next s at b c t k ∙ column_past s (at + 1) c (at + 1 + 1) w h (omega (arith, stands_within s at b (sym t) refl)) read;
            holds = read.holds;
            within = read.within;
          }
      by false _ q = cc

module _ (s : List ℕ) (at : ℕ) {r : Option Written} (er : r ≡ number_behind s at (code "X")) where
  pub pair_no_x : r ≡ None → PairAt s at None
  unfolding point_form
  pair_no_x e f = behind_none s at (code "X") er e _

  module _ {x : Written} (ex : r ≡ Some x) {q : Option Written} (eq : q ≡ number_behind s x.next (code "Y")) where
    first : Behind s at (code "X") x
    first = behind_some s at (code "X") er ex

    pub pair_no_y : q ≡ None → PairAt s at None
    unfolding point_form
    pair_no_y e f = first.form _ ∙ behind_none s x.next (code "Y") eq e _

    pub pair_is : {y : Written} → q ≡ Some y → HasPair s at (record { x = x; y = y })
    unfolding point_form
    pair_is {y} ey =
        let second : Behind s x.next (code "Y") y = behind_some s x.next (code "Y") eq ey in
        record {
          x_is = first.decimal;
          y_is = second.decimal;
          form = λ f. first.form _ ∙ second.form _;
          x_column = first.column_is;
          y_column = second.column_is ∙ sym (first.past (code "Y") (omega arith) (omega arith));
          past = first.past (code "A") (omega arith) (omega arith) ∙ second.past (code "A") (omega arith) (omega arith);
          x_holds = first.holds;
          y_holds = second.holds;
          within = second.within;
        }

-- ---- the place of a pair

abbrev place_of : Pair → Result Point Refusal
place_of p = placed (coordinate_read p.x.column (decimal_of p.x)) (coordinate_read p.y.column (decimal_of p.y))

abbrev coordinate_by : Bool → ℤ → ℕ → Result ℤ Refusal
coordinate_by b x c = cond b (Ok x) (Err (out_of_range c))

abbrev size_by : Bool → ℕ → ℕ → Result ℕ Refusal
size_by b n c = cond b (Ok n) (Err (out_of_range c))

point_by : (k : Point → Command) (a b : Bool) (x y : ℤ) (c d : ℕ)
    → in_range a c (in_range b d (says (k (record { x = x; y = y })))) ≡ answer_of k (placed (coordinate_by a x c) (coordinate_by b y d))
unfolding in_range
point_by k true true x y c d = refl
point_by k true false x y c d = refl
point_by k false b x y c d = refl

-- a point and a radius of d decimals
abbrev arc_made : ℕ → Result Point Refusal → Result ℕ Refusal → Result Arc Refusal
arc_made d (Ok p) (Ok r) = Ok (record { to = p; radius = r; decimals = d })
arc_made d (Ok p) (Err e) = Err e
arc_made d (Err e) z = Err e

arc_by : (k : Arc → Command) (a b c : Bool) (x y : ℤ) (r d p q t : ℕ)
    → in_range a p (in_range b q (in_range c t (says (k (record { to = record { x = x; y = y }; radius = r; decimals = d })))))
    ≡ answer_of k (arc_made d (placed (coordinate_by a x p) (coordinate_by b y q)) (size_by c r t))
unfolding in_range
arc_by k true true true x y r d p q t = refl
arc_by k true true false x y r d p q t = refl
arc_by k true false c x y r d p q t = refl
arc_by k false b c x y r d p q t = refl

module _ {s : List ℕ} {at : ℕ} {p : Pair} (h : HasPair s at p) where
  abbrev after : ℕ → ℕ
  after = column_after at (drop at s)

  same_coordinate : (w : Written) (d : Decimal) (c : ℕ) → HeldAs w d → w.column ≡ c → coordinate_read w.column (decimal_of w) ≡ coordinate_read c d
  same_coordinate w d c k e = coordinate_exact w.column w d k ∙ ap (λ (z : ℕ). coordinate_read z d) e

  same_place : place_of p ≡ placed (coordinate_read (after (code "X")) h.x_is) (coordinate_read (after (code "Y")) h.y_is)
  same_place = ap₂ placed (same_coordinate p.x h.x_is _ h.x_holds h.x_column) (same_coordinate p.y h.y_is _ h.y_holds h.y_column)

  -- a point alone
  pub point_goes_on : (p.y.next ≡ length s → ⊥) → PointLine s at (Err no_such_form)
  unfolding PointLine
  point_goes_on n k f m = rw (h.form _, ended_no s p.y.next (f h.x_is h.y_is) h.within n)

  pub point_ends : p.y.next ≡ length s → {z : Result Point Refusal} → z ≡ place_of p → PointLine s at z
  unfolding PointLine coordinate_read
  point_ends n e k f m =
      rw (h.form _, ended_is s p.y.next (f h.x_is h.y_is) n, e, same_place)
      (sym (m after h.x_is h.y_is ∙ point_by k (is_coordinate h.x_is) (is_coordinate h.y_is) (coordinate_of h.x_is) (coordinate_of h.y_is) (after (code "X")) (after (code "Y"))))

  -- a point and a radius
  pub arc_no_a : {t : Bool} → t ≡ starts_with (drop p.y.next s) (bytes "A") → t ≡ false → ArcLine s at (Err no_such_form)
  unfolding ArcLine arc_form
  arc_no_a et g k f m = rw (h.form _, sym et ∙ g)

  module _ {t : Bool} (et : t ≡ starts_with (drop p.y.next s) (bytes "A")) (g : t ≡ true) where
    after_a : (f : Decimal → Decimal → Decimal → Form) → arc_form (drop at s) f ≡ last_size (drop (p.y.next + 1) s) (f h.x_is h.y_is)
    unfolding arc_form
    after_a f = rw (h.form _, sym et ∙ g, drop-drop 1 p.y.next s)

    pub arc_no_radius : SizeAt s (p.y.next + 1) None → ArcLine s at (Err no_such_form)
    unfolding ArcLine
    arc_no_radius e k f m = rw (after_a f, e (f h.x_is h.y_is))

    module _ {a : Written} (r : HasSize s (p.y.next + 1) a) where
      radius_column : after (code "A") ≡ p.y.next + 1 + 1
      radius_column = h.past ∙ column_here s p.y.next (code "A") (sym et ∙ g)

      same_radius : size_read a.column (decimal_of a) ≡ size_read (after (code "A")) r.size_is
      same_radius = size_same r ∙ ap (λ (c : ℕ). size_read c r.size_is) (sym radius_column)

      arc_ends : {v : Result Point Refusal} {w : Result ℕ Refusal} → place_of p ≡ v → size_read a.column (decimal_of a) ≡ w → ArcLine s at (arc_made a.places v w)
      unfolding ArcLine coordinate_read size_read
      arc_ends e q k f m =
          rw (after_a f, r.form (f h.x_is h.y_is), ← e, same_place, ← q, same_radius, r.holds.places_is)
          (sym (m after h.x_is h.y_is r.size_is
          ∙ arc_by k (is_coordinate h.x_is) (is_coordinate h.y_is) (is_size r.size_is) (coordinate_of h.x_is) (coordinate_of h.y_is) (millionths r.size_is) r.size_is.places
          (after (code "X")) (after (code "Y")) (after (code "A"))))

      module _ {z : Result Point Refusal} (ez : z ≡ place_of p) where
        pub arc_no_place : {e : Refusal} → z ≡ Err e → ArcLine s at (Err e)
        arc_no_place g = arc_ends (sym ez ∙ g) refl

        module _ {to : Point} (gz : z ≡ Ok to) {w : Result ℕ Refusal} (ew : w ≡ size_read a.column (decimal_of a)) where
          pub arc_no_size : {e : Refusal} → w ≡ Err e → ArcLine s at (Err e)
          arc_no_size f = arc_ends (sym ez ∙ gz) (sym ew ∙ f)

          pub arc_is : {n : ℕ} → w ≡ Ok n → ArcLine s at (Ok (record { to = to; radius = n; decimals = a.places }))
          arc_is f = arc_ends (sym ez ∙ gz) (sym ew ∙ f)

module _ (s : List ℕ) (at : ℕ) (h : PairAt s at None) where
  pub point_none : PointLine s at (Err no_such_form)
  unfolding PointLine
  point_none k f m = rw (h _)

  pub arc_none : ArcLine s at (Err no_such_form)
  unfolding ArcLine arc_form
  arc_none k f m = rw (h _)

pub ruleset pairs = (pair_no_x, pair_no_y, pair_is)

pub ruleset points = (point_none, point_goes_on, point_ends)

pub ruleset arcs = (arc_none, arc_no_a, arc_no_radius, arc_no_place, arc_no_size, arc_is, size_places)
