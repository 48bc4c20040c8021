-- Numbers in range, and the leftmost that is not: it stands in the column that is answered.
use mathlib.Core.Path.{◌≡◌, refl, sym, ap, ◌∙◌, subst}
use mathlib.Core.Bool.{Bool, true, false, false≢true}
use mathlib.Core.List.{List, [], ◌++◌, append_assoc, append-nil}
use Prim.Native.Nat.{ℕ, suc, ◌+◌, ◌<◌, ◌≤◌}
use Prim.Native.Char.{code}
use native.Mathlib.Omega.{arith}
use lib.ListN.{length, length-append}
use lib.IntN.{ℤ}
use Rattle.lists.specs.Words.{bytes, starts_with}
use Rattle.rules.specs.declared.LineAnswer.{LineAnswer}
use Rattle.rules.specs.declared.Revision.{Revision}
use Rattle.rules.specs.Refusals.{out_of_range}
use Rattle.rules.specs.Numbers.{is_digit, DigitRun, Decimal, millionths, is_coordinate, coordinate_of, is_size, is_tool}
use Rattle.rules.specs.Commands.{Form, declare, says_no, column_after, in_range, point_in_range, arc_in_range, meaning_of}
use Rattle.rules.specs.Spelling.{Digits, digit, Magnitude, whole, point, Unsigned, plain, Signed, bare, plus, minus, SpellsPoint, xy, SpellsArc, xya, tc, Spells, select_is, Coordinate, coordinate, Size, size, Tool}
use Rattle.rules.specs.Spelling as S
use Rattle.rules.proofs.Ranges.{coordinate_says, coordinate_passes, size_says, size_passes, tool_says, tool_passes}
use Rattle.rules.proofs.Columns.{Tail, past_bytes, digits_tail, TailOf, signed_tail}
use Rattle.laws.proofs.Digits.{NoDigit, NoPoint}
use Rattle.obeys.specs.Faults.{NoCoordinate, NoSize, PointOut, x_out, y_out, ArcOut, point_out, radius_out, OutAt, declared_tool_out, diameter_out, selected_tool_out, g00_out, hit_out, g01_out, g02_out, g03_out}
use Rattle.obeys.proofs.Numbers.{digits_read, signed_read}

-- ---- ranges

pub coordinate_read_lem : {d : Decimal} {v : ℤ} → Coordinate d v → (is_coordinate d ≡ true) × (coordinate_of d ≡ v)
unfolding coordinate_of
coordinate_read_lem (coordinate {d = d} p q) = (coordinate_passes d p q, refl)

pub read_coordinate : (d : Decimal) → is_coordinate d ≡ true → Coordinate d (coordinate_of d)
unfolding coordinate_of
read_coordinate d e = let h = coordinate_says d e in coordinate {d = d} h.0 h.1

pub size_read_lem : {d : Decimal} {n : ℕ} → Size d n → (is_size d ≡ true) × (millionths d ≡ n)
size_read_lem (size {d = d} p o q) = (size_passes d p o q, refl)

pub read_size : (d : Decimal) → is_size d ≡ true → Size d (millionths d)
read_size d e = let h = size_says d e in size {d = d} h.0 h.1 h.2

pub tool_read : {t : ℕ} → Tool t → is_tool t ≡ true
tool_read {t} w = tool_passes t w.low w.high

pub read_tool : (t : ℕ) → is_tool t ≡ true → Tool t
read_tool t e = let h = tool_says t e in record { low = h.0; high = h.1 }

-- a test that can't be passed isn't
fails : {P : Type 0} (t : Bool) → (t ≡ true → P) → (P → ⊥) → t ≡ false
fails true h n = absurd (n (h refl))
fails false h n = refl

no_coordinate : (d : Decimal) → NoCoordinate d → is_coordinate d ≡ false
no_coordinate d n = fails (is_coordinate d) (read_coordinate d) (n (coordinate_of d))

no_size : (d : Decimal) → NoSize d → is_size d ≡ false
no_size d n = fails (is_size d) (read_size d) (n (millionths d))

no_tool_lem : (t : ℕ) → (Tool t → ⊥) → is_tool t ≡ false
no_tool_lem t n = fails (is_tool t) (read_tool t) n

not_coordinate : {d : Decimal} → is_coordinate d ≡ false → NoCoordinate d
not_coordinate e v w = false≢true (sym e ∙ (coordinate_read_lem w).0)

not_size : {d : Decimal} → is_size d ≡ false → NoSize d
not_size e n w = false≢true (sym e ∙ (size_read_lem w).0)

not_tool : {t : ℕ} → is_tool t ≡ false → Tool t → ⊥
not_tool e w = false≢true (sym e ∙ tool_read w)

-- ---- the columns behind letters

-- behind the bytes of a number
signed_past : {a : List ℕ} {x : Decimal} → Signed a x → (k c : ℕ) → code "9" < c → (rest : List ℕ) → NoDigit rest → NoPoint rest
    → column_after k (a ++ rest) c ≡ column_after (k + length a) rest c
signed_past {a} v k c h rest p q = past_bytes a (subst (TailOf (a ++ rest)) (signed_read v rest p q) (signed_tail (a ++ rest))) k c h

digits_past : {a : List ℕ} {j n : ℕ} → Digits a j n → (k c : ℕ) → code "9" < c → (rest : List ℕ) → NoDigit rest
    → column_after k (a ++ rest) c ≡ column_after (k + length a) rest c
digits_past {a} v k c h rest p = past_bytes a (subst (λ (r : DigitRun). Tail r.rest (a ++ rest)) (digits_read v rest p) (digits_tail (a ++ rest))) k c h

-- whatever follows the point
y_column : {a : List ℕ} {x : Decimal} → Signed a x → (k : ℕ) (b rest : List ℕ)
    → k + length (bytes "X" ++ (a ++ bytes "Y")) + 1 ≡ column_after k ((bytes "X" ++ (a ++ (bytes "Y" ++ b))) ++ rest) (code "Y")
unfolding column_after starts_with is_digit
y_column {a} v k b rest =
    omega (arith, length-append a (bytes "Y"))
    ∙ sym (ap (λ (z : List ℕ). column_after (suc k) z (code "Y")) (append_assoc a (bytes "Y" ++ b) rest)
    ∙ signed_past v (suc k) (code "Y") (omega arith) (bytes "Y" ++ (b ++ rest)) refl refl)

radius_column : {a : List ℕ} {x y : Decimal} → SpellsPoint a x y → (k : ℕ) (b : List ℕ)
    → k + length (a ++ bytes "A") + 1 ≡ column_after k (a ++ (bytes "A" ++ b)) (code "A")
unfolding column_after starts_with is_digit
radius_column (xy {a = a} {b = c} v w) k b =
    omega (arith, length-append (bytes "X" ++ (a ++ (bytes "Y" ++ c))) (bytes "A"), length-append a (bytes "Y" ++ c))
    ∙ sym (ap (λ (z : List ℕ). column_after (suc k) z (code "A")) (append_assoc a (bytes "Y" ++ c) (bytes "A" ++ b))
    ∙ signed_past v (suc k) (code "A") (omega arith) (bytes "Y" ++ (c ++ (bytes "A" ++ b))) refl refl
    ∙ signed_past w (suc (suc k + length a)) (code "A") (omega arith) (bytes "A" ++ b) refl refl)

diameter_column : {a : List ℕ} {j t : ℕ} → Digits a j t → (b : List ℕ)
    → length (bytes "T" ++ (a ++ bytes "C")) + 1 ≡ column_after 0 (bytes "T" ++ (a ++ (bytes "C" ++ b))) (code "C")
unfolding column_after is_digit
diameter_column {a} v b = omega (arith, length-append a (bytes "C")) ∙ sym (digits_past v 1 (code "C") (omega arith) (bytes "C" ++ b) refl)

-- ---- what is answered where all numbers are in range, and where one is not

module _ (P : LineAnswer → Type 0) where
  range_all : (t : Bool) (c : ℕ) (a : LineAnswer) → (t ≡ true → P a) → (t ≡ false → P (says_no (out_of_range c))) → P (in_range t c a)
  unfolding in_range
  range_all true c a f g = f refl
  range_all false c a f g = g refl

  -- its column told otherwise
  moved_to : {c d : ℕ} → c ≡ d → P (says_no (out_of_range c)) → P (says_no (out_of_range d))
  moved_to e p = subst (λ (z : ℕ). P (says_no (out_of_range z))) e p

  -- a point's bytes, before which k others stand, and then the rest of the line
  point_ranges : {b : List ℕ} {x y : Decimal} → SpellsPoint b x y → (k : ℕ) (rest : List ℕ) (a : LineAnswer)
      → (Coordinate x (coordinate_of x) → Coordinate y (coordinate_of y) → P a) → ((c : ℕ) → PointOut k b x y c → P (says_no (out_of_range c)))
      → P (point_in_range (column_after k (b ++ rest)) x y a)
  unfolding column_after
  point_ranges (xy {b = v} {x = x} {y = y} p q) k rest a f g =
      range_all (is_coordinate x) _ _
      (λ s. range_all (is_coordinate y) _ _ (λ t. f (read_coordinate x s) (read_coordinate y t))
      (λ t. moved_to (y_column p k v rest) (g _ (y_out p q (read_coordinate x s) (not_coordinate t)))))
      (λ s. moved_to (omega arith) (g _ (x_out p q (not_coordinate s))))

  pub point_all : {b : List ℕ} {x y : Decimal} → SpellsPoint b x y → (k : ℕ) (a : LineAnswer)
      → (Coordinate x (coordinate_of x) → Coordinate y (coordinate_of y) → P a) → ((c : ℕ) → PointOut k b x y c → P (says_no (out_of_range c)))
      → P (point_in_range (column_after k b) x y a)
  point_all {b} {x} {y} w k a f g = subst (λ (z : List ℕ). P (point_in_range (column_after k z) x y a)) (append-nil b) (point_ranges w k [] a f g)

  pub arc_all : {b : List ℕ} {x y r : Decimal} → SpellsArc b x y r → (k : ℕ) (a : LineAnswer)
      → (Coordinate x (coordinate_of x) → Coordinate y (coordinate_of y) → Size r (millionths r) → P a)
      → ((c : ℕ) → ArcOut k b x y r c → P (says_no (out_of_range c))) → P (arc_in_range (column_after k b) x y r a)
  arc_all (xya {b = b} {r = r} w v) k a f g =
      point_ranges w k (bytes "A" ++ b) _
      (λ p q. range_all (is_size r) _ _ (λ s. f p q (read_size r s))
      (λ s. moved_to (radius_column w k b) (g _ (radius_out w v p q (not_size s)))))
      (λ c o. g c (point_out o v))

  pub tool_all : (t : ℕ) (c : ℕ) (a : LineAnswer) → (Tool t → P a) → ((Tool t → ⊥) → P (says_no (out_of_range c))) → P (in_range (is_tool t) c a)
  tool_all t c a f g = range_all (is_tool t) c a (λ s. f (read_tool t s)) (λ s. g (not_tool s))

  pub diameter_all : {a b : List ℕ} {j t : ℕ} {d : Decimal} → Digits a j t → Unsigned b d → Tool t → (z : LineAnswer) → (Size d (millionths d) → P z)
      → ((c : ℕ) → OutAt (bytes "T" ++ (a ++ (bytes "C" ++ b))) (declare t d) c → P (says_no (out_of_range c)))
      → P (in_range (is_size d) (column_after 0 (bytes "T" ++ (a ++ (bytes "C" ++ b))) (code "C")) z)
  diameter_all {b = b} {d = d} v u w z f g =
      range_all (is_size d) _ _ (λ s. f (read_size d s))
      (λ s. moved_to (diameter_column v b) (g _ (diameter_out v u w (not_size s))))

-- ---- the other way

point_refused : {k : ℕ} {b : List ℕ} {x y : Decimal} {c : ℕ} → PointOut k b x y c → (rest : List ℕ) (a : LineAnswer)
    → point_in_range (column_after k (b ++ rest)) x y a ≡ says_no (out_of_range c)
unfolding column_after in_range
point_refused {k} (x_out {x = x} p q n) rest a = rw (no_coordinate x n) (ap (λ (z : ℕ). says_no (out_of_range z)) (omega arith))
point_refused {k} (y_out {b = v} {x = x} {y = y} p q s n) rest a =
    rw ((coordinate_read_lem s).0, no_coordinate y n) (ap (λ (z : ℕ). says_no (out_of_range z)) (sym (y_column p k v rest)))

point_end_refused : {k : ℕ} {b : List ℕ} {x y : Decimal} {c : ℕ} → PointOut k b x y c → (a : LineAnswer)
    → point_in_range (column_after k b) x y a ≡ says_no (out_of_range c)
point_end_refused {k} {b} {x} {y} {c} o a =
    subst (λ (z : List ℕ). point_in_range (column_after k z) x y a ≡ says_no (out_of_range c)) (append-nil b) (point_refused o [] a)

arc_refused : {k : ℕ} {b : List ℕ} {x y r : Decimal} {c : ℕ} → ArcOut k b x y r c → (a : LineAnswer)
    → arc_in_range (column_after k b) x y r a ≡ says_no (out_of_range c)
unfolding in_range
arc_refused (point_out {b = b} o u) a = point_refused o (bytes "A" ++ b) _
arc_refused {k} (radius_out {b = b} {r = r} w u p q n) a =
    rw ((coordinate_read_lem p).0, (coordinate_read_lem q).0, no_size r n) (ap (λ (z : ℕ). says_no (out_of_range z)) (sym (radius_column w k b)))

pub out_refused : {l : List ℕ} {f : Form} {c : ℕ} → OutAt l f c → meaning_of (column_after 0 l) f ≡ says_no (out_of_range c)
unfolding meaning_of in_range column_after
out_refused (declared_tool_out {t = t} w n) = rw (no_tool_lem t n)
out_refused (diameter_out {b = b} {d = d} v u w n) = rw (tool_read w, no_size d n) (ap (λ (z : ℕ). says_no (out_of_range z)) (sym (diameter_column v b)))
out_refused (selected_tool_out {t = t} w n) = rw (no_tool_lem t n)
out_refused (g00_out o) = point_end_refused o _
out_refused (hit_out o) = point_end_refused o _
out_refused (g01_out o) = point_end_refused o _
out_refused (g02_out o) = arc_refused o _
out_refused (g03_out o) = arc_refused o _

-- ---- a column lies in its line: every number has a byte

digits_count : {b : List ℕ} {k n : ℕ} → Digits b k n → length b ≡ k
digits_count S.no_digit = refl
digits_count (digit h w) = ap suc (digits_count w)

some_byte : {b : List ℕ} {m j : ℕ} → Magnitude b m j → 1 ≤ length b
some_byte (whole w h) = omega (arith, digits_count w)
some_byte (point {ds = ds} {fs = fs} w v h) = omega (arith, length-append ds (bytes "." ++ fs))

unsigned_byte : {b : List ℕ} {d : Decimal} → Unsigned b d → 1 ≤ length b
unsigned_byte (plain w) = some_byte w

signed_byte : {b : List ℕ} {d : Decimal} → Signed b d → 1 ≤ length b
signed_byte (bare w) = some_byte w
signed_byte (plus w) = omega (arith, some_byte w)
signed_byte (minus w) = omega (arith, some_byte w)

abbrev Within : ℕ → ℕ → Type 0
Within c n = (1 ≤ c) × (c ≤ n)

point_within : {k : ℕ} {b : List ℕ} {x y : Decimal} {c : ℕ} → PointOut k b x y c → Within c (k + length b)
point_within (x_out {a = a} {b = b} p q n) = (omega arith, omega (arith, length-append a (bytes "Y" ++ b)))
point_within (y_out {a = a} {b = b} p q s n) = (omega arith, omega (arith, length-append a (bytes "Y" ++ b), length-append a (bytes "Y"), signed_byte q))

arc_within : {k : ℕ} {b : List ℕ} {x y r : Decimal} {c : ℕ} → ArcOut k b x y r c → Within c (k + length b)
arc_within (point_out {a = a} {b = b} o u) = let w = point_within o in (w.0, omega (arith, w.1, length-append a (bytes "A" ++ b)))
arc_within (radius_out {a = a} {b = b} w u p q n) = (omega arith, omega (arith, length-append a (bytes "A" ++ b), length-append a (bytes "A"), unsigned_byte u))

pub out_within : {rev : Revision} {l : List ℕ} {f : Form} {c : ℕ} → Spells rev l f → OutAt l f c → Within c (length l)
out_within s (declared_tool_out (tc {a = a} {b = b} v u) n) = (omega arith, omega (arith, length-append a (bytes "C" ++ b)))
out_within s (diameter_out {a = a} {b = b} v u w n) = (omega arith, omega (arith, length-append a (bytes "C" ++ b), length-append a (bytes "C"), unsigned_byte u))
out_within (select_is w p q) (selected_tool_out v n) = (omega arith, omega (arith, digits_count w))
out_within s (g00_out o) = let w = point_within o in (w.0, omega (arith, w.1))
out_within s (hit_out o) = let w = point_within o in (w.0, omega (arith, w.1))
out_within s (g01_out o) = let w = point_within o in (w.0, omega (arith, w.1))
out_within s (g02_out o) = let w = arc_within o in (w.0, omega (arith, w.1))
out_within s (g03_out o) = let w = arc_within o in (w.0, omega (arith, w.1))
