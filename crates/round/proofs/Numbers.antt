-- A number that was written reads back. The last k digits of m read as m mod 10 ^ k, by induction on k; a number with d decimals is its
-- whole units and then these decimals, so what is read is v in units of the last of them. The shortest number and a radius are such numbers.
use mathlib.Core.Path.{◌≡◌, refl, sym, ap, ◌∙◌}
use mathlib.Core.Bool.{Bool, true, false}
use mathlib.Core.List.{List, [], ◌∷◌, ◌++◌, append_assoc, append-nil}
use Prim.Native.Nat.{ℕ, zero, suc, ◌+◌, ◌-◌, ◌*◌, ◌/◌, ◌%◌, ◌^◌, ◌<◌, ◌≤◌, min}
use native.Mathlib.Omega.{arith}
use native.Mathlib.Nat.{mod-lt, mod-eq_of_lt, mod-one, mul_assoc, pow-succ', one-le-pow, div-add-mod', div-lt_iff_lt-mul, mul-add-div_right, dvd-mul_left, mod-mod_of_dvd}
use borrow.Author.Tests.{ltb-true, eqb-true, lt-ltb, le-leb, eq-eqb, ne_eqb}
use lib.Arith.{mod-mul}
use lib.Dec.{ltb, eqb}
use lib.IntN.{ℤ, pos, negsuc, nat_abs}
use lib.Pow.{pow-add}
use Rattle.lists.specs.Words.{starts_with}
use Rattle.lists.proofs.Choice.{cond_all}
use Rattle.points.specs.declared.Arc.{Arc}
use Rattle.points.specs.Points.{place_of}
use Rattle.rules.specs.Numbers.{max_number, max_tool, max_places, is_digit, digits_of, Decimal, got, magnitude_of, unsigned_of, signed_of, millionths, is_coordinate, coordinate_of, is_size}
use Rattle.rules.specs.Ranges.{ArcOk}
use Rattle.rules.proofs.Ranges.{coordinate_passes, size_passes}
use Rattle.laws.proofs.Digits.{NoDigit, NoPoint, no_digits_lem}
use Rattle.rules.specs.Writing.{last_digits, width_of, places_of, whole_text, fraction_text, number_text, radius_text, coordinate_text, tool_text}

-- ---- digits

digit_yes : (d : ℕ) → d < 10 → is_digit (48 + d) ≡ true
unfolding is_digit
digit_yes d h = rw (le-leb 48 (48 + d) (omega arith), le-leb (48 + d) 57 (omega arith))

pub value_more : (k m : ℕ) → m / 10 ^ k % 10 * 10 ^ k + m % 10 ^ k ≡ m % 10 ^ suc k
value_more k m = rw (pow-succ' 10 k) (sym (mod-mul m {m = 10} {c = 10 ^ k} (omega arith) (one-le-pow k 10 (omega arith))))

pub digits_back : (k m : ℕ) (rest : List ℕ) → NoDigit rest → digits_of (last_digits k m ++ rest) ≡ record { value = m % 10 ^ k; count = k; rest = rest }
unfolding digits_of last_digits
digits_back zero m rest h = no_digits_lem rest h ∙ (λ i. record { value = sym (mod-one m) i; count = 0; rest = rest })
digits_back (suc k) m rest h =
    let d : ℕ = m / 10 ^ k % 10 in
    let e : 48 + d - 48 ≡ d = omega arith in
    rw (digit_yes d (mod-lt (m / 10 ^ k) (omega arith)), e, digits_back k m rest h)
    (λ i. record { value = value_more k m i; count = suc k; rest = rest })

-- two digits of a tool number
pub tool_back : (t : ℕ) (rest : List ℕ) → t ≤ max_tool → NoDigit rest → digits_of (tool_text t ++ rest) ≡ record { value = t; count = 2; rest = rest }
unfolding tool_text
tool_back t rest b h = digits_back 2 t rest h ∙ (λ i. record { value = mod-eq_of_lt {n = t} {m = 100} (omega arith) i; count = 2; rest = rest })

-- ---- how wide a number is written

pub record Width (w n : ℕ) : Type 0 where
  pub holds : w < 10 ^ n
  pub some : 0 < n
  pub short : n ≤ 3

width_at : (w n : ℕ) → 0 < n → n ≤ 3 → ltb w (10 ^ n) ≡ true → Width w n
width_at w n h g t = record { holds = ltb-true w (10 ^ n) t; some = h; short = g }

pub width_is : (w : ℕ) → w < 1000 → Width w (width_of w)
unfolding width_of
width_is w h =
    cond_all (Width w) _ (width_at w 1 (omega arith) (omega arith))
    (λ _. cond_all (Width w) _ (width_at w 2 (omega arith) (omega arith)) (λ _. width_at w 3 (omega arith) (omega arith) (lt-ltb w 1000 h)))

-- v millionths are a whole number of units of the last of d decimals
pub record Places (v d : ℕ) : Type 0 where
  pub most : d ≤ max_places
  pub exact : v % place_of d ≡ 0

places_at : (f d : ℕ) → d ≤ max_places → eqb (f % place_of d) 0 ≡ true → Places f d
places_at f d h t = record { most = h; exact = eqb-true (f % place_of d) 0 t }

pub places_is : (f : ℕ) → Places f (places_of f)
unfolding places_of
places_is f =
    cond_all (Places f) _ (places_at f 0 (omega arith))
    (λ _. cond_all (Places f) _ (places_at f 1 (omega arith))
    (λ _. cond_all (Places f) _ (places_at f 2 (omega arith))
    (λ _. cond_all (Places f) _ (places_at f 3 (omega arith))
    (λ _. cond_all (Places f) _ (places_at f 4 (omega arith))
    (λ _. cond_all (Places f) _ (places_at f 5 (omega arith))
    (λ _. places_at f 6 (omega arith) (eq-eqb (f % 1) 0 (mod-one f))))))))

-- ---- v millionths in units of the last of d decimals

module _ (d : ℕ) where
  pub place_some : 1 ≤ place_of d
  place_some = one-le-pow (6 - d) 10 (omega arith)

  module _ (h : d ≤ max_places) where
    -- a whole unit
    pub unit_parts : 10 ^ d * place_of d ≡ 1000000
    unit_parts = let e : d + (6 - d) ≡ 6 = omega arith in sym (pow-add 10 d (6 - d)) ∙ ap (λ (n : ℕ). 10 ^ n) e

    -- less than one
    pub decimals_fit : (f : ℕ) → f < 1000000 → f / place_of d < 10 ^ d
    decimals_fit f k = (div-lt_iff_lt-mul place_some).1 (omega (arith, unit_parts))

    -- whole units and the part below one
    digits_are : (v : ℕ) → v / 1000000 * 10 ^ d + v % 1000000 / place_of d ≡ v / place_of d
    digits_are v =
        let w : ℕ = v / 1000000 in
        let e = mul_assoc w (10 ^ d) (place_of d) ∙ ap (λ (n : ℕ). w * n) unit_parts in
        sym (mul-add-div_right place_some (w * 10 ^ d) (v % 1000000)) ∙ ap (λ (n : ℕ). n / place_of d) (omega (arith, e))

    -- whole units leave nothing over
    pub part_left : (v : ℕ) → v % 1000000 % place_of d ≡ v % place_of d
    part_left v = rw unit_parts at (mod-mod_of_dvd (place_of d) v (dvd-mul_left (place_of d) (10 ^ d)))

-- ---- v millionths written with d decimals: the text, and the decimal that it is

abbrev pub text_with : ℕ → ℕ → List ℕ
text_with d v = whole_text v ++ fraction_text d (v % 1000000)

abbrev pub written_with : ℕ → Bool → ℕ → Decimal
written_with d neg v = record { negative = neg; digits = v / place_of d; places = d }

-- as an arc's radius
pub arc_places : (a : Arc) → ArcOk a → Places a.radius a.decimals
arc_places a h = record { most = h.decimals_range; exact = h.whole_places }

pub radius_text_lem : (d v : ℕ) → d ≤ max_places → radius_text d v ≡ text_with d v
unfolding radius_text
radius_text_lem d v h = let e : min d max_places ≡ d = omega arith in rw e

-- and with the fewest
abbrev pub places_in : ℕ → ℕ
places_in v = places_of (v % 1000000)

pub fewest_places : (v : ℕ) → Places v (places_in v)
fewest_places v = let p = places_is (v % 1000000) in record { most = p.most; exact = sym (part_left (places_in v) p.most v) ∙ p.exact }

abbrev pub written : Bool → ℕ → Decimal
written neg v = written_with (places_in v) neg v

pub written_millionths : {d : ℕ} (neg : Bool) (v : ℕ) → Places v d → millionths (written_with d neg v) ≡ v
unfolding millionths
written_millionths {d} neg v h = omega (arith, div-add-mod' v (place_of d), h.exact)

-- ---- a number, and then what ends it

magnitude_back : (neg : Bool) (d v : ℕ) (rest : List ℕ) → d ≤ max_places → v ≤ max_number → NoDigit rest → NoPoint rest
    → magnitude_of neg (text_with d v ++ rest) ≡ got (written_with d neg v) rest
unfolding magnitude_of fraction_text is_digit starts_with
magnitude_back neg zero v rest h k e p =
    let wide = width_is (v / 1000000) (omega arith) in
    let n : ℕ = width_of (v / 1000000) in
    rw (
      append-nil (whole_text v),
      digits_back n (v / 1000000) rest e,
      p,
      ne_eqb n 0 (omega (arith, wide.some)),
      mod-eq_of_lt wide.holds,
    )
magnitude_back neg (suc d) v rest h k e p =
    let wide = width_is (v / 1000000) (omega arith) in
    let n : ℕ = width_of (v / 1000000) in
    let m : ℕ = v % 1000000 / place_of (suc d) in
    rw (
      ne_eqb (suc d) 0 (λ z. omega arith),
      append_assoc (whole_text v) (46 ∷ last_digits (suc d) m) rest,
      digits_back n (v / 1000000) (46 ∷ (last_digits (suc d) m ++ rest)) refl,
      digits_back (suc d) m rest e,
      ne_eqb (n + suc d) 0 (λ z. omega arith),
      mod-eq_of_lt wide.holds,
      mod-eq_of_lt (decimals_fit (suc d) h (v % 1000000) (mod-lt v (omega arith))),
      digits_are (suc d) h v,
    )

-- ---- without a sign, at the line's end, and with one

unsigned_back : (d v : ℕ) → d ≤ max_places → v ≤ max_number → unsigned_of (text_with d v) ≡ got (written_with d false v) []
unfolding unsigned_of starts_with
unsigned_back d v h k = ap unsigned_of (sym (append-nil (text_with d v))) ∙ magnitude_back false d v [] h k tt refl

pub number_back : (v : ℕ) → v ≤ max_number → unsigned_of (number_text v) ≡ got (written false v) []
unfolding number_text
number_back v k = unsigned_back (places_in v) v (fewest_places v).most k

pub radius_back : (d v : ℕ) → d ≤ max_places → v ≤ max_number → unsigned_of (radius_text d v) ≡ got (written_with d false v) []
radius_back d v h k = ap unsigned_of (radius_text_lem d v h) ∙ unsigned_back d v h k

-- a digit is no sign
no_sign : (b : ℕ) (k m : ℕ) (l : List ℕ) → b < 48 → 0 < k → starts_with (last_digits k m ++ l) (b ∷ []) ≡ false
unfolding starts_with last_digits
no_sign b zero m l h g = absurd (omega arith)
no_sign b (suc k) m l h g = rw (ne_eqb (48 + m / 10 ^ k % 10) b (omega arith))

number_no_sign : (b v : ℕ) (rest : List ℕ) → b < 48 → v ≤ max_number → starts_with (number_text v ++ rest) (b ∷ []) ≡ false
unfolding number_text
number_no_sign b v rest h g =
    rw (append_assoc (whole_text v) (fraction_text (places_in v) (v % 1000000)) rest)
    (no_sign b (width_of (v / 1000000)) (v / 1000000) (fraction_text (places_in v) (v % 1000000) ++ rest) h (width_is (v / 1000000) (omega arith)).some)

abbrev pub written_coordinate : ℤ → Decimal
written_coordinate (pos v) = written false v
written_coordinate (negsuc v) = written true (suc v)

pub coordinate_back : (x : ℤ) (rest : List ℕ) → nat_abs x ≤ max_number → NoDigit rest → NoPoint rest
    → signed_of (coordinate_text x ++ rest) ≡ got (written_coordinate x) rest
unfolding signed_of coordinate_text number_text starts_with
coordinate_back (pos v) rest h e p =
    rw (number_no_sign 45 v rest (omega arith) h, number_no_sign 43 v rest (omega arith) h)
    (magnitude_back false (places_in v) v rest (fewest_places v).most h e p)
coordinate_back (negsuc v) rest h e p = magnitude_back true (places_in (suc v)) (suc v) rest (fewest_places (suc v)).most h e p

-- ---- ranges

within_range : (neg : Bool) (v : ℕ) → v ≤ max_number → is_coordinate (written neg v) ≡ true
within_range neg v h = coordinate_passes (written neg v) (fewest_places v).most (omega (arith, written_millionths neg v (fewest_places v)))

pub written_coordinate_lem : (x : ℤ) → nat_abs x ≤ max_number → is_coordinate (written_coordinate x) ≡ true
written_coordinate_lem (pos v) h = within_range false v h
written_coordinate_lem (negsuc v) h = within_range true (suc v) h

pub written_is : (x : ℤ) → coordinate_of (written_coordinate x) ≡ x
unfolding coordinate_of
written_is (pos v) = ap pos (written_millionths false v (fewest_places v))
written_is (negsuc v) = rw (written_millionths true (suc v) (fewest_places (suc v)))

pub written_size : {d : ℕ} (v : ℕ) → Places v d → 1 ≤ v → v ≤ max_number → is_size (written_with d false v) ≡ true
written_size {d} v h g k = let e = written_millionths false v h in size_passes (written_with d false v) h.most (omega arith) (omega arith)
