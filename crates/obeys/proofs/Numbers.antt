-- A number is read exactly where one is spelled, and it is the same one.
use mathlib.Core.Path.{◌≡◌, refl, sym, ap, ap₂, ◌∙◌}
use mathlib.Core.Bool.{Bool, true, false}
use mathlib.Core.List.{List, [], ◌∷◌, ◌++◌, append_assoc}
use Prim.Native.Nat.{ℕ, ◌+◌, ◌-◌, ◌*◌, ◌^◌, ◌<◌, ◌≤◌}
use native.Mathlib.Omega.{arith}
use borrow.Author.Tests.{le-leb, leb-true, ne_eqb, eqb-false}
use lib.Dec.{leb, eqb}
use lib.ListN.{drop}
use Rattle.lists.specs.Words.{bytes, starts_with}
use Rattle.lists.proofs.Choice.{cond_all, both}
use Rattle.lists.proofs.Words.{begins, starts_true}
use Rattle.rules.specs.Numbers.{is_digit, DigitRun, one_more, digits_of, Decimal, NumberRead, got, with_fraction, after_digits, magnitude_of, unsigned_of, signed_of}
use Rattle.rules.specs.Numbers as N
use Rattle.laws.proofs.Digits.{NoDigit, NoPoint}
use Rattle.rules.specs.Spelling.{Digits, digit, Magnitude, whole, point, Unsigned, plain, Signed, bare, plus, minus}
use Rattle.rules.specs.Spelling as S

-- ---- digits

digit_is : (b : ℕ) → is_digit b ≡ true → (48 ≤ b) × (b ≤ 57)
unfolding is_digit
digit_is b e = let h = both (leb 48 b) (leb b 57) e in (leb-true 48 b h.0, leb-true b 57 h.1)

digit_yes : (d : ℕ) → d < 10 → is_digit (48 + d) ≡ true
unfolding is_digit
digit_yes d h = rw (le-leb 48 (48 + d) (omega arith), le-leb (48 + d) 57 (omega arith))

abbrev pub digit_run : ℕ → ℕ → List ℕ → DigitRun
digit_run n k rest = record { value = n; count = k; rest = rest }

pub digits_read : {ds : List ℕ} {k n : ℕ} → Digits ds k n → (rest : List ℕ) → NoDigit rest → digits_of (ds ++ rest) ≡ digit_run n k rest
unfolding digits_of
digits_read S.no_digit [] p = refl
digits_read S.no_digit (b ∷ rest) p = rw p
digits_read (digit {d = d} h w) rest p =
    let e : 48 + d - 48 ≡ d = omega arith in
    rw (digit_yes d h, digits_read w rest p, e)

-- l is b and then rest, and b is spelled so
pub record Found (P : List ℕ → Type 0) (l rest : List ℕ) : Type 0 where
  pub b : List ℕ
  pub parts : l ≡ b ++ rest
  pub has : P b

abbrev pub Run : List ℕ → DigitRun → Type 0
Run l r = Found (λ b. Digits b r.count r.value) l r.rest

one_digit : (b : ℕ) (l : List ℕ) (r : DigitRun) → is_digit b ≡ true → Run l r → Run (b ∷ l) (one_more (b - 48) r)
one_digit b l r e w =
    let h = digit_is b e in
    let d : b ≡ 48 + (b - 48) = omega (arith, h.0) in
    record { b = (48 + (b - 48)) ∷ w.b; parts = ap₂ ◌∷◌ d w.parts; has = digit {d = b - 48} (omega (arith, h.1)) w.has }

pub read_digits : (l : List ℕ) → Run l (digits_of l)
unfolding digits_of
read_digits [] = record { b = []; parts = refl; has = S.no_digit }
read_digits (b ∷ l) =
    cond_all (Run (b ∷ l)) (is_digit b) (λ e. one_digit b l (digits_of l) e (read_digits l)) (λ _. record { b = []; parts = refl; has = S.no_digit })

-- ---- what is spelled is read

abbrev number : Bool → ℕ → ℕ → Decimal
number neg m j = record { negative = neg; digits = m; places = j }

magnitude_read : {b : List ℕ} {m j : ℕ} → Magnitude b m j → (rest : List ℕ) (neg : Bool) → NoDigit rest → NoPoint rest
    → magnitude_of neg (b ++ rest) ≡ got (number neg m j) rest
unfolding magnitude_of starts_with is_digit
magnitude_read (whole {k = k} w h) rest neg p q = rw (digits_read w rest p, q, ne_eqb k 0 (λ e. omega (arith, e, h)))
magnitude_read (point {ds = ds} {fs = fs} {k = k} {j = j} w v h) rest neg p q =
    rw (append_assoc ds (bytes "." ++ fs) rest, digits_read w (bytes "." ++ (fs ++ rest)) refl, digits_read v rest p, ne_eqb (k + j) 0 (λ e. omega (arith, e, h)))

-- a magnitude begins with no sign
abbrev NoSign : List ℕ → Type 0
NoSign l = (starts_with l (bytes "-") ≡ false) × (starts_with l (bytes "+") ≡ false)

digit_head : (d : ℕ) (l : List ℕ) → d < 10 → NoSign ((48 + d) ∷ l)
unfolding starts_with
digit_head d l h = (rw (ne_eqb (48 + d) 45 (omega arith)), rw (ne_eqb (48 + d) 43 (omega arith)))

magnitude_head : {b : List ℕ} {m j : ℕ} → Magnitude b m j → (rest : List ℕ) → NoSign (b ++ rest)
unfolding starts_with
magnitude_head (whole S.no_digit h) rest = absurd (omega arith)
magnitude_head (whole (digit {d = d} {ds = ds} p w) h) rest = digit_head d (ds ++ rest) p
magnitude_head (point S.no_digit v h) rest = (refl, refl)
magnitude_head (point {fs = fs} (digit {d = d} {ds = ds} p w) v h) rest = digit_head d (ds ++ (bytes "." ++ fs) ++ rest) p

pub unsigned_read : {b : List ℕ} {d : Decimal} → Unsigned b d → (rest : List ℕ) → NoDigit rest → NoPoint rest → unsigned_of (b ++ rest) ≡ got d rest
unfolding unsigned_of
unsigned_read (plain w) rest p q = magnitude_read w rest false p q

pub signed_read : {b : List ℕ} {d : Decimal} → Signed b d → (rest : List ℕ) → NoDigit rest → NoPoint rest → signed_of (b ++ rest) ≡ got d rest
unfolding signed_of starts_with
signed_read (bare w) rest p q = let h = magnitude_head w rest in rw (h.0, h.1) (magnitude_read w rest false p q)
signed_read (plus w) rest p q = magnitude_read w rest false p q
signed_read (minus w) rest p q = magnitude_read w rest true p q

-- ---- what is read is spelled

abbrev pub Reads : (List ℕ → Decimal → Type 0) → List ℕ → NumberRead → Type 0
Reads P l (got d rest) = Found (λ b. P b d) l rest
Reads P l N.no_number = Unit {0}

-- with the bytes c, a sign, before it
module _ (neg : Bool) (P : List ℕ → Decimal → Type 0) (c l : List ℕ) (f : (b : List ℕ) (m j : ℕ) → Magnitude b m j → P (c ++ b) (number neg m j)) where
  found : (b rest : List ℕ) (m j : ℕ) → l ≡ b ++ rest → Magnitude b m j → Reads P (c ++ l) (got (number neg m j) rest)
  found b rest m j e w = record { b = c ++ b; parts = ap (λ (z : List ℕ). c ++ z) e ∙ sym (append_assoc c b rest); has = f b m j w }

  some_digit : (k : ℕ) → eqb k 0 ≡ false → 0 < k
  some_digit k e = let h = eqb-false k 0 e in omega (arith, h)

  after_digits_lem : (w : DigitRun) → Run l w → Reads P (c ++ l) (after_digits neg w)
  after_digits_lem w v =
      cond_all (Reads P (c ++ l)) (starts_with w.rest (bytes "."))
      (λ t. fraction (digits_of (drop 1 w.rest)) (starts_true w.rest (bytes ".") t) (read_digits (drop 1 w.rest)))
      (λ _. cond_all (Reads P (c ++ l)) (eqb w.count 0) (λ _. tt)
      (λ t. found v.b w.rest w.value 0 v.parts (whole v.has (some_digit w.count t))))
    where
      fraction : (u : DigitRun) → w.rest ≡ bytes "." ++ drop 1 w.rest → Run (drop 1 w.rest) u → Reads P (c ++ l) (with_fraction neg w u)
      fraction u e x =
          cond_all (Reads P (c ++ l)) (eqb (w.count + u.count) 0) (λ _. tt)
          (λ t. found (v.b ++ (bytes "." ++ x.b)) u.rest (w.value * 10 ^ u.count + u.value) u.count
          (v.parts ∙ ap (λ (z : List ℕ). v.b ++ z) (e ∙ ap (λ (z : List ℕ). bytes "." ++ z) x.parts) ∙ sym (append_assoc v.b (bytes "." ++ x.b) u.rest))
          (point v.has x.has (some_digit (w.count + u.count) t)))

  read_magnitude : Reads P (c ++ l) (magnitude_of neg l)
  unfolding magnitude_of
  read_magnitude = after_digits_lem (digits_of l) (read_digits l)

pub read_unsigned : (l : List ℕ) → Reads Unsigned l (unsigned_of l)
unfolding unsigned_of
read_unsigned l = read_magnitude false Unsigned [] l (λ _ _ _ w. plain w)

pub read_signed : (l : List ℕ) → Reads Signed l (signed_of l)
unfolding signed_of
read_signed l =
    cond_all (Reads Signed l) (starts_with l (bytes "-"))
    (λ t. begins l (bytes "-") t (λ z. Reads Signed z (magnitude_of true (drop 1 l))) (read_magnitude true Signed (bytes "-") (drop 1 l) (λ _ _ _ w. minus w)))
    (λ _. cond_all (Reads Signed l) (starts_with l (bytes "+"))
    (λ t. begins l (bytes "+") t (λ z. Reads Signed z (magnitude_of false (drop 1 l))) (read_magnitude false Signed (bytes "+") (drop 1 l) (λ _ _ _ w. plus w)))
    (λ _. read_magnitude false Signed [] l (λ _ _ _ w. bare w)))
