-- Signed numbers of 32 bits as text: a minus and the size where negative, else the size alone.
use mathlib.Core.Path.{◌≡◌, refl, sym}
use mathlib.Core.Bool.{true, false, false≢true}
use mathlib.Core.List.{List, ◌++◌}
use Prim.Native.Nat.{ℕ, suc, ◌<◌, ◌≤◌}
use native.Mathlib.Omega.{arith}
use borrow.Author.Tests.{ltb-true}
use lib.IntN.{ℤ, pos, negsuc, nat_abs}
use lib.ListN.{length}
use lib.Signed.{mag, lt_z}
use mir.Syntax.{w32}
use mir.Val.{SFits, to_z, of_z}
use mir.Facts.{to_z-of_z}
use Rattle.lists.specs.Words.{bytes}
use Rattle.rules.specs.Printing.{decimal, signed_decimal}
use Rattle.rules.specs.Writing.{number_text, coordinate_text}
use Rattle.text.proofs.Decimals.{decimal_short}

pub record Signed (text : ℤ → List ℕ) (whole : ℕ → List ℕ) : Type 0 where
  pub plain : (n : ℕ) → text (pos n) ≡ whole n
  pub minus : (n : ℕ) → text (negsuc n) ≡ bytes "-" ++ whole (suc n)

pub coordinate_signed : Signed coordinate_text number_text
unfolding coordinate_text
coordinate_signed = record { plain = λ n. refl; minus = λ n. refl }

pub decimal_signed : Signed signed_decimal decimal
unfolding signed_decimal
decimal_signed = record { plain = λ n. refl; minus = λ n. refl }

module _ {text : ℤ → List ℕ} {whole : ℕ → List ℕ} (s : Signed text whole) where
  below : (x : ℤ) → lt_z x (pos 0) ≡ true → text x ≡ bytes "-" ++ whole (nat_abs x)
  below (pos n) e = absurd (omega (arith, ltb-true n 0 e))
  below (negsuc n) e = s.minus n

  above : (x : ℤ) → lt_z x (pos 0) ≡ false → text x ≡ whole (nat_abs x)
  above (pos n) e = s.plain n
  above (negsuc n) e = absurd (false≢true (sym e))

  -- x as it is read, and its size m
  module _ (x : ℤ) (h : SFits w32 x) (m : ℕ) (k : m ≡ nat_abs (to_z w32 (of_z w32 x))) where
    pub minus_text : lt_z (to_z w32 (of_z w32 x)) (pos 0) ≡ true → text x ≡ bytes "-" ++ whole m
    minus_text e = rw (k, to_z-of_z h) (below x (rw (to_z-of_z h) at e))

    pub plain_text : lt_z (to_z w32 (of_z w32 x)) (pos 0) ≡ false → text x ≡ whole m
    plain_text e = rw (k, to_z-of_z h) (above x (rw (to_z-of_z h) at e))

pub signed_short : (x : ℤ) → mag x < 2147483648 → length (signed_decimal x) ≤ 11
unfolding signed_decimal
signed_short (pos n) h = omega (arith, decimal_short n (omega arith))
signed_short (negsuc n) h = omega (arith, decimal_short (suc n) (omega arith))
