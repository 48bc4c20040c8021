-- Bytes that no number goes on into.
use mathlib.Core.Path.{◌≡◌, refl}
use mathlib.Core.Bool.{false}
use mathlib.Core.List.{List, [], ◌∷◌}
use Prim.Native.Nat.{ℕ}
use Rattle.lists.specs.Words.{bytes, starts_with}
use Rattle.rules.specs.Numbers.{is_digit, no_digits, digits_of}

-- bytes that begin with no digit, with no point
abbrev pub NoDigit : List ℕ → Type 0
NoDigit [] = Unit {0}
NoDigit (b ∷ l) = is_digit b ≡ false

abbrev pub NoPoint : List ℕ → Type 0
NoPoint l = starts_with l (bytes ".") ≡ false

pub no_digits_lem : (rest : List ℕ) → NoDigit rest → digits_of rest ≡ no_digits rest
unfolding digits_of
no_digits_lem [] h = refl
no_digits_lem (b ∷ l) h = rw h
