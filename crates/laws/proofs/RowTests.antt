-- The tests of a row's numbers: what each says of a number, and of the numbers of a row in range.
use mathlib.Core.Path.{◌≡◌, refl, sym, ap, ◌∙◌}
use mathlib.Core.List.{List}
use mathlib.Core.Bool.{Bool, true, false, ◌&&◌, false≢true}
use Prim.Native.Nat.{ℕ, ◌≤◌, ◌%◌}
use native.Mathlib.Omega.{arith}
use borrow.Author.Tests.{leb-true, le-leb, eqb-true, eq-eqb}
use lib.Dec.{leb}
use lib.IntN.{ℤ, pos, negsuc, nat_abs}
use Rattle.lists.proofs.Choice.{both}
use Rattle.rules.specs.Numbers.{max_number, max_tool}
use Rattle.rules.specs.Kinds as Kinds
use Rattle.rules.specs.State.{over, inch_unit, tool_down}
use Rattle.tools.specs.Set.{max_word}
use Rattle.rules.specs.Rows.{within, is_coord, is_even, is_zero, field, field_n, legal_tool, legal_point, legal_size, legal_decimals, legal_command, legal_state}

pub both_true : (a b : Bool) → a ≡ true → b ≡ true → (a && b) ≡ true
both_true true b e f = f
both_true false b e f = e

-- a number that a test lets through
pub record Within (lo hi : ℕ) (z : ℤ) : Type 0 where
  pub natural : pos (nat_abs z) ≡ z
  pub low : lo ≤ nat_abs z
  pub high : nat_abs z ≤ hi

pub within_yes : (lo hi n : ℕ) → lo ≤ n → n ≤ hi → within lo hi (pos n) ≡ true
unfolding within
within_yes lo hi n h k = both_true (leb lo n) (leb n hi) (le-leb lo n h) (le-leb n hi k)

pub within_says : (lo hi : ℕ) (z : ℤ) → within lo hi z ≡ true → Within lo hi z
unfolding within
within_says lo hi (pos n) e = let h = both (leb lo n) (leb n hi) e in record { natural = refl; low = leb-true lo n h.0; high = leb-true n hi h.1 }
within_says lo hi (negsuc n) e = absurd (false≢true e)

pub zero_says : (z : ℤ) → is_zero z ≡ true → z ≡ pos 0
zero_says z e = let w = within_says 0 0 z e in let h : nat_abs z ≡ 0 = omega arith in sym w.natural ∙ ap pos h

pub coord_yes : (z : ℤ) → nat_abs z ≤ max_number → is_coord z ≡ true
unfolding is_coord
coord_yes z h = le-leb (nat_abs z) max_number h

pub coord_says : (z : ℤ) → is_coord z ≡ true → nat_abs z ≤ max_number
unfolding is_coord
coord_says z e = leb-true (nat_abs z) max_number e

pub even_yes : (n : ℕ) → n % 2 ≡ 0 → is_even (pos n) ≡ true
unfolding is_even
even_yes n h = eq-eqb (n % 2) 0 h

pub even_says : (z : ℤ) → is_even z ≡ true → nat_abs z % 2 ≡ 0
unfolding is_even
even_says z e = eqb-true (nat_abs z % 2) 0 e

-- ---- what the two tests of a row say, field by field

pub record CommandTested (a : List ℤ) : Type 0 where
  pub kind : within 0 Kinds.m30 (field a 0) ≡ true
  pub tool : legal_tool (field_n a 0) (field a 1) ≡ true
  pub point : legal_point (field_n a 0) (field a 2) (field a 3) ≡ true
  pub size : legal_size (field_n a 0) (field a 4) ≡ true
  pub decimals : legal_decimals (field_n a 0) (field a 4) (field a 15) ≡ true

pub command_tested : (a : List ℤ) → legal_command a ≡ true → CommandTested a
unfolding legal_command
command_tested a e =
    let e0 = both (within 0 Kinds.m30 (field a 0)) _ e in
    let e1 = both (legal_tool (field_n a 0) (field a 1)) _ e0.1 in
    let e2 = both (legal_point (field_n a 0) (field a 2) (field a 3)) _ e1.1 in
    let e3 = both (legal_size (field_n a 0) (field a 4)) (legal_decimals (field_n a 0) (field a 4) (field a 15)) e2.1 in
    record { kind = e0.0; tool = e1.0; point = e2.0; size = e3.0; decimals = e3.1 }

pub record StateTested (a : List ℤ) : Type 0 where
  pub phase : within 0 over (field a 5) ≡ true
  pub unit : within 0 inch_unit (field a 6) ≡ true
  pub motion : within 0 tool_down (field a 7) ≡ true
  pub tool : within 0 max_tool (field a 8) ≡ true
  pub point : (is_coord (field a 9) && is_coord (field a 10)) ≡ true
  pub word_a : within 0 max_word (field a 11) ≡ true
  pub even_a : is_even (field a 11) ≡ true
  pub word_b : within 0 max_word (field a 12) ≡ true
  pub word_c : within 0 max_word (field a 13) ≡ true
  pub word_d : within 0 max_word (field a 14) ≡ true

pub state_tested : (a : List ℤ) → legal_state a ≡ true → StateTested a
unfolding legal_state
state_tested a e0 =
    let e1 = both (within 0 over (field a 5)) _ e0 in
    let e2 = both (within 0 inch_unit (field a 6)) _ e1.1 in
    let e3 = both (within 0 tool_down (field a 7)) _ e2.1 in
    let e4 = both (within 0 max_tool (field a 8)) _ e3.1 in
    let e5 = both (is_coord (field a 9) && is_coord (field a 10)) _ e4.1 in
    let e6 = both (within 0 max_word (field a 11) && is_even (field a 11)) _ e5.1 in
    let e7 = both (within 0 max_word (field a 12)) _ e6.1 in
    let e8 = both (within 0 max_word (field a 13)) (within 0 max_word (field a 14)) e7.1 in
    let w = both (within 0 max_word (field a 11)) (is_even (field a 11)) e6.0 in
    record {
      phase = e1.0;
      unit = e2.0;
      motion = e3.0;
      tool = e4.0;
      point = e5.0;
      word_a = w.0;
      even_a = w.1;
      word_b = e7.0;
      word_c = e8.0;
      word_d = e8.1;
    }
