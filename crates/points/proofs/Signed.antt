-- Signed numbers: the size of a square, and what the machine reads back of a number.
use Prim.Native.Nat.{ℕ, ◌*◌, ◌^◌, ◌<◌, ◌≤◌}
use mathlib.Core.Path.{◌≡◌, refl}
use native.Mathlib.Nat.{mul-le-mul}
use lib.IntN.{ℤ, pos, negsuc, nat_abs, ◌*ℤ◌}
use lib.Signed.{mag}
use mir.Syntax.{w32}
use mir.Val.{to_z, of_z}
use mir.Facts.{to_z-of_z}

-- ---- squares

pub square_abs : (z : ℤ) → nat_abs (z *ℤ z) ≡ nat_abs z * nat_abs z
square_abs (pos n) = refl
square_abs (negsuc n) = refl

pub square_bound : (n k : ℕ) → n ≤ k → n * n ≤ k * k
square_bound n k h = mul-le-mul h h

-- ---- what the machine reads back

-- what each use of an i32 tells of it
abbrev pub Signed : ℤ → Type 0
Signed z = mag z < 2 ^ 31

-- of such a number
pub read_back : (z : ℤ) → Signed z → to_z w32 (of_z w32 z) ≡ z
read_back z h = to_z-of_z {w = w32} (record { sfits = h })
