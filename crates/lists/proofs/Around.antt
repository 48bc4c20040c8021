-- What holds at the element after any others holds at each place of a list.
use mathlib.Core.Path.{◌≡◌, sym, subst₂}
use mathlib.Core.List.{List, [], ◌∷◌, ◌++◌}
use Prim.Native.Nat.{ℕ, suc, ◌+◌, ◌-◌, ◌≤◌}
use native.Mathlib.Omega.{arith}
use lib.ListN.{length, get_or, take, drop}
use lib.Seq.{split_at, length-take-le}

-- places count from 1
pub around_line : {A : Type 0} (P : List A → ℕ → Type 0) (l : List A) (k : ℕ) → 1 ≤ k → k ≤ length l
    → ((os : List A) (r : A) (ys : List A) → k ≡ length os + 1 → P (os ++ (r ∷ ys)) (length os)) → P l (k - 1)
around_line P [] k a b f = absurd (omega arith)
around_line P (x ∷ xs) k a b f =
    let n : length (take (k - 1) (x ∷ xs)) ≡ k - 1 = length-take-le (k - 1) (x ∷ xs) (omega arith) in
    subst₂ P (sym (split_at (x ∷ xs) (k - 1) x (omega arith))) n
    (f (take (k - 1) (x ∷ xs)) (get_or (x ∷ xs) (k - 1) x) (drop (suc (k - 1)) (x ∷ xs)) (omega arith))
