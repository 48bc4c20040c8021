-- A list written into a list: vs from place at on, the rest as it was.
use Rattle.std.specs.Prelude.{List, ◌++◌, ℕ, ◌+◌, ◌-◌, length, take, drop}

abbrev pub put_at {ℓ} : {A : Type ℓ} → List A → ℕ → List A → List A
put_at l at vs = take at l ++ vs ++ drop (at + length vs) l

-- as much of a list as there is room for from place at on, and that much written
abbrev pub fitting {ℓ} : {A : Type ℓ} → List A → ℕ → List A → List A
fitting l at vs = take (length l - at) vs

abbrev pub put_in {ℓ} : {A : Type ℓ} → List A → ℕ → List A → List A
put_in l at vs = put_at l at (fitting l at vs)
