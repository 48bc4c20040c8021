-- What it means that a contract allows one answer. A contract's `ensures`, as it stands in the source, is a claim about the
-- arguments, the result and what is left of the parameters.
use Rattle.std.specs.Prelude.{◌≡◌, List, ℕ}
use contract.Lifetimes.{Lfts}
use borrow.Fn.Kinds.{ParamKind, ResultKind, Out, Dens, res_t, ended_of}
use denote.Triple.Clauses.{AtExit}

-- any two results that it allows are equal
abbrev pub OneAnswer : (n : ℕ) (ps : List (ParamKind n)) (r : ResultKind n) → Out n ps r → Type 0
OneAnswer n ps r Ensures =
    (κs : Lfts n) (a : Dens κs ps) (x y : (res_t r κs).Denot) (e f : AtExit (ended_of n ps r) κs) → Ensures κs a x e → Ensures κs a y f → x ≡ y

-- and so is what each leaves of the numbers or bytes lent to be changed
abbrev pub OneOutcome : (n : ℕ) (ps : List (ParamKind n)) (r : ResultKind n) → Out n ps r → {A : Type 0} → ((κs : Lfts n) → AtExit (ended_of n ps r) κs → List A) → Type 0
OneOutcome n ps r Ensures left =
    (κs : Lfts n) (a : Dens κs ps) (x y : (res_t r κs).Denot) (e f : AtExit (ended_of n ps r) κs)
    → Ensures κs a x e → Ensures κs a y f → (x ≡ y) × (left κs e ≡ left κs f)

-- a result that is a view: any two show the same bytes, at the same place
abbrev pub OneView : (n : ℕ) (ps : List (ParamKind n)) (r : ResultKind n) → Out n ps r → (bytes : (κs : Lfts n) → (res_t r κs).Denot → List ℕ) (place : (κs : Lfts n) → (res_t r κs).Denot → ℕ × ℕ) → Type 0
OneView n ps r Ensures bytes place =
    (κs : Lfts n) (a : Dens κs ps) (x y : (res_t r κs).Denot) (e f : AtExit (ended_of n ps r) κs)
    → Ensures κs a x e → Ensures κs a y f → (bytes κs x ≡ bytes κs y) × (place κs x ≡ place κs y)
