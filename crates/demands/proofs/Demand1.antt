-- Demand 1. Which refusals come and at which lines is one walk (crate answers, Refused); what is left of what was lent is in LeftAlone.
use mathlib.Core.Path.{◌≡◌, refl, sym, subst}
use mathlib.Core.Bool.{Bool, true, false, cond}
use Prim.Native.Nat.{ℕ}
use native.Mathlib.Omega.{arith}
use Rattle.std.specs.Prelude.{Ok}
use Rattle.rules.proofs.Said.{refused_same}
use Rattle.rules.specs.declared.Refusal.{Refusal}
use Rattle.rules.specs.Results.{refused_at}
use Rattle.rules.specs.Refusals.{refusal_number, refusal_column, no_column, no_such_tool}
use Rattle.rules.specs.Numbers.{is_tool}
use Rattle.rules.specs.Counting.{of_tool, hits_answer, routs_answer}
use Rattle.answers.proofs.Refused.{HoleTold, DiameterTold, hole_told, diameter_of_told}
use Rattle.demands.specs.Demand1.{among, hole_refusals, diameter_refusals, count_refusals, Demand1}
use Rattle.demands.proofs.LeftAlone.{TableRefusal, at_zero, rows_named, read_rest, edit_rest, write_rest}

-- a count is asked for with a tool
count_refused : (m : ℕ) (e : Refusal) (i : ℕ) (b : Bool) → cond b (Ok m) (refused_at no_such_tool 0) ≡ refused_at e i
    → (among count_refusals (refusal_number e) ≡ true) × (i ≡ 0) × (refusal_column e ≡ no_column)
count_refused m e i true h = absurd (let z : ◌≡◌ {A = ℕ} 0 1 = cc in omega arith)
count_refused m e i false h =
    let d : no_such_tool ≡ e = (refused_same h).0 in
    let z : 0 ≡ i = (refused_same h).1 in
    (subst (λ (a : Refusal). among count_refusals (refusal_number a) ≡ true) d refl, sym z, subst (λ (a : Refusal). refusal_column a ≡ no_column) d refl)

pub demand_1 : Demand1
unfolding hits_answer routs_answer
demand_1 = record {
  read = read_rest;
  edit = edit_rest;
  write = write_rest;
  hole = λ t n k e i h. subst (HoleTold (TableRefusal hole_refusals n)) h (hole_told (TableRefusal hole_refusals n) t n (refl, at_zero n, refl) (rows_named hole_refusals n refl) k (refl, at_zero n, refl));
  diameter = λ t n tool e i h. subst (DiameterTold (TableRefusal diameter_refusals n)) h
      (diameter_of_told (TableRefusal diameter_refusals n) t n (refl, at_zero n, refl) (rows_named diameter_refusals n refl) tool (refl, at_zero n, refl) (refl, at_zero n, refl));
  hits = λ c tool e i h. count_refused (of_tool c.hits tool) e i (is_tool tool) h;
  routs = λ c tool e i h. count_refused (of_tool c.routs tool) e i (is_tool tool) h;
}
