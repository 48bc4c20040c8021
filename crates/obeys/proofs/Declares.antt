-- A declaration needs its tool undeclared, and what is declared stays so: no two rows declare the same tool. Every other command
-- leaves the tool as it was: so a tool that is declared after some rows, and was not before, has its diameter among them.
use mathlib.Core.Path.{◌≡◌, refl, sym, ap, ◌∙◌}
use mathlib.Core.Bool.{Bool, true, false, ◌||◌, false≢true}
use mathlib.Core.List.{[], ◌∷◌}
use Prim.Native.Nat.{ℕ, zero, suc, ◌≤◌}
use native.Mathlib.Omega.{arith}
use borrow.Author.Tests.{ne_eqb}
use lib.ListN.{get_or}
use Rattle.std.specs.Prelude.{Option, Some, None, Ok}
use Rattle.runs.specs.Machine.{yields, Row, commands_of, last_of, Follows, StepBy}
use Rattle.runs.proofs.Chains.{follows_head, follows_tail}
use Rattle.rules.specs.declared.Command.{Command}
use Rattle.rules.specs.declared.Command.TheVariants.{Declare}
use Rattle.rules.specs.declared.State.{State}
use Rattle.rules.specs.Numbers.{max_tool}
use Rattle.tools.specs.Set.{has}
use Rattle.rules.specs.State.{taken}
use Rattle.rules.specs.Reading.{Rows, no_row}
use Rattle.rules.specs.Asking.{declared_by, on_declared}
use Rattle.rules.specs.Obeys.{Takes, comment, m48, metric, inch, declare, percent, g05, g00, select, hit, m15, m16, g01, g02, g03, m30}
use Rattle.tools.proofs.Set.{has_insert}
use Rattle.laws.proofs.InRange.{RowsOk}
use Rattle.laws.proofs.Declared.{declared_is, declares, stays, adds}
use Rattle.laws.proofs.Diameters.{diameter_by, HasDiameter}
use Rattle.obeys.proofs.Files.{taken_takes}

module _ (u : ℕ) (low : u ≤ max_tool) where
  -- ---- one row declares a tool

  takes_new : {p q : State} {m : ℕ} → Takes p (Declare u m) q → has p.tools u ≡ false
  takes_new (declare h n) = n

  was_new : (p q : State) (c : Command) (m : ℕ) → c ≡ Declare u m → taken p c ≡ yields q → has p.tools u ≡ false
  was_new p q c m e f = takes_new (taken_takes p (Declare u m) q (rw e at f))

  -- a declared tool isn't declared again
  none_again : (rs : Rows) {p : State} {i : ℕ} → Follows (StepBy taken) p i rs → RowsOk rs → has p.tools u ≡ true
      → (j m : ℕ) → (get_or rs j no_row).command ≡ Declare u m → ⊥
  none_again [] f ok h j m e = absurd (let z : ◌≡◌ {A = ℕ} 0 1 = cc in omega arith)
  none_again (r ∷ rs) {p} f ok h zero m e = false≢true (sym (was_new p r.state r.command m e (follows_head f)) ∙ h)
  none_again (r ∷ rs) {p} f ok h (suc j) m e =
      none_again rs (follows_tail f) ok.2 (stays u low p r.state r.command ok.0 (follows_head f) h) j m e

  none_after : (r : Row Command State) (rs : Rows) {p : State} {i : ℕ} → Follows (StepBy taken) p i (r ∷ rs) → RowsOk (r ∷ rs)
      → (d : ℕ) → r.command ≡ Declare u d → (j m : ℕ) → (get_or rs j no_row).command ≡ Declare u m → ⊥
  none_after r rs {p} f ok d e = none_again rs (follows_tail f) ok.2 (adds u low p r.state r.command d e (follows_head f))

  pub one_declaration : (rs : Rows) {p : State} {i : ℕ} → Follows (StepBy taken) p i rs → RowsOk rs
      → (a b c d : ℕ) → (get_or rs a no_row).command ≡ Declare u c → (get_or rs b no_row).command ≡ Declare u d → a ≡ b
  one_declaration [] f ok a b c d g h = absurd (let z : ◌≡◌ {A = ℕ} 0 1 = cc in omega arith)
  one_declaration (r ∷ rs) f ok zero zero c d g h = refl
  one_declaration (r ∷ rs) f ok zero (suc b) c d g h = absurd (none_after r rs f ok c g b d h)
  one_declaration (r ∷ rs) f ok (suc a) zero c d g h = absurd (none_after r rs f ok d h a c g)
  one_declaration (r ∷ rs) f ok (suc a) (suc b) c d g h = ap suc (one_declaration rs (follows_tail f) ok.2 a b c d g h)

  -- and its diameter is the one found
  pub declared_diameter : (rs : Rows) {p : State} {i : ℕ} → Follows (StepBy taken) p i rs → RowsOk rs
      → (j m : ℕ) → (get_or rs j no_row).command ≡ Declare u m → diameter_by u (commands_of rs) ≡ Ok m
  unfolding commands_of diameter_by
  declared_diameter [] f ok j m e = absurd (let z : ◌≡◌ {A = ℕ} 0 1 = cc in omega arith)
  declared_diameter (r ∷ rs) f ok zero m e = rw (e, declares u m)
  declared_diameter (r ∷ rs) f ok (suc j) m e = by (declared_by u r.command) refl (declared_diameter rs (follows_tail f) ok.2 j m e)
    where
      by : (x : Option ℕ) → declared_by u r.command ≡ x → diameter_by u (commands_of rs) ≡ Ok m → on_declared x (diameter_by u (commands_of rs)) ≡ Ok m
      by None g ih = ih
      by (Some d) g ih = absurd (none_after r rs f ok d (declared_is u r.command d g) j m e)

  -- ---- a declared tool has a row

  tool_left : {p q : State} {c : Command} → Takes p c q → declared_by u c ≡ None → has q.tools u ≡ has p.tools u
  tool_left (comment h) e = refl
  tool_left (m48 h) e = refl
  tool_left (metric h) e = refl
  tool_left (inch h) e = refl
  tool_left {p} (declare {t = t} {d = d} h n) e =
      has_insert p.tools t u (omega arith)
      ∙ ap (λ (b : Bool). b || has p.tools u)
      (ne_eqb u t (λ g. let f = declares u d in absurd (let z : ◌≡◌ {A = ℕ} 0 1 = cc in omega arith)))
  tool_left (percent h) e = refl
  tool_left (g05 h) e = refl
  tool_left (g00 h) e = refl
  tool_left (select h n) e = refl
  tool_left (hit h n) e = refl
  tool_left (m15 h n) e = refl
  tool_left (m16 h) e = refl
  tool_left (g01 h) e = refl
  tool_left (g02 h w) e = refl
  tool_left (g03 h w) e = refl
  tool_left (m30 h) e = refl

  pub has_diameter : (rs : Rows) {p : State} {i : ℕ} → Follows (StepBy taken) p i rs → has p.tools u ≡ false → has (last_of p rs).tools u ≡ true
      → HasDiameter u rs
  unfolding last_of commands_of diameter_by
  has_diameter [] f n h = absurd (false≢true (sym n ∙ h))
  has_diameter (r ∷ rs) {p} f n h = by (declared_by u r.command) refl (λ z. has_diameter rs (follows_tail f) z h)
    where
      by : (x : Option ℕ) → declared_by u r.command ≡ x → (has r.state.tools u ≡ false → HasDiameter u rs)
          → (d : ℕ) × (on_declared x (diameter_by u (commands_of rs)) ≡ Ok d)
      by (Some m) e ih = (m, refl)
      by None e ih = ih (tool_left (taken_takes p r.command r.state (follows_head f)) e ∙ n)
