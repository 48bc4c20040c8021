-- Declared tools: no command takes a tool away, and a declaration adds its own. So a tool that is not declared after the last row is
-- declared in none.
use mathlib.Core.Path.{◌≡◌, refl, sym, ◌∙◌}
use mathlib.Core.Bool.{Bool, true, false, ◌||◌, false≢true, cond}
use mathlib.Core.List.{[], ◌∷◌}
use Prim.Native.Nat.{ℕ, ◌+◌, ◌≤◌}
use native.Mathlib.Omega.{arith}
use borrow.Author.Tests.{eq-eqb, eqb-true}
use lib.Dec.{eqb}
use Rattle.std.specs.Prelude.{Option, Some, None, Ok}
use Rattle.runs.specs.Machine.{yields, all_hold, last_of, Follows, StepBy}
use Rattle.runs.proofs.Chains.{follows_head, follows_tail}
use Rattle.rules.specs.declared.State.{State}
use Rattle.rules.specs.declared.Command.{Command}
use Rattle.rules.specs.declared.Command.TheVariants.{Comment, M48, Metric, Inch, Declare, Percent, G05, G00, Select, Hit, M15, M16, G01, G02, G03, M30}
use Rattle.rules.specs.Results.{refused_at}
use Rattle.rules.specs.Refusals.{not_declared}
use Rattle.rules.specs.Numbers.{max_tool}
use Rattle.tools.specs.declared.Tools.{Tools}
use Rattle.tools.specs.Set.{has, insert}
use Rattle.rules.specs.State.{step, taken, with_tools}
use Rattle.rules.specs.Ranges.{CommandOk}
use Rattle.rules.specs.Reading.{Rows}
use Rattle.rules.specs.Asking.{declared_by, on_declared, diameter_in}
use Rattle.tools.proofs.Set.{has_insert}
use Rattle.laws.proofs.Keeps.{Kept, after_need, taken_keeps, taken_after}
use Rattle.laws.proofs.InRange.{RowsOk}

-- ---- what a command declares

module _ (u : ℕ) where
  cond_is : {t d m : ℕ} (b : Bool) → eqb t u ≡ b → cond b (Some d) None ≡ Some m → Declare t d ≡ Declare u m
  cond_is {t} {d} {m} true e f = let z : d ≡ m = cc in rw (eqb-true t u e, z)
  cond_is false e f = absurd (let z : ◌≡◌ {A = ℕ} 0 1 = cc in omega arith)

  pub declared_is : (c : Command) (m : ℕ) → declared_by u c ≡ Some m → c ≡ Declare u m
  unfolding declared_by
  declared_is Comment m e = absurd (let z : ◌≡◌ {A = ℕ} 0 1 = cc in omega arith)
  declared_is M48 m e = absurd (let z : ◌≡◌ {A = ℕ} 0 1 = cc in omega arith)
  declared_is Metric m e = absurd (let z : ◌≡◌ {A = ℕ} 0 1 = cc in omega arith)
  declared_is Inch m e = absurd (let z : ◌≡◌ {A = ℕ} 0 1 = cc in omega arith)
  declared_is (Declare t d) m e = cond_is (eqb t u) refl e
  declared_is Percent m e = absurd (let z : ◌≡◌ {A = ℕ} 0 1 = cc in omega arith)
  declared_is G05 m e = absurd (let z : ◌≡◌ {A = ℕ} 0 1 = cc in omega arith)
  declared_is (G00 p) m e = absurd (let z : ◌≡◌ {A = ℕ} 0 1 = cc in omega arith)
  declared_is (Select t) m e = absurd (let z : ◌≡◌ {A = ℕ} 0 1 = cc in omega arith)
  declared_is (Hit p) m e = absurd (let z : ◌≡◌ {A = ℕ} 0 1 = cc in omega arith)
  declared_is M15 m e = absurd (let z : ◌≡◌ {A = ℕ} 0 1 = cc in omega arith)
  declared_is M16 m e = absurd (let z : ◌≡◌ {A = ℕ} 0 1 = cc in omega arith)
  declared_is (G01 p) m e = absurd (let z : ◌≡◌ {A = ℕ} 0 1 = cc in omega arith)
  declared_is (G02 a) m e = absurd (let z : ◌≡◌ {A = ℕ} 0 1 = cc in omega arith)
  declared_is (G03 a) m e = absurd (let z : ◌≡◌ {A = ℕ} 0 1 = cc in omega arith)
  declared_is M30 m e = absurd (let z : ◌≡◌ {A = ℕ} 0 1 = cc in omega arith)

  pub declares : (d : ℕ) → declared_by u (Declare u d) ≡ Some d
  unfolding declared_by
  declares d = rw (eq-eqb u u refl)

  pub declares_none : (c : Command) → ((d : ℕ) → c ≡ Declare u d → ⊥) → declared_by u c ≡ None
  declares_none c n = by (declared_by u c) refl
    where
      by : (x : Option ℕ) → declared_by u c ≡ x → x ≡ None
      by None e = refl
      by (Some m) e = absurd (n m (declared_is c m e))

-- ---- what is declared stays so

module _ (u : ℕ) (low : u ≤ max_tool) where
  Has : State → Type 0
  Has s = has s.tools u ≡ true

  or_true : (a b : Bool) → b ≡ true → (a || b) ≡ true
  or_true true b e = refl
  or_true false b e = e

  pub insert_keeps : (s : Tools) (t : ℕ) → has s u ≡ true → has (insert s t) u ≡ true
  insert_keeps s t h = has_insert s t u (omega arith) ∙ or_true (eqb u t) (has s u) h

  has_kept : Kept Has
  unfolding Has
  has_kept = record {
    phase = λ s p n h. h;
    unit = λ s p n h. h;
    motion = λ s p n h. h;
    tool = λ s p n h. h;
    place = λ s p n h. h;
    declared = λ s t n h. insert_keeps s.tools t h;
  }

  pub stays : (p q : State) (c : Command) → CommandOk c → taken p c ≡ yields q → has p.tools u ≡ true → has q.tools u ≡ true
  unfolding Has
  stays p q c k e h = taken_keeps Has has_kept p q c h k e

  -- and so to the last row
  pub declared_stays : (rs : Rows) (p : State) (i : ℕ) → Follows (StepBy taken) p i rs → RowsOk rs → has p.tools u ≡ true → has (last_of p rs).tools u ≡ true
  unfolding last_of
  declared_stays [] p i f ok h = h
  declared_stays (r ∷ rs) p i f ok h =
      declared_stays rs r.state (i + 1) (follows_tail f) ok.2 (stays p r.state r.command ok.0 (follows_head f) h)

  -- a declaration adds its tool
  pub adds : (s q : State) (c : Command) (d : ℕ) → c ≡ Declare u d → taken s c ≡ yields q → has q.tools u ≡ true
  unfolding step Has
  adds s q c d w e =
      taken_after Has s q (Declare u d)
      (after_need Has _ _ _ (after_need Has _ _ (Ok (with_tools (insert s.tools u) s)) (rw (has_insert s.tools u u (omega arith), eq-eqb u u refl))))
      (rw w at e)

  -- a tool that isn't declared after the last row is found in none
  pub undeclared : (rs : Rows) (p : State) (i : ℕ) → Follows (StepBy taken) p i rs → RowsOk rs → has (last_of p rs).tools u ≡ false
      → diameter_in u (all_hold rs) i ≡ refused_at not_declared 0
  unfolding last_of all_hold diameter_in
  undeclared [] p i f ok h = refl
  undeclared (r ∷ rs) p i f ok h = by (declared_by u r.command) refl (undeclared rs r.state (i + 1) (follows_tail f) ok.2 h)
    where
      by : (x : Option ℕ) → declared_by u r.command ≡ x → diameter_in u (all_hold rs) (i + 1) ≡ refused_at not_declared 0
          → on_declared x (diameter_in u (all_hold rs) (i + 1)) ≡ refused_at not_declared 0
      by None e ih = ih
      by (Some m) e ih =
          let here = adds p r.state r.command m (declared_is u r.command m e) (follows_head f) in
          absurd (false≢true (sym h ∙ declared_stays rs r.state (i + 1) (follows_tail f) ok.2 here))
