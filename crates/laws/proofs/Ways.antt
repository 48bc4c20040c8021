-- What holds of every way out of a choice holds of the way taken.
use mathlib.Core.Path.{◌≡◌, refl}
use Prim.Native.Nat.{ℕ}
use Rattle.std.specs.Prelude.{Option, Some, None, Ok}
use Rattle.runs.specs.Machine.{Entry, holds, bad, Row}
use Rattle.points.specs.declared.Point.{Point}
use Rattle.points.specs.declared.Arc.{Arc}
use Rattle.rules.specs.declared.Command.{Command}
use Rattle.rules.specs.declared.Command.TheVariants.{Comment, M48, Metric, Inch, Declare, Percent, G05, G00, Select, Hit, M15, M16, G01, G02, G03, M30}
use Rattle.rules.specs.declared.State.{State}
use Rattle.rules.specs.declared.Hole.{Hole}
use Rattle.rules.specs.Results.{DiameterAnswer, HoleAnswer}
use Rattle.rules.specs.Holes.{made_by, hole_of}
use Rattle.rules.specs.Editing.{on_before}
use Rattle.rules.specs.Asking.{on_row, on_declared}

pub before_all : {A : Type 0} (P : A → Type 0) (b : (Option State)) {z : A} {f : State → A} → P z → ((p : State) → P (f p)) → P (on_before b z f)
before_all P (Some p) n m = m p
before_all P None n m = n

pub row_all : {A : Type 0} (P : A → Type 0) (e : Entry Command State) {z : A} {f : Row Command State → A} → P z → ((r : Row Command State) → P (f r)) → P (on_row e z f)
row_all P (holds r) n m = m r
row_all P bad n m = n

pub declared_all : (P : DiameterAnswer → Type 0) (d : (Option ℕ)) {z : DiameterAnswer} → P z → ((n : ℕ) → P (Ok n)) → P (on_declared d z)
declared_all P (Some n) h m = m n
declared_all P None h m = h

-- a command makes one hole, by its kind, or none
module _ (P : HoleAnswer → Type 0) (from : Point) (s : State) where
  pub hole_cases : (c : Command) → P (Ok None)
      → ((p : Point) → c ≡ Hit p → P (made_by (Hit p) s p p 0)) → ((p : Point) → c ≡ G01 p → P (made_by (G01 p) s from p 0))
      → ((a : Arc) → c ≡ G02 a → P (made_by (G02 a) s from a.to a.radius)) → ((a : Arc) → c ≡ G03 a → P (made_by (G03 a) s from a.to a.radius))
      → P (hole_of from c s)
  unfolding hole_of
  hole_cases Comment none hits lines turns backs = none
  hole_cases M48 none hits lines turns backs = none
  hole_cases Metric none hits lines turns backs = none
  hole_cases Inch none hits lines turns backs = none
  hole_cases (Declare t d) none hits lines turns backs = none
  hole_cases Percent none hits lines turns backs = none
  hole_cases G05 none hits lines turns backs = none
  hole_cases (G00 p) none hits lines turns backs = none
  hole_cases (Select t) none hits lines turns backs = none
  hole_cases (Hit p) none hits lines turns backs = hits p refl
  hole_cases M15 none hits lines turns backs = none
  hole_cases M16 none hits lines turns backs = none
  hole_cases (G01 p) none hits lines turns backs = lines p refl
  hole_cases (G02 a) none hits lines turns backs = turns a refl
  hole_cases (G03 a) none hits lines turns backs = backs a refl
  hole_cases M30 none hits lines turns backs = none

  pub hole_all : (c : Command) → P (Ok None) → ((h : Hole) → P (Ok (Some h))) → P (hole_of from c s)
  hole_all c none makes = hole_cases c none (λ p _. makes _) (λ p _. makes _) (λ a _. makes _) (λ a _. makes _)
