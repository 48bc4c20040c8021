-- A row in range is written as its own numbers: none of them is capped.
use mathlib.Core.Path.{◌≡◌, refl, ap, ap₂}
use Prim.Native.Nat.{ℕ, ◌<◌, ◌≤◌}
use native.Mathlib.Omega.{arith}
use borrow.Author.Tests.{le-leb, lt-leb}
use Rattle.points.specs.declared.Arc.{Arc}
use Rattle.rules.specs.declared.Command.{Command}
use Rattle.rules.specs.declared.Command.TheVariants.{Comment, M48, Metric, Inch, Declare, Percent, G05, G00, Select, Hit, M15, M16, G01, G02, G03, M30}
use Rattle.rules.specs.declared.State.{State}
use Rattle.rules.specs.Rows.{row_numbers}
use Rattle.rules.specs.Ranges.{StateOk, ArcOk, CommandOk}
use Rattle.put.specs.PutRow.{max_signed, capped, capped_arc, capped_command, capped_state, capped_numbers}

pub capped_small : (n : ℕ) → n ≤ max_signed → capped n ≡ n
unfolding capped
capped_small n h = rw (le-leb n max_signed h)

pub capped_large : (n : ℕ) → max_signed < n → capped n ≡ max_signed
unfolding capped
capped_large n h = rw (lt-leb n max_signed h)

capped_arc_lem : (a : Arc) → ArcOk a → capped_arc a ≡ a
capped_arc_lem a h = λ i. record { to = a.to; radius = capped_small a.radius (omega arith) i; decimals = capped_small a.decimals (omega arith) i }

pub capped_command_lem : (c : Command) → CommandOk c → capped_command c ≡ c
unfolding capped_command
capped_command_lem Comment h = refl
capped_command_lem M48 h = refl
capped_command_lem Metric h = refl
capped_command_lem Inch h = refl
capped_command_lem (Declare t d) h = ap₂ Declare (capped_small t (omega arith)) (capped_small d (omega arith))
capped_command_lem Percent h = refl
capped_command_lem G05 h = refl
capped_command_lem (G00 p) h = refl
capped_command_lem (Select t) h = ap Select (capped_small t (omega arith))
capped_command_lem (Hit p) h = refl
capped_command_lem M15 h = refl
capped_command_lem M16 h = refl
capped_command_lem (G01 p) h = refl
capped_command_lem (G02 a) h = ap G02 (capped_arc_lem a h)
capped_command_lem (G03 a) h = ap G03 (capped_arc_lem a h)
capped_command_lem M30 h = refl

pub capped_state_lem : (s : State) → StateOk s → capped_state s ≡ s
unfolding capped_state
capped_state_lem s h =
    let d = s.tools in
    λ i. record {
      phase = capped_small s.phase (omega arith) i;
      unit = capped_small s.unit (omega arith) i;
      motion = capped_small s.motion (omega arith) i;
      tool = capped_small s.tool (omega arith) i;
      at = s.at;
      tools = record {
        a = capped_small d.a (omega arith) i;
        b = capped_small d.b (omega arith) i;
        c = capped_small d.c (omega arith) i;
        d = capped_small d.d (omega arith) i;
      };
    }

pub capped_row : (c : Command) (s : State) → CommandOk c → StateOk s → capped_numbers c s ≡ row_numbers (record { command = c; state = s })
unfolding capped_numbers
capped_row c s h k = rw (capped_command_lem c h, capped_state_lem s k)
