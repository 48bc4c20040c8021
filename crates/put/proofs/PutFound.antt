-- A row that is put is found again as it was, or not at all: numbers that a table can't hold are capped, and a capped number
-- is out of every range.
use mathlib.Core.Path.{◌≡◌, refl, sym, ap, ap₂, ◌∙◌, subst}
use mathlib.Core.Bool.{Bool, true, false}
use mathlib.Core.List.{List}
use Prim.Native.Nat.{ℕ, ◌+◌, ◌*◌, ◌<◌, ◌≤◌}
use native.Mathlib.Omega.{arith}
use borrow.Author.Tests.{leb-true, leb-false}
use lib.Dec.{leb}
use lib.IntN.{ℤ}
use lib.ListN.{length, take, drop}
use Rattle.rules.specs.Results.{row_found}
use Rattle.lists.specs.Put.{put_at}
use Rattle.lists.proofs.Put.{put_at_lem}
use Rattle.runs.specs.Machine.{Row}
use Rattle.points.specs.declared.Arc.{Arc}
use Rattle.rules.specs.declared.Command.{Command}
use Rattle.rules.specs.declared.Command.TheVariants.{Comment, M48, Metric, Inch, Declare, Percent, G05, G00, Select, Hit, M15, M16, G01, G02, G03, M30}
use Rattle.rules.specs.declared.State.{State}
use Rattle.rules.specs.Numbers.{max_number, max_tool, max_places}
use Rattle.rules.specs.State.{over, inch_unit, tool_down}
use Rattle.tools.specs.Set.{max_word}
use Rattle.rules.specs.Rows.{row_width, row_numbers, command_at, state_at, look_of}
use Rattle.rules.specs.Ranges.{StateOk, ArcOk, CommandOk}
use Rattle.laws.proofs.Rows.{row_length, command_back, state_back, look_holds}
use Rattle.put.specs.PutRow.{max_signed, capped, capped_arc, capped_command, capped_state, capped_numbers, put_row}
use Rattle.put.proofs.Capped.{capped_small, capped_large}
use Rattle.put.proofs.Puts.{put_inside}

-- ---- rows with the same numbers are the same

module _ (a b : Row Command State) (h : row_numbers a ≡ row_numbers b) where
  same_command : a.command ≡ b.command
  same_command = sym (command_back a.command a.state) ∙ ap command_at h ∙ command_back b.command b.state

  same_state_lem : a.state ≡ b.state
  same_state_lem = sym (state_back a.command a.state) ∙ ap state_at h ∙ state_back b.command b.state

-- ---- what is in range was not capped

uncapped : (n hi : ℕ) → hi < max_signed → capped n ≤ hi → capped n ≡ n
uncapped n hi k h = by (leb n max_signed) refl
  where
    by : (t : Bool) → leb n max_signed ≡ t → capped n ≡ n
    by true e = capped_small n (leb-true n max_signed e)
    by false e = absurd (omega (arith, capped_large n (leb-false n max_signed e)))

uncapped_arc : (a : Arc) → ArcOk (capped_arc a) → capped_arc a ≡ a
uncapped_arc a h =
    λ i. record {
      to = a.to;
      radius = uncapped a.radius max_number (omega arith) h.radius_range.high i;
      decimals = uncapped a.decimals max_places (omega arith) h.decimals_range i;
    }

uncapped_command : (c : Command) → CommandOk (capped_command c) → capped_command c ≡ c
unfolding capped_command
uncapped_command Comment h = refl
uncapped_command M48 h = refl
uncapped_command Metric h = refl
uncapped_command Inch h = refl
uncapped_command (Declare t d) h = ap₂ Declare (uncapped t max_tool (omega arith) h.0.high) (uncapped d max_number (omega arith) h.1.high)
uncapped_command Percent h = refl
uncapped_command G05 h = refl
uncapped_command (G00 p) h = refl
uncapped_command (Select t) h = ap Select (uncapped t max_tool (omega arith) h.high)
uncapped_command (Hit p) h = refl
uncapped_command M15 h = refl
uncapped_command M16 h = refl
uncapped_command (G01 p) h = refl
uncapped_command (G02 a) h = ap G02 (uncapped_arc a h)
uncapped_command (G03 a) h = ap G03 (uncapped_arc a h)
uncapped_command M30 h = refl

uncapped_state : (s : State) → StateOk (capped_state s) → capped_state s ≡ s
unfolding capped_state
uncapped_state s h =
    let w = h.tools_range in
    λ i. record {
      phase = uncapped s.phase over (omega arith) h.phase_range i;
      unit = uncapped s.unit inch_unit (omega arith) h.unit_range i;
      motion = uncapped s.motion tool_down (omega arith) h.motion_range i;
      tool = uncapped s.tool max_tool (omega arith) h.tool_range i;
      at = s.at;
      tools = record {
        a = uncapped s.tools.a max_word (omega arith) w.a_range i;
        b = uncapped s.tools.b max_word (omega arith) w.b_range i;
        c = uncapped s.tools.c max_word (omega arith) w.c_range i;
        d = uncapped s.tools.d max_word (omega arith) w.d_range i;
      };
    }

pub put_found : (t : List ℤ) (i : ℕ) (c d : Command) (s q : State) → row_width * i + row_width ≤ length t
    → look_of (take row_width (drop (row_width * i) (put_row t i c s))) ≡ row_found d q → (d ≡ c) × (q ≡ s)
unfolding capped_numbers
put_found t i c d s q h e =
    let n : length (capped_numbers c s) ≡ row_width = row_length (record { command = capped_command c; state = capped_state s }) in
    let put : take row_width (drop (row_width * i) (put_row t i c s)) ≡ capped_numbers c s
    = ap (λ (z : List ℤ). take row_width (drop (row_width * i) z)) (put_inside t i c s h)
    ∙ ap (λ (k : ℕ). take k (drop (row_width * i) (put_at t (row_width * i) (capped_numbers c s)))) (sym n) ∙ put_at_lem t (row_width * i) (capped_numbers c s) (omega arith) in
    let f = look_holds (capped_numbers c s) d q n (ap look_of (sym put) ∙ e) in
    let same : row_numbers (record { command = capped_command c; state = capped_state s }) ≡ row_numbers (record { command = d; state = q }) = f.numbers in
    let g : capped_command c ≡ d = same_command _ _ same in
    let k : capped_state s ≡ q = same_state_lem _ _ same in
    (sym g ∙ uncapped_command c (subst CommandOk (sym g) f.command_ok), sym k ∙ uncapped_state s (subst StateOk (sym k) f.state_ok))
