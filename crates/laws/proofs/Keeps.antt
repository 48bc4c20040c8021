-- A property of states that each change of a part keeps is kept by every command whose numbers are in range, since a test in
-- front of a state changes nothing; so are the ranges.
use Prim.Native.Nat.{ℕ, ◌≤◌}
use mathlib.Core.Path.{◌≡◌, ap, subst}
use native.Mathlib.Omega.{arith}
use mathlib.Core.Bool.{Bool, true, false}
use lib.Dec.{lit≤}
use Rattle.std.specs.Prelude.{Result, Ok, Err}
use Rattle.points.specs.declared.Point.{Point}
use Rattle.tools.specs.declared.Tools.{Tools}
use Rattle.rules.specs.declared.State.{State}
use Rattle.rules.specs.declared.Refusal.{Refusal}
use Rattle.rules.specs.declared.Command.{Command}
use Rattle.rules.specs.declared.Command.TheVariants.{Comment, M48, Metric, Inch, Declare, Percent, G05, G00, Select, Hit, M15, M16, G01, G02, G03, M30}
use Rattle.rules.specs.Results.{out_of}
use Rattle.rules.specs.Numbers.{max_tool}
use Rattle.tools.specs.Set.{insert}
use Rattle.runs.specs.Machine.{yields}
use Rattle.points.specs.Points.{origin}
use Rattle.rules.specs.State.{bare_header, header, body, over, metric_unit, inch_unit, drill, tool_up, tool_down, start, need, step, taken, in_phase, in_unit, in_motion, with_tool, gone_to, with_tools}
use Rattle.tools.specs.Ranges.{ToolsOk}
use Rattle.rules.specs.Ranges.{PointOk, StateOk, CommandOk}
use Rattle.tools.proofs.Set.{none_ok, insert_ok}

origin_ok : PointOk origin
origin_ok = record { x_range = lit≤ tt; y_range = lit≤ tt }

pub start_ok : StateOk start
start_ok = record { phase_range = lit≤ tt; unit_range = lit≤ tt; motion_range = lit≤ tt; tool_range = lit≤ tt; at_range = origin_ok; tools_range = none_ok }

to_state : (x : (Result State Refusal)) (q : State) → out_of x ≡ yields q → x ≡ Ok q
to_state (Ok s) q h = let e : s ≡ q = cc in ap Ok e
to_state (Err e) q h = absurd (let z : ◌≡◌ {A = ℕ} 0 1 = cc in omega arith)

-- ---- a state with one part new

module _ (s : State) (h : StateOk s) where
  in_phase_lem : (p : ℕ) → p ≤ over → StateOk (in_phase p s)
  in_phase_lem p k = record { phase_range = k; unit_range = h.unit_range; motion_range = h.motion_range; tool_range = h.tool_range; at_range = h.at_range; tools_range = h.tools_range }

  in_unit_lem : (u : ℕ) → u ≤ inch_unit → StateOk (in_unit u s)
  in_unit_lem u k = record { phase_range = h.phase_range; unit_range = k; motion_range = h.motion_range; tool_range = h.tool_range; at_range = h.at_range; tools_range = h.tools_range }

  in_motion_lem : (m : ℕ) → m ≤ tool_down → StateOk (in_motion m s)
  in_motion_lem m k = record { phase_range = h.phase_range; unit_range = h.unit_range; motion_range = k; tool_range = h.tool_range; at_range = h.at_range; tools_range = h.tools_range }

  with_tool_lem : (t : ℕ) → t ≤ max_tool → StateOk (with_tool t s)
  with_tool_lem t k = record { phase_range = h.phase_range; unit_range = h.unit_range; motion_range = h.motion_range; tool_range = k; at_range = h.at_range; tools_range = h.tools_range }

  gone_to_lem : (p : Point) → PointOk p → StateOk (gone_to p s)
  gone_to_lem p k = record { phase_range = h.phase_range; unit_range = h.unit_range; motion_range = h.motion_range; tool_range = h.tool_range; at_range = k; tools_range = h.tools_range }

  with_tools_lem : (d : Tools) → ToolsOk d → StateOk (with_tools d s)
  with_tools_lem d k = record { phase_range = h.phase_range; unit_range = h.unit_range; motion_range = h.motion_range; tool_range = h.tool_range; at_range = h.at_range; tools_range = k }

-- ---- a command

-- a property that each change of a part keeps, made with numbers in range
pub record Kept (P : State → Type 0) : Type 0 where
  pub phase : (s : State) (p : ℕ) → p ≤ over → P s → P (in_phase p s)
  pub unit : (s : State) (u : ℕ) → u ≤ inch_unit → P s → P (in_unit u s)
  pub motion : (s : State) (m : ℕ) → m ≤ tool_down → P s → P (in_motion m s)
  pub tool : (s : State) (t : ℕ) → t ≤ max_tool → P s → P (with_tool t s)
  pub place : (s : State) (p : Point) → PointOk p → P s → P (gone_to p s)
  pub declared : (s : State) (t : ℕ) → 1 ≤ t → P s → P (with_tools (insert s.tools t) s)

-- where there is a next state, it has the property
abbrev pub After : (State → Type 0) → Result State Refusal → Type 0
After P (Ok q) = P q
After P (Err e) = Unit {0}

pub after_need : (P : State → Type 0) (b : Bool) (e : Refusal) (x : Result State Refusal) → After P x → After P (need b e x)
unfolding need
after_need P true e x k = k
after_need P false e x k = tt

pub taken_after : (P : State → Type 0) (s q : State) (c : Command) → After P (step s c) → taken s c ≡ yields q → P q
taken_after P s q c h e = subst (After P) (to_state (step s c) q e) h

module _ (P : State → Type 0) (k : Kept P) where
  if_needed : (b : Bool) (e : Refusal) (x : Result State Refusal) → After P x → After P (need b e x)
  if_needed b e x h = after_need P b e x h

  pub step_keeps : (s : State) (c : Command) → P s → CommandOk c → After P (step s c)
  unfolding step
  step_keeps s Comment h l = if_needed _ _ _ h
  step_keeps s M48 h l = if_needed _ _ _ (k.phase s bare_header (lit≤ tt) h)
  step_keeps s Metric h l = if_needed _ _ _ (k.unit (in_phase header s) metric_unit (lit≤ tt) (k.phase s header (lit≤ tt) h))
  step_keeps s Inch h l = if_needed _ _ _ (k.unit (in_phase header s) inch_unit (lit≤ tt) (k.phase s header (lit≤ tt) h))
  step_keeps s (Declare t d) h l = if_needed _ _ _ (if_needed _ _ _ (k.declared s t l.0.low h))
  step_keeps s Percent h l = if_needed _ _ _ (k.phase s body (lit≤ tt) h)
  step_keeps s G05 h l = if_needed _ _ _ (if_needed _ _ _ (k.place (in_motion drill s) origin origin_ok (k.motion s drill (lit≤ tt) h)))
  step_keeps s (G00 p) h l = if_needed _ _ _ (if_needed _ _ _ (k.place (in_motion tool_up s) p l (k.motion s tool_up (lit≤ tt) h)))
  step_keeps s (Select t) h l = if_needed _ _ _ (if_needed _ _ _ (if_needed _ _ _ (k.tool s t l.high h)))
  step_keeps s (Hit p) h l = if_needed _ _ _ (if_needed _ _ _ (if_needed _ _ _ h))
  step_keeps s M15 h l = if_needed _ _ _ (if_needed _ _ _ (if_needed _ _ _ (k.motion s tool_down (lit≤ tt) h)))
  step_keeps s M16 h l = if_needed _ _ _ (if_needed _ _ _ (k.motion s tool_up (lit≤ tt) h))
  step_keeps s (G01 p) h l = if_needed _ _ _ (if_needed _ _ _ (k.place s p l h))
  step_keeps s (G02 a) h l = if_needed _ _ _ (if_needed _ _ _ (if_needed _ _ _ (k.place s a.to l.to_range h)))
  step_keeps s (G03 a) h l = if_needed _ _ _ (if_needed _ _ _ (if_needed _ _ _ (k.place s a.to l.to_range h)))
  step_keeps s M30 h l = if_needed _ _ _ (if_needed _ _ _ (k.phase s over (lit≤ tt) h))

  pub taken_keeps : (s q : State) (c : Command) → P s → CommandOk c → taken s c ≡ yields q → P q
  taken_keeps s q c h l e = taken_after P s q c (step_keeps s c h l) e

-- ---- the ranges

ranges_kept : Kept StateOk
ranges_kept = record {
  phase = λ s p n h. in_phase_lem s h p n;
  unit = λ s u n h. in_unit_lem s h u n;
  motion = λ s m n h. in_motion_lem s h m n;
  tool = λ s t n h. with_tool_lem s h t n;
  place = λ s p n h. gone_to_lem s h p n;
  declared = λ s t n h. with_tools_lem s h (insert s.tools t) (insert_ok s.tools t n h.tools_range);
}

pub taken_ok : (s q : State) (c : Command) → StateOk s → CommandOk c → taken s c ≡ yields q → StateOk q
taken_ok s q c a b h = taken_keeps StateOk ranges_kept s q c a b h

pub keeps : (s q : State) (c : Command) → StateOk s → CommandOk c → step s c ≡ Ok q → StateOk q
keeps s q c h l e = subst (After StateOk) e (step_keeps StateOk ranges_kept s c h l)
