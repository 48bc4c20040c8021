-- Document 01, "The state, line by line": what each command needs, and the state it leaves. The tests of a command stand
-- in the order of the refusals: phase, motion, tool, arc.
use Rattle.std.specs.Prelude.{ℕ, eqb, ltb, Bool, true, false, not, ◌&&◌, Result, Ok, Err}
use Rattle.runs.specs.Machine.{Out}
use Rattle.points.specs.declared.Point.{Point}
use Rattle.points.specs.declared.Arc.{Arc}
use Rattle.rules.specs.declared.Command.{Command}
use Rattle.rules.specs.declared.Command.TheVariants.{Comment, M48, Metric, Inch, Declare, Percent, G05, G00, Select, Hit, M15, M16, G01, G02, G03, M30}
use Rattle.tools.specs.declared.Tools.{Tools}
use Rattle.rules.specs.declared.State.{State}
use Rattle.rules.specs.declared.Refusal.{Refusal}
use Rattle.rules.specs.Results.{out_of}
use Rattle.rules.specs.Refusals.{wrong_phase, wrong_motion, declared_already, not_declared, no_tool_selected, impossible_arc}
use Rattle.points.specs.Points.{origin, same_point, is_possible}
use Rattle.tools.specs.Set.{no_tools, has, insert, same_tools}

-- ---- the state

-- phases: before M48, the header before its unit and after it, the body, and after M30
abbrev pub before_m48 : ℕ
before_m48 = 0

abbrev pub bare_header : ℕ
bare_header = 1

abbrev pub header : ℕ
header = 2

abbrev pub body : ℕ
body = 3

abbrev pub over : ℕ
over = 4

-- units
abbrev pub no_unit : ℕ
no_unit = 0

abbrev pub metric_unit : ℕ
metric_unit = 1

abbrev pub inch_unit : ℕ
inch_unit = 2

-- motions: none, drill, rout with the tool up, rout with the tool down
abbrev pub no_motion : ℕ
no_motion = 0

abbrev pub drill : ℕ
drill = 1

abbrev pub tool_up : ℕ
tool_up = 2

abbrev pub tool_down : ℕ
tool_down = 3

-- no tool is selected
abbrev pub no_tool : ℕ
no_tool = 0

-- it starts all zero
abbrev pub start : State
start = record { phase = before_m48; unit = no_unit; motion = no_motion; tool = no_tool; at = origin; tools = no_tools }

abbrev pub phase_is : ℕ → State → Bool
phase_is p s = eqb s.phase p

abbrev pub motion_is : ℕ → State → Bool
motion_is m s = eqb s.motion m

abbrev pub is_selected : State → Bool
is_selected s = not (eqb s.tool no_tool)

-- the state with one part new; what is not named stays
abbrev pub in_phase : ℕ → State → State
in_phase p s = record { phase = p; unit = s.unit; motion = s.motion; tool = s.tool; at = s.at; tools = s.tools }

abbrev pub in_unit : ℕ → State → State
in_unit u s = record { phase = s.phase; unit = u; motion = s.motion; tool = s.tool; at = s.at; tools = s.tools }

abbrev pub in_motion : ℕ → State → State
in_motion m s = record { phase = s.phase; unit = s.unit; motion = m; tool = s.tool; at = s.at; tools = s.tools }

abbrev pub with_tool : ℕ → State → State
with_tool t s = record { phase = s.phase; unit = s.unit; motion = s.motion; tool = t; at = s.at; tools = s.tools }

abbrev pub gone_to : Point → State → State
gone_to p s = record { phase = s.phase; unit = s.unit; motion = s.motion; tool = s.tool; at = p; tools = s.tools }

abbrev pub with_tools : Tools → State → State
with_tools d s = record { phase = s.phase; unit = s.unit; motion = s.motion; tool = s.tool; at = s.at; tools = d }

-- ---- the commands

-- the refusal e where the test fails
unfoldable pub need : Bool → Refusal → Result State Refusal → Result State Refusal
need true e x = x
need false e x = Err e

-- in every phase but the last
abbrev pub comment : State → Result State Refusal
comment s = need (ltb s.phase over) wrong_phase (Ok s)

abbrev pub m48 : State → Result State Refusal
m48 s = need (phase_is before_m48 s) wrong_phase (Ok (in_phase bare_header s))

abbrev pub unit : State → ℕ → Result State Refusal
unit s u = need (phase_is bare_header s) wrong_phase (Ok (in_unit u (in_phase header s)))

abbrev pub declare : State → ℕ → Result State Refusal
declare s t = need (phase_is header s) wrong_phase (need (not (has s.tools t)) declared_already (Ok (with_tools (insert s.tools t) s)))

abbrev pub percent : State → Result State Refusal
percent s = need (phase_is header s) wrong_phase (Ok (in_phase body s))

abbrev pub select : State → ℕ → Result State Refusal
select s t =
    need (phase_is body s) wrong_phase (need (not (motion_is tool_down s)) wrong_motion (need (has s.tools t) not_declared (Ok (with_tool t s))))

abbrev pub g05 : State → Result State Refusal
g05 s = need (phase_is body s) wrong_phase (need (not (motion_is tool_down s)) wrong_motion (Ok (gone_to origin (in_motion drill s))))

abbrev pub g00 : State → Point → Result State Refusal
g00 s p = need (phase_is body s) wrong_phase (need (not (motion_is tool_down s)) wrong_motion (Ok (gone_to p (in_motion tool_up s))))

-- the point stays
abbrev pub hit : State → Result State Refusal
hit s = need (phase_is body s) wrong_phase (need (motion_is drill s) wrong_motion (need (is_selected s) no_tool_selected (Ok s)))

-- tool down
abbrev pub m15 : State → Result State Refusal
m15 s = need (phase_is body s) wrong_phase (need (motion_is tool_up s) wrong_motion (need (is_selected s) no_tool_selected (Ok (in_motion tool_down s))))

-- tool up
abbrev pub m16 : State → Result State Refusal
m16 s = need (phase_is body s) wrong_phase (need (motion_is tool_down s) wrong_motion (Ok (in_motion tool_up s)))

abbrev pub g01 : State → Point → Result State Refusal
g01 s p = need (phase_is body s) wrong_phase (need (motion_is tool_down s) wrong_motion (Ok (gone_to p s)))

-- G02 and G03
abbrev pub arc : State → Arc → Result State Refusal
arc s a =
    need (phase_is body s) wrong_phase (need (motion_is tool_down s) wrong_motion (need (is_possible s.at a) impossible_arc (Ok (gone_to a.to s))))

abbrev pub m30 : State → Result State Refusal
m30 s = need (phase_is body s) wrong_phase (need (not (motion_is tool_down s)) wrong_motion (Ok (in_phase over s)))

unfoldable pub step : State → Command → Result State Refusal
step s Comment = comment s
step s M48 = m48 s
step s Metric = unit s metric_unit
step s Inch = unit s inch_unit
step s (Declare t d) = declare s t
step s Percent = percent s
step s G05 = g05 s
step s (G00 p) = g00 s p
step s (Select t) = select s t
step s (Hit p) = hit s
step s M15 = m15 s
step s M16 = m16 s
step s (G01 p) = g01 s p
step s (G02 a) = arc s a
step s (G03 a) = arc s a
step s M30 = m30 s

-- ---- XNC as a machine

-- one command taken
abbrev pub taken : State → Command → Out State Refusal
taken s c = out_of (step s c)

-- the run has ended
abbrev pub has_ended : State → Bool
has_ended s = phase_is over s

-- two states agree in all ten numbers
unfoldable pub same_state : State → State → Bool
same_state s t =
    eqb s.phase t.phase
    && (eqb s.unit t.unit
    && (eqb s.motion t.motion
    && (eqb s.tool t.tool
    && (same_point s.at t.at && same_tools s.tools t.tools))))
