-- A file obeys XNC where a reading of it exists: its bytes spell commands, each may come in the state before it, and the
-- last state has ended. No reader is in it.
use Rattle.std.specs.Prelude.{true, false, ◌≡◌, List, ℕ, ◌+◌, ◌*◌, ◌<◌, ◌≤◌, length}
use Rattle.runs.specs.Machine.{commands_of, last_of, Follows}
use Rattle.points.specs.declared.Point.{Point}
use Rattle.points.specs.declared.Arc.{Arc}
use Rattle.rules.specs.declared.Command.{Command}
use Rattle.rules.specs.declared.Command.TheVariants.{Comment, M48, Metric, Inch, Declare, Percent, G05, G00, Select, Hit, M15, M16, G01, G02, G03, M30}
use Rattle.rules.specs.declared.State.{State}
use Rattle.rules.specs.declared.Revision.{Revision}
use Rattle.rules.specs.Numbers.{max_file, max_lines}
use Rattle.tools.specs.Set.{has, insert}
use Rattle.points.specs.Points.{origin, square_of_distance, square, last_unit}
use Rattle.rules.specs.State.{before_m48, bare_header, header, body, over, metric_unit, inch_unit, drill, tool_up, tool_down, no_tool, start, in_phase, in_unit, in_motion, with_tool, gone_to, with_tools}
use Rattle.rules.specs.Reading.{Rows}
use Rattle.rules.specs.Spelling.{SpellsFile}

-- in the body, with the tool not down
pub record Free (s : State) : Type 0 where
  pub in_body : s.phase ≡ body
  pub not_down : s.motion ≡ tool_down → ⊥

-- in the body, in a given motion
pub record Moving (m : ℕ) (s : State) : Type 0 where
  pub in_body : s.phase ≡ body
  pub motion : s.motion ≡ m

-- document 02, #104: an arc's ends differ, and the square of their distance is at most that of 2 r + u, u being one unit of the radius's
-- last written place
pub record Possible (s : Point) (a : Arc) : Type 0 where
  pub apart : s ≡ a.to → ⊥
  pub near : square_of_distance s a.to ≤ square (2 * a.radius + last_unit a.decimals)

-- a command may come in a state, and leaves one
pub data Takes : State → Command → State → Type 0 where
  comment : {s : State} → s.phase < over → Takes s Comment s
  m48 : {s : State} → s.phase ≡ before_m48 → Takes s M48 (in_phase bare_header s)
  metric : {s : State} → s.phase ≡ bare_header → Takes s Metric (in_unit metric_unit (in_phase header s))
  inch : {s : State} → s.phase ≡ bare_header → Takes s Inch (in_unit inch_unit (in_phase header s))
  declare : {s : State} {t d : ℕ} → s.phase ≡ header → has s.tools t ≡ false → Takes s (Declare t d) (with_tools (insert s.tools t) s)
  percent : {s : State} → s.phase ≡ header → Takes s Percent (in_phase body s)
  g05 : {s : State} → Free s → Takes s G05 (gone_to origin (in_motion drill s))
  g00 : {s : State} {p : Point} → Free s → Takes s (G00 p) (gone_to p (in_motion tool_up s))
  select : {s : State} {t : ℕ} → Free s → has s.tools t ≡ true → Takes s (Select t) (with_tool t s)
  hit : {s : State} {p : Point} → Moving drill s → (s.tool ≡ no_tool → ⊥) → Takes s (Hit p) s
  m15 : {s : State} → Moving tool_up s → (s.tool ≡ no_tool → ⊥) → Takes s M15 (in_motion tool_down s)
  m16 : {s : State} → Moving tool_down s → Takes s M16 (in_motion tool_up s)
  g01 : {s : State} {p : Point} → Moving tool_down s → Takes s (G01 p) (gone_to p s)
  g02 : {s : State} {a : Arc} → Moving tool_down s → Possible s.at a → Takes s (G02 a) (gone_to a.to s)
  g03 : {s : State} {a : Arc} → Moving tool_down s → Possible s.at a → Takes s (G03 a) (gone_to a.to s)
  m30 : {s : State} → Free s → Takes s M30 (in_phase over s)

-- a reading of a file, and the rows of its table: the bytes spell the rows' commands, and each state follows
pub record ReadingOf (rev : Revision) (bs : List ℕ) (rs : Rows) : Type 0 where
  pub file_size : length bs ≤ max_file
  pub line_count : length rs ≤ max_lines
  pub spelling : SpellsFile rev bs (commands_of rs)
  pub follows : Follows Takes start 0 rs
  pub ends : (last_of start rs).phase ≡ over

-- a file obeys XNC by a revision: 2021.11 as document 01 condenses it, 2019 with document 02's #102
pub record Obeys (rev : Revision) (bs : List ℕ) : Type 0 where
  pub rows : Rows
  pub reading : ReadingOf rev bs rows
