-- For contracts of private functions alone: parts of a row's numbers.
use Rattle.std.specs.Prelude.{Bool, ◌&&◌, List, ℕ, ◌+◌, ◌%◌, eqb, ℤ}
use Rattle.points.specs.declared.Point.{Point}
use Rattle.points.specs.declared.Arc.{Arc}
use Rattle.points.specs.Points.{place_of}
use Rattle.tools.specs.declared.Tools.{Tools}
use Rattle.tools.specs.Set.{max_word}
use Rattle.rules.specs.Numbers.{max_number, max_places, max_tool}
use Rattle.rules.specs.State.{over, inch_unit, tool_down}
use Rattle.rules.specs.Rows.{field, field_n, within, is_even, legal_size, legal_decimals}

-- the point at places j and j + 1 of a row
abbrev pub point_at : List ℤ → ℕ → Point
point_at a j = record { x = field a j; y = field a (j + 1) }

-- the arc in a row's numbers
abbrev pub arc_at : List ℤ → Arc
arc_at a = record { to = point_at a 2; radius = field_n a 4; decimals = field_n a 15 }

-- a radius with its decimals, and the last two tests of a command together
abbrev pub legal_radius : List ℤ → Bool
legal_radius a = within 1 max_number (field a 4) && (within 0 max_places (field a 15) && eqb (field_n a 4 % place_of (field_n a 15)) 0)

abbrev pub legal_sizes : ℕ → List ℤ → Bool
legal_sizes k a = legal_size k (field a 4) && legal_decimals k (field a 4) (field a 15)

-- phase, unit, motion and selected tool
abbrev pub legal_modes : List ℤ → Bool
legal_modes a = within 0 over (field a 5) && (within 0 inch_unit (field a 6) && (within 0 tool_down (field a 7) && within 0 max_tool (field a 8)))

-- the words of the declared set, and their test
abbrev pub tools_at : List ℤ → Tools
tools_at a = record { a = field_n a 11; b = field_n a 12; c = field_n a 13; d = field_n a 14 }

abbrev pub legal_words : List ℤ → Bool
legal_words a = (within 0 max_word (field a 11) && is_even (field a 11)) && (within 0 max_word (field a 12) && (within 0 max_word (field a 13) && within 0 max_word (field a 14)))
