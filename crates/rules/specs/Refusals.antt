-- Document 01, "The answers": the refusals by name, in the order in which they are tested, and their numbers. By document 02's #106
-- refusals 4 and 7 name a column, counted from 1, and all others column 0.
use Rattle.std.specs.Prelude.{ℕ}
use Rattle.rules.specs.declared.Refusal.{Refusal}
use Rattle.rules.specs.declared.Refusal.TheVariants as R

abbrev pub no_column : ℕ
no_column = 0

abbrev pub file_too_long : Refusal
file_too_long = R.FileTooLong

abbrev pub too_many_lines : Refusal
too_many_lines = R.TooManyLines

abbrev pub line_not_ended : Refusal
line_not_ended = R.LineNotEnded

abbrev pub line_too_long : Refusal
line_too_long = R.LineTooLong

-- in the column of the first forbidden byte
abbrev pub forbidden_byte : ℕ → Refusal
forbidden_byte c = R.ForbiddenByte c

abbrev pub no_such_form : Refusal
no_such_form = R.NoSuchForm

-- in the column of the first byte of the leftmost number that is out of range
abbrev pub out_of_range : ℕ → Refusal
out_of_range c = R.OutOfRange c

abbrev pub wrong_phase : Refusal
wrong_phase = R.WrongPhase

abbrev pub wrong_motion : Refusal
wrong_motion = R.WrongMotion

abbrev pub declared_already : Refusal
declared_already = R.DeclaredAlready

abbrev pub not_declared : Refusal
not_declared = R.NotDeclared

abbrev pub no_tool_selected : Refusal
no_tool_selected = R.NoToolSelected

abbrev pub impossible_arc : Refusal
impossible_arc = R.ImpossibleArc

abbrev pub ends_too_soon : Refusal
ends_too_soon = R.EndsTooSoon

abbrev pub no_room : Refusal
no_room = R.NoRoom

abbrev pub no_such_line : Refusal
no_such_line = R.NoSuchLine

abbrev pub holds_line_end : Refusal
holds_line_end = R.HoldsLineEnd

abbrev pub bad_table : Refusal
bad_table = R.BadTable

-- 7 for a question's tool, which is in no text
abbrev pub no_such_tool : Refusal
no_such_tool = out_of_range no_column

abbrev pub refusal_number : Refusal → ℕ
refusal_number R.FileTooLong = 1
refusal_number R.TooManyLines = 2
refusal_number R.LineNotEnded = 3
refusal_number R.LineTooLong = 6
refusal_number (R.ForbiddenByte c) = 4
refusal_number R.NoSuchForm = 5
refusal_number (R.OutOfRange c) = 7
refusal_number R.WrongPhase = 8
refusal_number R.WrongMotion = 12
refusal_number R.DeclaredAlready = 9
refusal_number R.NotDeclared = 10
refusal_number R.NoToolSelected = 11
refusal_number R.ImpossibleArc = 13
refusal_number R.EndsTooSoon = 14
refusal_number R.NoRoom = 15
refusal_number R.NoSuchLine = 16
refusal_number R.HoldsLineEnd = 17
refusal_number R.BadTable = 18

abbrev pub refusal_column : Refusal → ℕ
refusal_column R.FileTooLong = no_column
refusal_column R.TooManyLines = no_column
refusal_column R.LineNotEnded = no_column
refusal_column R.LineTooLong = no_column
refusal_column (R.ForbiddenByte c) = c
refusal_column R.NoSuchForm = no_column
refusal_column (R.OutOfRange c) = c
refusal_column R.WrongPhase = no_column
refusal_column R.WrongMotion = no_column
refusal_column R.DeclaredAlready = no_column
refusal_column R.NotDeclared = no_column
refusal_column R.NoToolSelected = no_column
refusal_column R.ImpossibleArc = no_column
refusal_column R.EndsTooSoon = no_column
refusal_column R.NoRoom = no_column
refusal_column R.NoSuchLine = no_column
refusal_column R.HoldsLineEnd = no_column
refusal_column R.BadTable = no_column
