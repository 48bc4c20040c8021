-- Any two answers allowed by a promise are equal, for each public function: its contract, cited as it stands in its source, says
-- that the answer, or its number and values, and what is left, is what a definition says; and two things equal to a third are equal.
use mathlib.Core.Path.{◌≡◌, refl, sym, ◌∙◌}
use Rattle.rules.proofs.Said.{said_one, counted_one, hole_said_one, diameter_said_one}
use Rattle.points.proofs.Point.same.Kinds as point_same_kinds
use Rattle.points.proofs.Point.same.Reads as point_same_reads
use Rattle.points.proofs.distance.Kinds as distance_kinds
use Rattle.points.proofs.distance.Reads as distance_reads
use Rattle.points.proofs.size.Kinds as size_kinds
use Rattle.points.proofs.size.Reads as size_reads
use Rattle.points.proofs.place_of.Kinds as place_of_kinds
use Rattle.points.proofs.place_of.Reads as place_of_reads
use Rattle.points.proofs.Arc.is_possible.Kinds as arc_is_possible_kinds
use Rattle.points.proofs.Arc.is_possible.Reads as arc_is_possible_reads
use Rattle.tools.proofs.Tools.has.Kinds as tools_has_kinds
use Rattle.tools.proofs.Tools.has.Reads as tools_has_reads
use Rattle.tools.proofs.Tools.insert.Kinds as tools_insert_kinds
use Rattle.tools.proofs.Tools.insert.Reads as tools_insert_reads
use Rattle.tools.proofs.Tools.same.Kinds as tools_same_kinds
use Rattle.tools.proofs.Tools.same.Reads as tools_same_reads
use Rattle.rules.proofs.forbidden_byte.Kinds as forbidden_byte_kinds
use Rattle.rules.proofs.forbidden_byte.Reads as forbidden_byte_reads
use Rattle.rules.proofs.out_of_range.Kinds as out_of_range_kinds
use Rattle.rules.proofs.out_of_range.Reads as out_of_range_reads
use Rattle.rules.proofs.Refusal.number.Kinds as refusal_number_kinds
use Rattle.rules.proofs.Refusal.number.Reads as refusal_number_reads
use Rattle.rules.proofs.Refusal.column.Kinds as refusal_column_kinds
use Rattle.rules.proofs.Refusal.column.Reads as refusal_column_reads
use Rattle.rules.proofs.Refusal.at.Kinds as refusal_at_kinds
use Rattle.rules.proofs.Refusal.at.Reads as refusal_at_reads
use Rattle.rules.proofs.Refused.numbers.Kinds as refused_numbers_kinds
use Rattle.rules.proofs.Refused.numbers.Reads as refused_numbers_reads
use Rattle.rules.proofs.State.new.Kinds as state_new_kinds
use Rattle.rules.proofs.State.new.Reads as state_new_reads
use Rattle.rules.proofs.State.step.Kinds as state_step_kinds
use Rattle.rules.proofs.State.step.Reads as state_step_reads
use Rattle.rules.proofs.State.has_ended.Kinds as state_has_ended_kinds
use Rattle.rules.proofs.State.has_ended.Reads as state_has_ended_reads
use Rattle.rules.proofs.State.same.Kinds as state_same_kinds
use Rattle.rules.proofs.State.same.Reads as state_same_reads
use Rattle.gives.proofs.hole.Kinds as gives_hole_kinds
use Rattle.gives.proofs.hole.Reads as gives_hole_reads
use Rattle.gives.proofs.diameter.Kinds as gives_diameter_kinds
use Rattle.gives.proofs.diameter.Reads as gives_diameter_reads
use Rattle.number.proofs.stands.Kinds as number_stands_kinds
use Rattle.number.proofs.stands.Reads as number_stands_reads
use Rattle.number.proofs.run_at.Kinds as number_run_at_kinds
use Rattle.number.proofs.run_at.Reads as number_run_at_reads
use Rattle.number.proofs.unsigned.Kinds as number_unsigned_kinds
use Rattle.number.proofs.unsigned.Reads as number_unsigned_reads
use Rattle.number.proofs.signed.Kinds as number_signed_kinds
use Rattle.number.proofs.signed.Reads as number_signed_reads
use Rattle.number.proofs.coordinate.Kinds as number_coordinate_kinds
use Rattle.number.proofs.coordinate.Reads as number_coordinate_reads
use Rattle.number.proofs.size.Kinds as number_size_kinds
use Rattle.number.proofs.size.Reads as number_size_reads
use Rattle.command.proofs.read.Kinds as command_read_kinds
use Rattle.command.proofs.read.Reads as command_read_reads
use Rattle.line.proofs.find_lf.Kinds as line_find_lf_kinds
use Rattle.line.proofs.find_lf.Reads as line_find_lf_reads
use Rattle.line.proofs.text_of.Kinds as line_text_of_kinds
use Rattle.line.proofs.text_of.Reads as line_text_of_reads
use Rattle.line.proofs.read.Kinds as line_read_kinds
use Rattle.line.proofs.read.Reads as line_read_reads
use Rattle.line.proofs.answer.Kinds as line_answer_kinds
use Rattle.line.proofs.answer.Reads as line_answer_reads
use Rattle.row.proofs.look.Kinds as row_look_kinds
use Rattle.row.proofs.look.Reads as row_look_reads
use Rattle.row.proofs.untested_command.Kinds as row_untested_command_kinds
use Rattle.row.proofs.untested_command.Reads as row_untested_command_reads
use Rattle.table.proofs.sizes_fit.Kinds as table_sizes_fit_kinds
use Rattle.table.proofs.sizes_fit.Reads as table_sizes_fit_reads
use Rattle.table.proofs.is_line.Kinds as table_is_line_kinds
use Rattle.table.proofs.is_line.Reads as table_is_line_reads
use Rattle.table.proofs.look.Kinds as table_look_kinds
use Rattle.table.proofs.look.Reads as table_look_reads
use Rattle.table.proofs.untested_command.Kinds as table_untested_command_kinds
use Rattle.table.proofs.untested_command.Reads as table_untested_command_reads
use Rattle.table.proofs.following.Kinds as table_following_kinds
use Rattle.table.proofs.following.Reads as table_following_reads
use Rattle.table.proofs.state_before.Kinds as table_state_before_kinds
use Rattle.table.proofs.state_before.Reads as table_state_before_reads
use Rattle.put.proofs.copy.Kinds as put_copy_kinds
use Rattle.put.proofs.copy.Reads as put_copy_reads
use Rattle.put.proofs.row.Kinds as put_row_kinds
use Rattle.put.proofs.row.Reads as put_row_reads
use Rattle.tally.proofs.none.Kinds as tally_none_kinds
use Rattle.tally.proofs.none.Reads as tally_none_reads
use Rattle.tally.proofs.with_rows.Kinds as tally_with_rows_kinds
use Rattle.tally.proofs.with_rows.Reads as tally_with_rows_reads
use Rattle.tally.proofs.without_rows.Kinds as tally_without_rows_kinds
use Rattle.tally.proofs.without_rows.Reads as tally_without_rows_reads
use Rattle.tally.proofs.hits.Kinds as tally_hits_kinds
use Rattle.tally.proofs.hits.Reads as tally_hits_reads
use Rattle.tally.proofs.routs.Kinds as tally_routs_kinds
use Rattle.tally.proofs.routs.Reads as tally_routs_reads
use Rattle.text.proofs.put_byte.Kinds as text_put_byte_kinds
use Rattle.text.proofs.put_byte.Reads as text_put_byte_reads
use Rattle.text.proofs.put_word.Kinds as text_put_word_kinds
use Rattle.text.proofs.put_word.Reads as text_put_word_reads
use Rattle.text.proofs.put_digits.Kinds as text_put_digits_kinds
use Rattle.text.proofs.put_digits.Reads as text_put_digits_reads
use Rattle.text.proofs.put_decimal.Kinds as text_put_decimal_kinds
use Rattle.text.proofs.put_decimal.Reads as text_put_decimal_reads
use Rattle.text.proofs.put_signed.Kinds as text_put_signed_kinds
use Rattle.text.proofs.put_signed.Reads as text_put_signed_reads
use Rattle.millionths.proofs.put_number.Kinds as millionths_put_number_kinds
use Rattle.millionths.proofs.put_number.Reads as millionths_put_number_reads
use Rattle.millionths.proofs.put_radius.Kinds as millionths_put_radius_kinds
use Rattle.millionths.proofs.put_radius.Reads as millionths_put_radius_reads
use Rattle.millionths.proofs.put_coordinate.Kinds as millionths_put_coordinate_kinds
use Rattle.millionths.proofs.put_coordinate.Reads as millionths_put_coordinate_reads
use Rattle.millionths.proofs.number_length.Kinds as millionths_number_length_kinds
use Rattle.millionths.proofs.number_length.Reads as millionths_number_length_reads
use Rattle.millionths.proofs.radius_length.Kinds as millionths_radius_length_kinds
use Rattle.millionths.proofs.radius_length.Reads as millionths_radius_length_reads
use Rattle.millionths.proofs.coordinate_length.Kinds as millionths_coordinate_length_kinds
use Rattle.millionths.proofs.coordinate_length.Reads as millionths_coordinate_length_reads
use Rattle.spell.proofs.line_length.Kinds as spell_line_length_kinds
use Rattle.spell.proofs.line_length.Reads as spell_line_length_reads
use Rattle.spell.proofs.put_line.Kinds as spell_put_line_kinds
use Rattle.spell.proofs.put_line.Reads as spell_put_line_reads
use Rattle.reader.proofs.read.Kinds as reader_read_kinds
use Rattle.reader.proofs.read.Reads as reader_read_reads
use Rattle.query.proofs.hole.Kinds as query_hole_kinds
use Rattle.query.proofs.hole.Reads as query_hole_reads
use Rattle.query.proofs.diameter.Kinds as query_diameter_kinds
use Rattle.query.proofs.diameter.Reads as query_diameter_reads
use Rattle.editor.proofs.meeting.Kinds as editor_meeting_kinds
use Rattle.editor.proofs.meeting.Reads as editor_meeting_reads
use Rattle.editor.proofs.edit.Kinds as editor_edit_kinds
use Rattle.editor.proofs.edit.Reads as editor_edit_reads
use Rattle.writer.proofs.write.Kinds as writer_write_kinds
use Rattle.writer.proofs.write.Reads as writer_write_reads
use Rattle.print.proofs.put_numbers_line.Kinds as print_put_numbers_line_kinds
use Rattle.print.proofs.put_numbers_line.Reads as print_put_numbers_line_reads
use Rattle.print.proofs.put_hole_line.Kinds as print_put_hole_line_kinds
use Rattle.print.proofs.put_hole_line.Reads as print_put_hole_line_reads
use Rattle.print.proofs.numbers_line.Kinds as print_numbers_line_kinds
use Rattle.print.proofs.numbers_line.Reads as print_numbers_line_reads
use Rattle.print.proofs.hole_line.Kinds as print_hole_line_kinds
use Rattle.print.proofs.hole_line.Reads as print_hole_line_reads
use Rattle.report.proofs.holes.Kinds as report_holes_kinds
use Rattle.report.proofs.holes.Reads as report_holes_reads
use Rattle.report.proofs.counts.Kinds as report_counts_kinds
use Rattle.report.proofs.counts.Reads as report_counts_reads
use Rattle.xnc.proofs.xnc_read.Kinds as xnc_read_kinds
use Rattle.xnc.proofs.xnc_read.Reads as xnc_read_reads
use Rattle.xnc.proofs.xnc_edit.Kinds as xnc_edit_kinds
use Rattle.xnc.proofs.xnc_edit.Reads as xnc_edit_reads
use Rattle.xnc.proofs.xnc_hits.Kinds as xnc_hits_kinds
use Rattle.xnc.proofs.xnc_hits.Reads as xnc_hits_reads
use Rattle.xnc.proofs.xnc_routs.Kinds as xnc_routs_kinds
use Rattle.xnc.proofs.xnc_routs.Reads as xnc_routs_reads
use Rattle.xnc.proofs.xnc_hole.Kinds as xnc_hole_kinds
use Rattle.xnc.proofs.xnc_hole.Reads as xnc_hole_reads
use Rattle.xnc.proofs.xnc_write.Kinds as xnc_write_kinds
use Rattle.xnc.proofs.xnc_write.Reads as xnc_write_reads
use Rattle.promises.specs.OneAnswer.{OneAnswer, OneOutcome, OneView}

-- ---- the ground

same : {A : Type 0} {a x y : A} → x ≡ a → y ≡ a → x ≡ y
same p q = p ∙ sym q

-- ---- crate rules

pub point_same : OneAnswer 0 point_same_kinds.ps point_same_kinds.r point_same_reads.Post
point_same κs a x y e f p q = same p q

pub distance : OneAnswer 0 distance_kinds.ps distance_kinds.r distance_reads.Post
distance κs a x y e f p q = same p.0 q.0

pub size : OneAnswer 0 size_kinds.ps size_kinds.r size_reads.Post
size κs a x y e f p q = same p q

pub place_of : OneAnswer 0 place_of_kinds.ps place_of_kinds.r place_of_reads.Post
place_of κs a x y e f p q = same p.0 q.0

pub arc_is_possible : OneAnswer 0 arc_is_possible_kinds.ps arc_is_possible_kinds.r arc_is_possible_reads.Post
arc_is_possible κs a x y e f p q = same p q

pub forbidden_byte_lem : OneAnswer 0 forbidden_byte_kinds.ps forbidden_byte_kinds.r forbidden_byte_reads.Post
forbidden_byte_lem κs a x y e f p q = same p q

pub out_of_range : OneAnswer 0 out_of_range_kinds.ps out_of_range_kinds.r out_of_range_reads.Post
out_of_range κs a x y e f p q = same p q

pub refusal_number : OneAnswer 0 refusal_number_kinds.ps refusal_number_kinds.r refusal_number_reads.Post
refusal_number κs a x y e f p q = same p q

pub refusal_column : OneAnswer 0 refusal_column_kinds.ps refusal_column_kinds.r refusal_column_reads.Post
refusal_column κs a x y e f p q = same p q

pub refusal_at : OneAnswer 0 refusal_at_kinds.ps refusal_at_kinds.r refusal_at_reads.Post
refusal_at κs a x y e f p q = same p q

pub refused_numbers : OneAnswer 0 refused_numbers_kinds.ps refused_numbers_kinds.r refused_numbers_reads.Post
refused_numbers κs a x y e f p q = same p q

pub tools_has : OneAnswer 0 tools_has_kinds.ps tools_has_kinds.r tools_has_reads.Post
tools_has κs a x y e f p q = same p q

pub tools_insert : OneAnswer 0 tools_insert_kinds.ps tools_insert_kinds.r tools_insert_reads.Post
tools_insert κs a x y e f p q = same p q

pub tools_same : OneAnswer 0 tools_same_kinds.ps tools_same_kinds.r tools_same_reads.Post
tools_same κs a x y e f p q = same p q

pub state_new : OneAnswer 0 state_new_kinds.ps state_new_kinds.r state_new_reads.Post
state_new κs a x y e f p q = same p q

pub state_step : OneAnswer 0 state_step_kinds.ps state_step_kinds.r state_step_reads.Post
state_step κs a x y e f p q = same p q

pub state_has_ended : OneAnswer 0 state_has_ended_kinds.ps state_has_ended_kinds.r state_has_ended_reads.Post
state_has_ended κs a x y e f p q = same p q

pub state_same : OneAnswer 0 state_same_kinds.ps state_same_kinds.r state_same_reads.Post
state_same κs a x y e f p q = same p q

pub gives_hole : OneAnswer 0 gives_hole_kinds.ps gives_hole_kinds.r gives_hole_reads.Post
gives_hole κs a x y e f p q = hole_said_one (same p q)

pub gives_diameter : OneAnswer 0 gives_diameter_kinds.ps gives_diameter_kinds.r gives_diameter_reads.Post
gives_diameter κs a x y e f p q = same p q

-- ---- crate number

pub number_stands : OneAnswer 1 number_stands_kinds.ps number_stands_kinds.r number_stands_reads.Post
number_stands κs a x y e f p q = same p q

pub number_run_at : OneAnswer 1 number_run_at_kinds.ps number_run_at_kinds.r number_run_at_reads.Post
number_run_at κs a x y e f p q = same p.0 q.0

pub number_unsigned : OneAnswer 1 number_unsigned_kinds.ps number_unsigned_kinds.r number_unsigned_reads.Post
number_unsigned κs a x y e f p q = same p q

pub number_signed : OneAnswer 1 number_signed_kinds.ps number_signed_kinds.r number_signed_reads.Post
number_signed κs a x y e f p q = same p q

pub number_coordinate : OneAnswer 0 number_coordinate_kinds.ps number_coordinate_kinds.r number_coordinate_reads.Post
number_coordinate κs a x y e f p q = same p q

pub number_size : OneAnswer 0 number_size_kinds.ps number_size_kinds.r number_size_reads.Post
number_size κs a x y e f p q = same p q

-- ---- crate command

pub command_read : OneAnswer 1 command_read_kinds.ps command_read_kinds.r command_read_reads.Post
command_read κs a x y e f p q = same p q

-- ---- crate line

pub line_find_lf : OneAnswer 1 line_find_lf_kinds.ps line_find_lf_kinds.r line_find_lf_reads.Post
line_find_lf κs a x y e f p q = same p q

pub line_text_of : OneView 1 line_text_of_kinds.ps line_text_of_kinds.r line_text_of_reads.Post (λ κs r. r.now) (λ κs r. r.ref_ptr)
line_text_of κs a x y e f p q = (same p.0 q.0, same p.1 q.1)

pub line_read : OneAnswer 1 line_read_kinds.ps line_read_kinds.r line_read_reads.Post
line_read κs a x y e f p q = same p q

pub line_answer : OneAnswer 1 line_answer_kinds.ps line_answer_kinds.r line_answer_reads.Post
line_answer κs a x y e f p q = same p q

-- ---- crate row

pub row_look : OneAnswer 1 row_look_kinds.ps row_look_kinds.r row_look_reads.Post
row_look κs a x y e f p q = same p q

pub row_untested_command : OneAnswer 1 row_untested_command_kinds.ps row_untested_command_kinds.r row_untested_command_reads.Post
row_untested_command κs a x y e f p q = same p q

-- ---- crate table

pub table_sizes_fit : OneAnswer 1 table_sizes_fit_kinds.ps table_sizes_fit_kinds.r table_sizes_fit_reads.Post
table_sizes_fit κs a x y e f p q = same p q

pub table_is_line : OneAnswer 0 table_is_line_kinds.ps table_is_line_kinds.r table_is_line_reads.Post
table_is_line κs a x y e f p q = same p q

pub table_look : OneAnswer 1 table_look_kinds.ps table_look_kinds.r table_look_reads.Post
table_look κs a x y e f p q = same p q

pub table_untested_command : OneAnswer 1 table_untested_command_kinds.ps table_untested_command_kinds.r table_untested_command_reads.Post
table_untested_command κs a x y e f p q = same p q

pub table_following : OneAnswer 1 table_following_kinds.ps table_following_kinds.r table_following_reads.Post
table_following κs a x y e f p q = same p q

pub table_state_before : OneAnswer 1 table_state_before_kinds.ps table_state_before_kinds.r table_state_before_reads.Post
table_state_before κs a x y e f p q = same p q

-- ---- crate put, which answers nothing

pub put_copy : OneOutcome 2 put_copy_kinds.ps put_copy_kinds.r put_copy_reads.Post (λ κs e. e.0.now)
put_copy κs a x y e f p q = (refl, same p q)

pub put_row_lem : OneOutcome 1 put_row_kinds.ps put_row_kinds.r put_row_reads.Post (λ κs e. e.0.now)
put_row_lem κs a x y e f p q = (refl, same p q)

-- ---- crate tally

pub tally_none : OneAnswer 0 tally_none_kinds.ps tally_none_kinds.r tally_none_reads.Post
tally_none κs a x y e f p q = same p q

pub tally_with_rows : OneAnswer 1 tally_with_rows_kinds.ps tally_with_rows_kinds.r tally_with_rows_reads.Post
tally_with_rows κs a x y e f p q = same p q

pub tally_without_rows : OneAnswer 1 tally_without_rows_kinds.ps tally_without_rows_kinds.r tally_without_rows_reads.Post
tally_without_rows κs a x y e f p q = same p q

pub tally_hits : OneAnswer 0 tally_hits_kinds.ps tally_hits_kinds.r tally_hits_reads.Post
tally_hits κs a x y e f p q = said_one (same p q)

pub tally_routs : OneAnswer 0 tally_routs_kinds.ps tally_routs_kinds.r tally_routs_reads.Post
tally_routs κs a x y e f p q = said_one (same p q)

-- ---- crate text: the place after, and the bytes; so also of millionths and spell

pub text_put_byte : OneOutcome 1 text_put_byte_kinds.ps text_put_byte_kinds.r text_put_byte_reads.Post (λ κs e. e.0.now)
text_put_byte κs a x y e f p q = (same p.end q.end, same p.bytes q.bytes)

pub text_put_word : OneOutcome 2 text_put_word_kinds.ps text_put_word_kinds.r text_put_word_reads.Post (λ κs e. e.0.now)
text_put_word κs a x y e f p q = (same p.end q.end, same p.bytes q.bytes)

pub text_put_digits : OneOutcome 1 text_put_digits_kinds.ps text_put_digits_kinds.r text_put_digits_reads.Post (λ κs e. e.0.now)
text_put_digits κs a x y e f p q = (same p.end q.end, same p.bytes q.bytes)

pub text_put_decimal : OneOutcome 1 text_put_decimal_kinds.ps text_put_decimal_kinds.r text_put_decimal_reads.Post (λ κs e. e.0.now)
text_put_decimal κs a x y e f p q = (same p.end q.end, same p.bytes q.bytes)

pub text_put_signed : OneOutcome 1 text_put_signed_kinds.ps text_put_signed_kinds.r text_put_signed_reads.Post (λ κs e. e.0.now)
text_put_signed κs a x y e f p q = (same p.end q.end, same p.bytes q.bytes)

-- ---- crate millionths

pub millionths_put_number : OneOutcome 1 millionths_put_number_kinds.ps millionths_put_number_kinds.r millionths_put_number_reads.Post (λ κs e. e.0.now)
millionths_put_number κs a x y e f p q = (same p.end q.end, same p.bytes q.bytes)

pub millionths_put_radius : OneOutcome 1 millionths_put_radius_kinds.ps millionths_put_radius_kinds.r millionths_put_radius_reads.Post (λ κs e. e.0.now)
millionths_put_radius κs a x y e f p q = (same p.end q.end, same p.bytes q.bytes)

pub millionths_put_coordinate : OneOutcome 1 millionths_put_coordinate_kinds.ps millionths_put_coordinate_kinds.r millionths_put_coordinate_reads.Post (λ κs e. e.0.now)
millionths_put_coordinate κs a x y e f p q = (same p.end q.end, same p.bytes q.bytes)

pub millionths_number_length : OneAnswer 0 millionths_number_length_kinds.ps millionths_number_length_kinds.r millionths_number_length_reads.Post
millionths_number_length κs a x y e f p q = same p.0 q.0

pub millionths_radius_length : OneAnswer 0 millionths_radius_length_kinds.ps millionths_radius_length_kinds.r millionths_radius_length_reads.Post
millionths_radius_length κs a x y e f p q = same p.0 q.0

pub millionths_coordinate_length : OneAnswer 0 millionths_coordinate_length_kinds.ps millionths_coordinate_length_kinds.r millionths_coordinate_length_reads.Post
millionths_coordinate_length κs a x y e f p q = same p.0 q.0

-- ---- crate spell

pub spell_line_length : OneAnswer 0 spell_line_length_kinds.ps spell_line_length_kinds.r spell_line_length_reads.Post
spell_line_length κs a x y e f p q = same p.0 q.0

pub spell_put_line : OneOutcome 1 spell_put_line_kinds.ps spell_put_line_kinds.r spell_put_line_reads.Post (λ κs e. e.0.now)
spell_put_line κs a x y e f p q = (same p.end q.end, same p.bytes q.bytes)

-- ---- crate reader

pub reader_read : OneOutcome 2 reader_read_kinds.ps reader_read_kinds.r reader_read_reads.Post (λ κs e. e.1.1.0.now)
reader_read κs a x y e f p q = (counted_one (same p.answer q.answer) (same p.counts q.counts), same p.leaves q.leaves)

-- ---- crate query

pub query_hole : OneAnswer 1 query_hole_kinds.ps query_hole_kinds.r query_hole_reads.Post
query_hole κs a x y e f p q = hole_said_one (same p q)

pub query_diameter : OneAnswer 1 query_diameter_kinds.ps query_diameter_kinds.r query_diameter_reads.Post
query_diameter κs a x y e f p q = diameter_said_one (same p q)

-- ---- crate editor

pub editor_meeting : OneAnswer 2 editor_meeting_kinds.ps editor_meeting_kinds.r editor_meeting_reads.Post
editor_meeting κs a x y e f p q = said_one (same p q)

pub editor_edit : OneOutcome 2 editor_edit_kinds.ps editor_edit_kinds.r editor_edit_reads.Post (λ κs e. e.0.now)
editor_edit κs a x y e f p q = (counted_one (same p.answer q.answer) (same p.counts q.counts), same p.leaves q.leaves)

-- ---- crate writer

pub writer_write : OneOutcome 2 writer_write_kinds.ps writer_write_kinds.r writer_write_reads.Post (λ κs e. e.1.1.0.now)
writer_write κs a x y e f p q = (said_one (same p.0 q.0), same p.1 q.1)

-- ---- crate print

pub print_put_numbers_line : OneOutcome 3 print_put_numbers_line_kinds.ps print_put_numbers_line_kinds.r print_put_numbers_line_reads.Post (λ κs e. e.0.now)
print_put_numbers_line κs a x y e f p q = (same p.end q.end, same p.bytes q.bytes)

pub print_put_hole_line : OneOutcome 1 print_put_hole_line_kinds.ps print_put_hole_line_kinds.r print_put_hole_line_reads.Post (λ κs e. e.0.now)
print_put_hole_line κs a x y e f p q = (same p.end q.end, same p.bytes q.bytes)

pub print_numbers_line : OneOutcome 3 print_numbers_line_kinds.ps print_numbers_line_kinds.r print_numbers_line_reads.Post (λ κs e. e.0.now)
print_numbers_line κs a x y e f p q = (same p.count q.count, same p.bytes q.bytes)

pub print_hole_line : OneOutcome 1 print_hole_line_kinds.ps print_hole_line_kinds.r print_hole_line_reads.Post (λ κs e. e.0.now)
print_hole_line κs a x y e f p q = (same p.count q.count, same p.bytes q.bytes)

-- ---- crate report: the text, and the table

pub report_holes : OneOutcome 3 report_holes_kinds.ps report_holes_kinds.r report_holes_reads.Post (λ κs e. e.1.1.1.0.now)
report_holes κs a x y e f p q = (same p.count q.count, same p.bytes q.bytes)

pub report_holes_table : OneOutcome 3 report_holes_kinds.ps report_holes_kinds.r report_holes_reads.Post (λ κs e. e.1.1.0.now)
report_holes_table κs a x y e f p q = (same p.count q.count, same p.numbers q.numbers)

pub report_counts : OneOutcome 3 report_counts_kinds.ps report_counts_kinds.r report_counts_reads.Post (λ κs e. e.1.1.1.0.now)
report_counts κs a x y e f p q = (same p.count q.count, same p.bytes q.bytes)

pub report_counts_table : OneOutcome 3 report_counts_kinds.ps report_counts_kinds.r report_counts_reads.Post (λ κs e. e.1.1.0.now)
report_counts_table κs a x y e f p q = (same p.count q.count, same p.numbers q.numbers)

-- ---- crate xnc, the door: the table, and the counts

pub xnc_read : OneOutcome 3 xnc_read_kinds.ps xnc_read_kinds.r xnc_read_reads.Post (λ κs e. e.1.1.0.now)
xnc_read κs a x y e f p q = (same p.answer q.answer, same p.table q.table)

pub xnc_read_counts : OneOutcome 3 xnc_read_kinds.ps xnc_read_kinds.r xnc_read_reads.Post (λ κs e. e.1.1.1.0.now)
xnc_read_counts κs a x y e f p q = (same p.answer q.answer, same p.counts q.counts)

pub xnc_edit : OneOutcome 3 xnc_edit_kinds.ps xnc_edit_kinds.r xnc_edit_reads.Post (λ κs e. e.0.now)
xnc_edit κs a x y e f p q = (same p.answer q.answer, same p.table q.table)

pub xnc_edit_counts : OneOutcome 3 xnc_edit_kinds.ps xnc_edit_kinds.r xnc_edit_reads.Post (λ κs e. e.1.1.1.1.1.0.now)
xnc_edit_counts κs a x y e f p q = (same p.answer q.answer, same p.counts q.counts)

pub xnc_hits : OneAnswer 1 xnc_hits_kinds.ps xnc_hits_kinds.r xnc_hits_reads.Post
xnc_hits κs a x y e f p q = same p q

pub xnc_routs : OneAnswer 1 xnc_routs_kinds.ps xnc_routs_kinds.r xnc_routs_reads.Post
xnc_routs κs a x y e f p q = same p q

pub xnc_hole : OneOutcome 2 xnc_hole_kinds.ps xnc_hole_kinds.r xnc_hole_reads.Post (λ κs e. e.1.1.1.0.now)
xnc_hole κs a x y e f p q = (same p.0 q.0, same p.1 q.1)

pub xnc_write : OneOutcome 2 xnc_write_kinds.ps xnc_write_kinds.r xnc_write_reads.Post (λ κs e. e.1.1.0.now)
xnc_write κs a x y e f p q = (same p.0 q.0, same p.1 q.1)
