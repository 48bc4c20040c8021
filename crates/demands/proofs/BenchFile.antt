-- Document 01's cases on the definitions: each side computes to the same.
use mathlib.Core.Path.{◌≡◌, refl}
use Rattle.lists.specs.Words.{starts_with}
use Rattle.runs.specs.Machine.{run, rerun, follow, all_hold, whole_rows, last_of, nil, link}
use Rattle.rules.specs.Numbers.{is_digit, digits_of, magnitude_of, unsigned_of, signed_of, millionths, is_coordinate, coordinate_of, is_size, is_tool}
use Rattle.rules.specs.Lines.{lines_of, ends_in_cr, text_of, is_printable, allowed_bytes}
use Rattle.rules.specs.Commands.{no_semicolon, comment_form, point_form, arc_form, tool_form, form_of, column_after, in_range, meaning_of, command_of, line_of}
use Rattle.points.specs.Points.{same_number, same_point, square_of_difference, square_of_distance, square, last_unit, is_possible}
use Rattle.tools.specs.Set.{has, insert, same_tools}
use Rattle.rules.specs.State.{need, step, same_state}
use Rattle.rules.specs.Rows.{command_numbers, decimals_of, state_numbers, row_numbers, table_numbers, within, is_coord, legal_tool, legal_point, legal_size, legal_decimals, legal_command, is_even, legal_state, row_test, command_from, command_at, state_at, look_of, entries_of, sizes_fit}
use Rattle.rules.specs.Holes.{hole_of}
use Rattle.rules.specs.Reading.{answer_in, command_in, run_of, file_of, has_room, read_answer, read_leaves}
use Rattle.rules.specs.Counting.{from_tool, from_tool_all, how_many, counts_of, read_counts, way_fits, counts_fit, counts_after}
use Rattle.rules.specs.Editing.{is_line, no_line_end, before_line, edit_from, edit_rows, edit_of, old_rows, edit_counted, edit_answer, edit_leaves, edit_counts}
use Rattle.rules.specs.Asking.{declared_by, diameter_in, hole_in, hole_answer}
use Rattle.rules.specs.Writing.{last_digits, width_of, places_of, fraction_text, number_text, radius_text, coordinate_text, tool_text, point_text, arc_text, spelt, line_text, text_of_rows}
use Rattle.rules.specs.Printing.{shown, decimal, signed_decimal, printed_line, unit_line, tool_lines, hole_lines, hole_count, holes_text, printed, counts_lines, counts_printed}
use Rattle.rules.specs.Bench.{bench_written, zeros, bench_table, bench_rows, bench_counts, cases, expected, answered}
use Rattle.demands.specs.BenchFile.{BenchFile}

-- what the cases compute with
unfoldable pub computing : Unit {0}
unfolding starts_with run rerun follow last_of is_digit digits_of magnitude_of unsigned_of signed_of millionths is_coordinate coordinate_of is_size is_tool lines_of ends_in_cr text_of is_printable allowed_bytes no_semicolon comment_form point_form arc_form tool_form form_of column_after in_range meaning_of command_of line_of has insert same_number same_point square_of_difference square_of_distance square last_unit is_possible need step same_tools same_state command_numbers decimals_of state_numbers row_numbers table_numbers within is_coord legal_tool legal_point legal_size legal_decimals legal_command is_even legal_state row_test command_from command_at state_at look_of entries_of sizes_fit all_hold hole_of answer_in command_in run_of file_of has_room read_answer read_leaves is_line no_line_end before_line edit_from edit_rows edit_of edit_answer edit_leaves declared_by diameter_in hole_in hole_answer last_digits width_of places_of fraction_text number_text radius_text coordinate_text tool_text point_text arc_text spelt line_text text_of_rows shown decimal signed_decimal printed_line unit_line tool_lines hole_lines hole_count holes_text printed zeros bench_table bench_rows expected answered whole_rows from_tool from_tool_all how_many counts_of read_counts way_fits counts_fit counts_after old_rows edit_counted edit_counts bench_counts counts_lines counts_printed
computing = tt

-- its table is written as a file of as many lines, of which one differs: line 7 is T01
pub bench_written_lem : text_of_rows bench_rows ≡ bench_written
unfolding computing
bench_written_lem = refl

-- the edits a to l, as one table
pub cases_answered : answered cases ≡ expected cases
unfolding computing
cases_answered = refl

pub bench_file_lem : BenchFile
unfolding computing
bench_file_lem = record {
  accepted = refl;
  good = record {
    fits = refl;
    found = refl;
    follows = link refl refl (link refl refl (link refl refl (link refl refl (link refl refl (link refl refl (link refl refl (link refl refl
        (link refl refl (link refl refl (link refl refl (link refl refl (link refl refl (link refl refl (link refl refl nil))))))))))))));
    ends = refl;
  };
  print_out = refl;
  written = bench_written_lem;
  edits = cases_answered;
  line_12_after_f = refl;
  counts = refl;
  counts_after_f = refl;
  counts_print = refl;
  line_13_after_f = refl;
}
