-- What is left to read, told from where we are, is what the whole file tells; the rows read stand in the block.
use Rattle.std.proofs.Common.{◌≡◌, ◌≤◌, ◌+◌, ◌-◌, ltb, length, take, drop, Ok, rules, arith}
use Rattle.std.proofs.lemmas.List.{length-drop}
use Rattle.rules.specs.Rows.{table_room}
use Rattle.rules.specs.Reading.{answer_in}
use Rattle.line.specs.Line.{line_of_bytes}
use Rattle.line.proofs.Lines.{line_within, lines_at}
use Rattle.reader.proofs.Turns.{going_start, turn_ended, turn_short, turn_refused, turn_stopped, turn_on}
use Rattle.reader.proofs.read_lines.Goals as goal

pub loop-at-init : goal.loop-at-init
loop-at-init c = search (rules, going_start)

pub slice_bounds-answer-end : goal.slice_bounds-answer-end
slice_bounds-answer-end c =
    let h = line_within c.args.file.now c.loop-at.at _ c.find_lf-end.ensures (omega arith) in
    search (rules, arith)

pub returns-in_err-command : goal.returns-in_err-command
returns-in_err-command c =
    let d = lines_at c.args.file.now c.loop-at.at _ c.find_lf-end.ensures c.loop-at-test.true in
    search (rules, turn_refused)

pub returns-in_err-state : goal.returns-in_err-state
returns-in_err-state c =
    let d = lines_at c.args.file.now c.loop-at.at _ c.find_lf-end.ensures c.loop-at-test.true in
    search (rules, turn_stopped)

pub loop-at-preserved : goal.loop-at-preserved
loop-at-preserved c =
    let l = c.loop-at in
    let s = c.args.file.now in
    let e = c.find_lf-end.result in
    let d = lines_at s l.at _ c.find_lf-end.ensures c.loop-at-test.true in
    let said : c.answer.result.command ≡ Ok c.in_ok-command.command = search rules in
    let went : c.step.result ≡ Ok c.in_ok-state.state = search rules in
    let room : table_room ≤ length l.rows = omega arith in
    let read : c.answer.result ≡ answer_in c.args.revision (l.n + 1) (line_of_bytes (take (e - l.at) (drop l.at s)) (ltb e (length s))) = search rules in
    turn_on s c.args.rows.now l.rows l.state l.n (drop l.at s) l.invariant _ (drop (e + 1) s) d read
    c.in_ok-command.command said c.step.ensures c.in_ok-state.state went room c.row.new.table c.row.ensures

pub returns-then-has_ended : goal.returns-then-has_ended
returns-then-has_ended c =
    let over : length (drop c.loop-at.at c.args.file.now) ≤ 0 = omega (arith, length-drop c.loop-at.at c.args.file.now) in
    search (rules, turn_ended)

pub returns : goal.returns
returns c =
    let over : length (drop c.loop-at.at c.args.file.now) ≤ 0 = omega (arith, length-drop c.loop-at.at c.args.file.now) in
    search (rules, turn_short)
