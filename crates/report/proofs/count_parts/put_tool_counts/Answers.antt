-- The tool, and a line of numbers behind it whose word is empty.
use Rattle.report.proofs.Puts.{count_put}
use Rattle.report.proofs.count_parts.put_tool_counts.Goals as goal

pub returns : goal.returns
returns c =
    count_put c.args.tool c.args.diameter c.args.counts.now
    (rw c.from.ensures at c.put_decimal-tool_end.ensures) (rw (c.from-2.ensures, c.from-3.ensures, c.from-4.ensures) at c.put_numbers_line.ensures)
