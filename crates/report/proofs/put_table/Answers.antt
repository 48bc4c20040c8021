-- Four parts one after the other.
use Rattle.report.proofs.Puts.{table_put}
use Rattle.report.proofs.put_table.Goals as goal

pub returns : goal.returns
returns c =
    table_put c.args.table.now c.args.n c.args.last
    c.put_unit-unit_end.ensures c.put_tools-tools_end.ensures c.put_lines-lines.ensures.0 c.put_lines-lines.ensures.1 c.put_numbers_line.ensures
