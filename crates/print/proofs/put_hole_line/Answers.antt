-- The line's number, the hole's fields behind their tabs and LF, one after another.
use Rattle.print.proofs.Lines.{line_wrote}
use Rattle.print.proofs.put_hole_line.Goals as goal

pub returns : goal.returns
returns c =
    line_wrote _ _ c.put_decimal-line_end.ensures
    c.put_hole-hole_end.ensures c.put_byte.ensures
