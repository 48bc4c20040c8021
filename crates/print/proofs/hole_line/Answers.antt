-- The room is tested first; then the line has room: its fields have at most 72 bytes.
use Prim.Native.Nat.{◌≤◌}
use native.Mathlib.Omega.{arith}
use borrow.Author.Tests.{le-leb}
use lib.ListN.{length}
use Rattle.rules.specs.Printing.{decimal, hole_fields}
use Rattle.text.proofs.Decimals.{decimal_range}
use Rattle.print.specs.Fields.{tabbed}
use Rattle.print.specs.Line.{line_room}
use Rattle.print.proofs.Lines.{line_put, line_length, hole_short}
use borrow.Author.Rules.{rules}
use Rattle.print.proofs.hole_line.Goals as goal

pub returns : goal.returns
returns c =
    let short : length (tabbed (hole_fields c.args.hole)) ≤ 72 = search (rules, hole_short) in
    line_put _ (le-leb line_room _ c.if-block-lt-LINE_ROOM.false) c.put_hole_line.ensures
    (omega (arith, line_length (decimal c.args.line) (hole_fields c.args.hole), (decimal_range c.args.line).1, short))
