-- The invariant: whoever writes the lines that are left has written all, and the holes counted and those of the lines left are all.
use native.Mathlib.Omega.{arith}
use Rattle.text.proofs.Wrote.{rest_turn, rest_end}
use Rattle.report.proofs.Turns.{lines_next, holes_next, lines_over, holes_over}
use Rattle.report.proofs.parts.put_lines.Goals as goal

pub loop-i-preserved : goal.loop-i-preserved
loop-i-preserved c =
    let l = c.loop-i in
    let p = c.put_line-line.ensures in
    let i = c.loop-i-test.true in (
      omega (arith, l.invariant.0, p.2),
      omega (arith, l.invariant.1, p.1, holes_next c.args.table.now c.args.n l.i i),
      rest_turn _ l.invariant.2 _ (lines_next c.args.table.now c.args.n l.i i) p.0,
    )

pub returns : goal.returns
returns c =
    let l = c.loop-i in (
      rest_end _ l.invariant.2 (lines_over c.args.table.now c.args.n l.i c.loop-i-test.false),
      omega (arith, l.invariant.1, holes_over c.args.table.now c.args.n l.i c.loop-i-test.false),
    )
