-- One law for each answer to the question for the hole.
use Rattle.report.proofs.Puts.{line_nothing, line_makes}
use Rattle.report.proofs.parts.put_line.Goals as goal

pub returns-in_default : goal.returns-in_default
returns-in_default c =
    line_nothing c.args.table.now c.args.n c.args.line c.hole.ensures c.args.text.now c.args.at cc

pub returns : goal.returns
returns c =
    line_makes c.args.table.now c.args.n c.args.line c.hole.ensures
    c.args.text.now c.args.at c.in-Ok-Some.hole (cc) _ _ c.put_hole_line-end.ensures
