-- The invariant: for whatever line is put, whoever writes the tools that are left has written all.
use native.Mathlib.Omega.{arith}
use Rattle.text.specs.Wrote.{Wrote}
use Rattle.text.proofs.Wrote.{rest_turn, rest_end, wrote_nothing}
use Rattle.report.specs.Parts.{diameter_of, where_some}
use Rattle.report.proofs.Turns.{tools_next, tools_over}
use Rattle.report.proofs.parts.put_each_tool.Goals as goal
use Rattle.report.proofs.parts.put_each_tool.Goals.{in-Some, in_default}

pub loop-tool-preserved : goal.loop-tool-preserved
loop-tool-preserved g c =
    λ line puts.
    let tool = c.loop-tool.tool in
    let diameter = diameter_of c.args.table.now c.args.n c.args.declared in
    let turn : Wrote c.loop-tool.text c.loop-tool.end (where_some (line tool) (diameter tool)) c.match-diameter_of.text c.match-diameter_of.end =
    elim c.match-diameter_of.branch [
      | in-Some w ↦ rw (← c.diameter_of.ensures, w.in-Some.is, w.text-is, w.end-is) (puts _ _ _ _ _ _ w.put-end.ensures)
      | in_default w ↦ rw (← c.diameter_of.ensures, w.in_default.is, w.text-is, w.end-is) wrote_nothing
    ] in
    rest_turn _ (c.loop-tool.invariant line puts) _ (tools_next line diameter tool (omega arith) (omega arith)) turn

pub returns : goal.returns
returns g c =
    λ line puts.
    rest_end _ (c.loop-tool.invariant line puts) (tools_over line (diameter_of c.args.table.now c.args.n c.args.declared) c.loop-tool.tool (omega arith))
