-- Two digits are at most 99.
use Rattle.command.proofs.Tools.{declare_small}
use Rattle.command.proofs.tool_line.Goals as goal

pub declare_line-requires : goal.declare_line-requires
declare_line-requires c =
    declare_small c.args.revision c.args.s.now c.run_at-tool.ensures.0 c.stands.ensures c.if-stands.true
    c.fewest_declared.ensures c.tool_digits.ensures c.if-not-tool_digits.false
