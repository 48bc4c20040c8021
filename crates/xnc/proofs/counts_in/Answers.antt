-- The hits, and the routs behind them.
use mathlib.Core.Path.{◌∙◌}
use Rattle.xnc.proofs.Blocks.{halves}
use Rattle.xnc.proofs.counts_in.Goals as goal

pub returns : goal.returns
returns c =
    halves c.args.block.now (c.copy_from_slice.ensures.after ∙ c.split_at.ensures.front) (c.copy_from_slice-2.ensures.after ∙ c.split_at.ensures.back) c.copy_from_slice-2.ensures.len
