-- The bit of the tool's word.
use Rattle.tools.specs.Set.{has}
use Rattle.tools.proofs.Tools.has.Goals as goal

pub returns : goal.returns
unfolding has
returns c = search (c.word-w.ensures, c.bit.ensures)
