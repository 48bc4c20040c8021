-- Each word by itself: the tool's bit is set in the one word that is its own.
use Rattle.tools.specs.Set.{insert}
use Rattle.tools.proofs.Tools.insert.Goals as goal

pub returns : goal.returns
unfolding insert
returns c = cc
