-- The word and the arc.
use Rattle.text.proofs.Wrote.{wrote_more}
use Rattle.spell.proofs.put_arc_after.Goals as goal

pub returns : goal.returns
returns c = search wrote_more
