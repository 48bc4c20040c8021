-- The word and the point.
use Rattle.text.proofs.Wrote.{wrote_more}
use Rattle.spell.proofs.put_point_after.Goals as goal

pub returns : goal.returns
returns c = search wrote_more
