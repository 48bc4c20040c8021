-- The digits before the point, then the decimals.
use Rattle.rules.specs.Writing.{radius_text}
use Rattle.text.proofs.Wrote.{wrote_more}
use Rattle.millionths.proofs.put_radius.Goals as goal

pub returns : goal.returns
unfolding radius_text
returns c = rw (← c.radius_places.ensures.0) (search wrote_more)
