-- The digits before the point, then the fraction.
use Rattle.rules.specs.Writing.{number_text}
use Rattle.text.proofs.Wrote.{wrote_more}
use Rattle.millionths.proofs.put_number.Goals as goal

pub returns : goal.returns
unfolding number_text
returns c = search wrote_more
