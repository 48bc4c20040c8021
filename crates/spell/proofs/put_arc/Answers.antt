-- Three parts one after the other.
use Rattle.rules.specs.Writing.{arc_text}
use Rattle.text.proofs.Wrote.{wrote_more}
use Rattle.spell.proofs.put_arc.Goals as goal

pub returns : goal.returns
unfolding arc_text
returns c = search wrote_more
