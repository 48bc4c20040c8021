-- The tab, and then the letter of the kind.
use Rattle.print.proofs.Tabs.{wrote_field}
use Rattle.print.proofs.fields.put_letter.Goals as goal

pub returns : goal.returns
returns c = rw c.letter.ensures (search wrote_field)
