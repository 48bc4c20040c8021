-- The tab, and then the digits.
use Rattle.print.proofs.Tabs.{wrote_field}
use Rattle.print.proofs.fields.put_number.Goals as goal

pub returns : goal.returns
returns c = search wrote_field
