-- The tab, and then the number with its sign, read back for the call.
use mir.Facts.{to_z-of_z}
use Rattle.print.proofs.Tabs.{wrote_field}
use Rattle.print.proofs.fields.put_coordinate.Goals as goal

pub returns : goal.returns
returns c =
    wrote_field c.put_byte-number.ensures (rw (to_z-of_z c.ranges.x) at c.put_signed.ensures)
