-- Two coordinates, each read back from the struct.
use Rattle.print.proofs.Tabs.{wrote_fields}
use Rattle.points.proofs.Signed.{read_back}
use Rattle.print.proofs.fields.put_point.Goals as goal

pub returns : goal.returns
returns c =
    wrote_fields _ _ (rw (read_back _ c.struct_told-1.given.0.1) at c.put_coordinate-x_end.ensures)
    (rw (read_back _ c.struct_told-2-1.given.1.0.1) at c.put_coordinate.ensures)
