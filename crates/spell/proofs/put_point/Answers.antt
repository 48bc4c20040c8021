-- Two letters, each with its coordinate, read back from the struct.
use Rattle.rules.specs.Writing.{point_text}
use Rattle.points.proofs.Signed.{read_back}
use Rattle.text.proofs.Wrote.{wrote_more}
use Rattle.spell.proofs.put_point.Goals as goal

pub returns : goal.returns
unfolding point_text
returns c =
    wrote_more c.put_byte-x.ensures
    (wrote_more (rw (read_back _ c.struct_told-1.given.0.1) at c.put_coordinate-x_end.ensures) (wrote_more c.put_byte-y.ensures
    (rw (read_back _ c.struct_told-2-1.given.1.0.1) at c.put_coordinate.ensures)))
