-- Two letters and the two coordinates, each read back from the struct.
use mathlib.Core.Path.{ap}
use native.Mathlib.Omega.{arith}
use lib.ListN.{length}
use Rattle.rules.specs.Writing.{coordinate_text}
use Rattle.points.proofs.Signed.{read_back}
use Rattle.spell.proofs.Lengths.{point_length}
use Rattle.spell.proofs.point_length.Goals as goal

pub returns : goal.returns
returns c =
    let p = c.args.p in
    let x = ap coordinate_text (read_back p.x c.struct_told-1.given.0.1) in
    let y = ap coordinate_text (read_back p.y c.struct_told-2-1.given.1.0.1) in
    omega (arith, point_length p, ap length x, ap length y)
