use mathlib.Core.Path.{◌≡◌}
use mir.Val.{to_z, of_z}
use mir.Syntax.{w32}
use Rattle.std.proofs.Common.{rules}
use Rattle.points.proofs.Same.{same_point_eq}
use Rattle.points.proofs.Point.same.Goals as goal

-- a number read back from its bits is itself
pub returns : goal.returns
returns c =
    let a : to_z w32 (of_z w32 c.args.self.x) ≡ c.args.self.x = search rules in
    let b : to_z w32 (of_z w32 c.args.self.y) ≡ c.args.self.y = search rules in
    let d : to_z w32 (of_z w32 c.args.other.x) ≡ c.args.other.x = search rules in
    let e : to_z w32 (of_z w32 c.args.other.y) ≡ c.args.other.y = search rules in
    cc (c.eq.ensures, a, b, d, e, same_point_eq c.args.self c.args.other)
