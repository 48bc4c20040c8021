-- A refusal is narrow, and a hole that is made fits.
use native.Mathlib.Omega.{arith}
use Rattle.xnc.proofs.Holes.{made_ok}
use Rattle.xnc.proofs.Small.{hole_small}
use Rattle.xnc.proofs.xnc_hole.Goals as goal

pub pack_refusal-requires : goal.pack_refusal-requires
pack_refusal-requires c = hole_small _ _ _ c.hole.ensures _ _ c.in-Err.is

pub put_hole-requires : goal.put_hole-requires
put_hole-requires c = (omega arith, made_ok _ _ _ c.hole.ensures _ (cc))
