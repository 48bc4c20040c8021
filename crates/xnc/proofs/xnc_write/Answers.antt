-- What writing answers, packed; what it leaves.
use Rattle.xnc.proofs.Small.{write_small}
use Rattle.xnc.proofs.xnc_write.Goals as goal

pub pack-requires : goal.pack-requires
pack-requires c = write_small _ _ _ c.write.ensures.0
