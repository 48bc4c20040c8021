-- Into as much of the table as there may be; the counts are put last.
use borrow.Author.Rules.{rules}
use Rattle.xnc.proofs.Small.{read_small}
use Rattle.xnc.proofs.Blocks.{read_short, read_is}
use Rattle.xnc.proofs.xnc_read.Goals as goal

pub hand_out-requires : goal.hand_out-requires
hand_out-requires c = read_small _ _ _ c.read-read.ensures.answer

pub pack-requires : goal.pack-requires
pack-requires c = read_small _ _ _ c.read-read.ensures.answer

pub returns : goal.returns
returns c =
    let a = c.args in
    let front = c.in-Some.ensures.cases in
    read_is a.revision a.file.now a.table.now a.counts.now c.revision_of.ensures c.room_for-room.ensures.0 c.read-read.ensures front.enough (search rules) (search rules)
    (search rules) front.same c.hand_out.ensures.counts

pub returns-in_default : goal.returns-in_default
returns-in_default c =
    let a = c.args in
    read_short a.revision a.file.now a.table.now a.counts.now c.revision_of.ensures c.room_for-room.ensures.0 c.read-read.ensures c.in_default.ensures.cases c.pack.ensures
