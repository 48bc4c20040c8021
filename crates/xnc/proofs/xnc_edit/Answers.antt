-- Without a block the question alone; else the edit, and the counts put back.
use borrow.Author.Rules.{rules}
use Rattle.xnc.proofs.Small.{meeting_small, edit_small}
use Rattle.xnc.proofs.Blocks.{edit_short, edit_is}
use Rattle.xnc.proofs.xnc_edit.Goals as goal

pub pack_without_block-requires : goal.pack_without_block-requires
pack_without_block-requires c = meeting_small _ _ _ _ _ c.meeting.ensures

pub returns-in_default : goal.returns-in_default
returns-in_default c =
    let a = c.args in
    edit_short a.table.now a.n a.line a.text.now a.revision a.counts.now c.revision_of-by.ensures c.in_default.ensures.cases
    c.meeting.result c.meeting.ensures c.pack_without_block.ensures

pub hand_out-requires : goal.hand_out-requires
hand_out-requires c = edit_small _ _ _ _ _ _ c.edit-edited.ensures.answer

pub returns : goal.returns
returns c =
    let a = c.args in
    let front = c.in-Some.ensures.cases in
    edit_is a.table.now a.n a.line a.text.now a.revision a.counts.now c.revision_of-by.ensures front.enough front.same
    c.counts_in.ensures c.edit-edited.ensures (search rules) (search rules) c.hand_out.ensures.answer c.hand_out.ensures.counts
