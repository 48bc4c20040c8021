-- What stands before the row, its numbers, and what stands after it.
use Rattle.put.proofs.Puts.{put_between}
use Rattle.put.proofs.row.Goals as goal

pub returns-in-Some : goal.returns-in-Some
returns-in-Some c =
    put_between _ _ _ _ c.if-rows-i.false c.split_at_mut-rest.ensures.front c.split_at_mut-rest.ensures.back c.numbers.ensures
