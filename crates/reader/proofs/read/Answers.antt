-- The size, the lines, the room; the table is written last, from the block, and the block's rows are counted.
use Rattle.std.proofs.Common.{rules}
use Rattle.reader.proofs.Whole.{read_long, read_refused, read_no_room, read_done}
use Rattle.reader.proofs.read.Goals as goal

pub returns-then-file-gt-MAX_FILE : goal.returns-then-file-gt-MAX_FILE
returns-then-file-gt-MAX_FILE c = search (rules, read_long)

pub returns-in-Err : goal.returns-in-Err
returns-in-Err c = search (rules, read_refused)

pub returns-then-table-n : goal.returns-then-table-n
returns-then-table-n c = search (rules, read_no_room)

pub returns : goal.returns
returns c = search (rules, read_done)
