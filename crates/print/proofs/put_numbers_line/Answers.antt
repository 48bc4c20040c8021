-- The word, the numbers behind their tabs and LF, one after another.
use Rattle.print.proofs.Lines.{line_wrote}
use Rattle.print.proofs.put_numbers_line.Goals as goal

pub returns : goal.returns
returns c =
    line_wrote _ _ c.put_word-word_end.ensures
    c.put_numbers-numbers_end.ensures c.put_byte.ensures
