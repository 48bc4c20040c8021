-- The letter and two digits.
use Rattle.rules.specs.Writing.{tool_text}
use Rattle.text.proofs.Wrote.{wrote_more}
use Rattle.spell.proofs.put_tool.Goals as goal

pub returns : goal.returns
unfolding tool_text
returns c = wrote_more c.put_byte-digits.ensures (rw c.from.ensures at c.put_digits.ensures)
