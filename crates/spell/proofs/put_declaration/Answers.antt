-- Three parts one after the other.
use Rattle.rules.specs.Writing.{spelt}
use Rattle.text.proofs.Wrote.{wrote_more}
use Rattle.spell.proofs.put_declaration.Goals as goal

pub returns : goal.returns
unfolding spelt
returns c = wrote_more c.put_tool-tool_end.ensures (wrote_more c.put_byte-diameter.ensures c.put_number.ensures)
