use lib.ListN.{take}
use Rattle.text.specs.Wrote.{Wrote}
use Rattle.text.proofs.parts.put_word.Given as goal

-- the bytes before this turn's are written
abbrev pub invariant-loop-byte : goal.invariant-loop-byte
invariant-loop-byte l = Wrote l.initial.b l.at (take l.byte-index l.word) l.b l.end
