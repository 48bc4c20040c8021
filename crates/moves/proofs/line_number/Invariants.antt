-- A number of so many digits is under ten to their number, and there are four at most.
use Rattle.std.proofs.Common.{◌^◌, ◌<◌}
use Rattle.moves.proofs.line_number.Given as goal

abbrev pub invariant-loop-digit : goal.invariant-loop-digit
invariant-loop-digit l = l.line < 10 ^ l.digit-index
