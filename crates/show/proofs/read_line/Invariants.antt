-- The bytes kept are within the block.
use Rattle.std.proofs.Common.{length, ◌≡◌, ◌≤◌}
use Rattle.show.proofs.read_line.Given as goal

abbrev pub invariant-loop : goal.invariant-loop
invariant-loop g l = (l.got ≤ length l.block) × (length l.block ≡ length l.initial.block)
