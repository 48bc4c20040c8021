-- Each number is read back as itself. The check finds this alone, but close to its limits.
use Rattle.std.proofs.Common.{rules}
use Rattle.std.proofs.lemmas.Int.{to_z-of_z}
use Rattle.rules.specs.Rows.{state_numbers, row_numbers}
use Rattle.put.specs.PutRow.{capped_state, capped_numbers}
use Rattle.put.proofs.numbers.Goals as goal

pub returns : goal.returns
unfolding state_numbers row_numbers capped_state capped_numbers
returns c = rw c.fields-kind.ensures.five (search (rules, to_z-of_z, c.fields-kind.ensures.decimals))
