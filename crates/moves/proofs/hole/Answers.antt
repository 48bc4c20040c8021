use mathlib.Core.Path.{ap, ◌∙◌}
use Rattle.rules.proofs.Said.{hole_said_one}
use Rattle.moves.specs.Moves.{made}
use Rattle.moves.proofs.Holes.{made_is}
use Rattle.moves.proofs.hole.Goals as goal

-- the answer is document 01's, since its number and values are
pub returns : goal.returns
returns c = c.unwrap_or.ensures ∙ made_is c.hole.result ∙ ap made (hole_said_one c.hole.ensures)
