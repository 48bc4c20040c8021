-- What `position` finds in the rest of the file is the place of its LF.
use Rattle.std.proofs.Common.{◌≡◌, ◌==◌, position, arith, rules}
use Rattle.std.proofs.lemmas.Iterator.{YieldsList-from_slice}
use Rattle.std.proofs.lemmas.Iterator.Search.{position_from_yields_List}
use Rattle.std.proofs.lemmas.List.{take_rest}
use borrow.Author.Tests.{tests}
use Rattle.rules.specs.Lines.{LF}
use Rattle.line.proofs.Lines.{find_first, find_end}
use Rattle.line.proofs.find_lf.Goals as goal

pub returns-in_default : goal.returns-in_default
returns-in_default c = grind (arith, find_end)

pub returns : goal.returns
returns c =
    let rest = c.in-Some.rest.now in
    let found : c.position.result ≡ position (λ b. b == LF) rest =
    position_from_yields_List (λ b. b == LF) _ _ c.position.result c.position.ensures.ran (YieldsList-from_slice rest cc) (λ x b q k. search (rules, tests)) in
    grind (arith, find_first, take_rest)
