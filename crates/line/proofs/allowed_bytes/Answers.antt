-- What `take_while` takes are the bytes that the line begins with.
use Rattle.std.proofs.Common.{◌∙◌, rules}
use Rattle.std.proofs.lemmas.Iterator.{YieldsList-from_slice}
use Rattle.std.proofs.lemmas.Iterator.Consumers.{count_from_yields_List}
use Rattle.std.proofs.lemmas.Iterator.Search.{YieldsList-from_take_while}
use borrow.Author.Tests.{tests}
use Rattle.rules.specs.Lines.{is_allowed}
use Rattle.line.proofs.Texts.{allowed_first}
use Rattle.line.proofs.allowed_bytes.Goals as goal

pub returns : goal.returns
returns c =
    count_from_yields_List _ c.count.result c.count.ensures.ran
    (YieldsList-from_take_while _ is_allowed (YieldsList-from_slice c.args.s.now cc) c.take_while.ensures.closure c.take_while.ensures.done
    (λ x b q k. search (rules, tests)))
    ∙ allowed_first c.args.s.now
