-- Answers to the goals of `reader::skipped`.
use borrow.Author.Rules.{rules}
use borrow.Author.Tests.{tests}
use lib.Dec.{eqb}
use Rattle.std.proofs.lemmas.Iterator.{YieldsList-from_slice}
use Rattle.std.proofs.lemmas.Iterator.Search.{position_from_yields_List}
use Rattle.reader.proofs.Ways.{first}
use Rattle.reader.proofs.skipped.Goals as goal

pub returns-clause-value : goal.returns-clause-value
returns-clause-value c =
    first _ _ _ c.unwrap_or.ensures
    (position_from_yields_List (λ b. eqb b 0xA5) _ _ _ c.position.ensures.ran (YieldsList-from_slice c.args.s.now cc)
    (λ x b q k. search (rules, tests)))
