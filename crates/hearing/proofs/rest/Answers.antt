-- Answers to the goals of `hearing::rest`.
use Rattle.hearing.proofs.Ways.{no-rest}
use Rattle.lore.proofs.Parts.{part-all}
use borrow.Author.Rules.{rules}
use Rattle.hearing.proofs.rest.Goals as goal

pub returns-then-at-bytes : goal.returns-then-at-bytes
returns-then-at-bytes c = search (part-all, rules)

pub returns-else-at-bytes : goal.returns-else-at-bytes
returns-else-at-bytes c = search (no-rest, rules)
