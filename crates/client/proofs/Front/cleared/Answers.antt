-- Answers to the goals of `client::Front::cleared`.
use Rattle.client.proofs.Ways.{cleared-is}
use borrow.Author.Rules.{rules}
use Rattle.client.proofs.Front.cleared.Goals as goal

pub returns : goal.returns
returns c = search (cleared-is, rules)
