-- Answers to the goals of `client::Front::onward`.
use Rattle.client.proofs.Ways.{onward-is}
use borrow.Author.Rules.{rules}
use Rattle.client.proofs.Front.onward.Goals as goal

pub returns : goal.returns
returns c = search (onward-is, rules)
