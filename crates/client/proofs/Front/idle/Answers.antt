-- Answers to the goals of `client::Front::idle`.
use Rattle.client.proofs.Ways.{idle-is}
use borrow.Author.Rules.{rules}
use Rattle.client.proofs.Front.idle.Goals as goal

pub returns : goal.returns
returns c = search (idle-is, rules)
