-- Answers to the goals of `client::no_walk`.
use Rattle.client.proofs.Ways.{no-walk-is}
use borrow.Author.Rules.{rules}
use Rattle.client.proofs.no_walk.Goals as goal

pub returns : goal.returns
returns c = search (no-walk-is, rules)
