-- Answers to the goals of `host_state::clear`.
use Rattle.host_state.proofs.InPlace.{cleared}
use borrow.Author.Rules.{rules}
use Rattle.host_state.proofs.clear.Goals as goal

pub returns : goal.returns
returns c = search (cleared, rules)
