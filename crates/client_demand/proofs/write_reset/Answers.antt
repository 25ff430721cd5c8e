-- Answers to the goals of `client_demand::write_reset`.
use Rattle.client_demand.proofs.Ways.{sent-reset}
use borrow.Author.Rules.{rules}
use Rattle.client_demand.proofs.write_reset.Goals as goal

pub returns : goal.returns
returns c = search (sent-reset, rules)
