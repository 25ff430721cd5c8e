-- Answers to the goals of `client_demand::write_info`.
use Rattle.client_demand.proofs.Ways.{sent}
use borrow.Author.Rules.{rules}
use Rattle.client_demand.proofs.write_info.Goals as goal

pub returns : goal.returns
returns c = search (sent, rules)
