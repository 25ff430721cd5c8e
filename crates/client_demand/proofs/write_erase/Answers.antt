-- Answers to the goals of `client_demand::write_erase`.
use Rattle.client_demand.proofs.Ways.{sent-erase}
use borrow.Author.Rules.{rules}
use Rattle.client_demand.proofs.write_erase.Goals as goal

pub returns : goal.returns
returns c = search (sent-erase, rules)
