-- Answers to the goals of `client_demand::write_verify`.
use Rattle.client_demand.proofs.Ways.{sent-verify}
use borrow.Author.Rules.{rules}
use Rattle.client_demand.proofs.write_verify.Goals as goal

pub returns : goal.returns
returns c = search (sent-verify, rules)
