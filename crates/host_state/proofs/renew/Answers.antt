-- Answers to the goals of `host_state::renew`.
use Rattle.host_state.proofs.InPlace.{renew-no, renew-yes}
use borrow.Author.Rules.{rules}
use Rattle.host_state.proofs.renew.Goals as goal

pub returns-in-Some : goal.returns-in-Some
returns-in-Some c = search (renew-yes, rules)

pub returns-in_default : goal.returns-in_default
returns-in_default c = search (renew-no, rules)
