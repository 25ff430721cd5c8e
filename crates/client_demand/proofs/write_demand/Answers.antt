-- Answers to the goals of `client_demand::write_demand`.
use Rattle.client_demand.proofs.Ways.{demand-info, demand-erase, demand-write, demand-verify, demand-reset}
use borrow.Author.Rules.{rules}
use Rattle.client_demand.proofs.write_demand.Goals as goal

pub returns-in-Informing : goal.returns-in-Informing
returns-in-Informing c = search (demand-info, rules)

pub returns-in-Erasing : goal.returns-in-Erasing
returns-in-Erasing c = search (demand-erase, rules)

pub returns-in-Writing : goal.returns-in-Writing
returns-in-Writing c = search (demand-write, rules)

pub returns-in-Verifying : goal.returns-in-Verifying
returns-in-Verifying c = search (demand-verify, rules)

pub returns-in-Resetting : goal.returns-in-Resetting
returns-in-Resetting c = search (demand-reset, rules)
