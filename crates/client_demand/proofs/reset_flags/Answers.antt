-- Answers to the goals of `client_demand::reset_flags`.
use Rattle.client_demand.proofs.Ways.{flags-fit, flags-sum}
use borrow.Author.Rules.{rules}
use Rattle.client_demand.proofs.reset_flags.Goals as goal

pub overflow_add-result : goal.overflow_add-result
overflow_add-result c = search (flags-fit, rules)

pub returns : goal.returns
returns c = search (flags-sum, rules)
