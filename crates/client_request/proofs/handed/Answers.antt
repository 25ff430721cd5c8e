-- Answers to the goals of `client_request::handed`.
use Rattle.client_request.proofs.Ways.{handed-select, handed-demand, handed-leave}
use Rattle.std.proofs.Common.{rules}
use Rattle.client_request.proofs.handed.Goals as goal

pub returns-in-Select : goal.returns-in-Select
returns-in-Select c = search (handed-select, rules)

pub returns-in-Demand : goal.returns-in-Demand
returns-in-Demand c = search (handed-demand, rules)

pub returns-in-Leave : goal.returns-in-Leave
returns-in-Leave c = search (handed-leave, rules)
