-- Answers to the goals of `host_turn::phase_flat`.
use Rattle.host_turn.proofs.Ways.{at-case}
use Rattle.host_turn.specs.Turns.{phase_flat}
use borrow.Author.Rules.{rules}
use Rattle.host_turn.proofs.phase_flat.Goals as goal

pub returns-in-Select : goal.returns-in-Select
unfolding phase_flat
returns-in-Select c = search (at-case phase_flat, rules)

pub returns-in-Demand : goal.returns-in-Demand
unfolding phase_flat
returns-in-Demand c = search (at-case phase_flat, rules)

pub returns-in-Leave : goal.returns-in-Leave
unfolding phase_flat
returns-in-Leave c = search (at-case phase_flat, rules)
