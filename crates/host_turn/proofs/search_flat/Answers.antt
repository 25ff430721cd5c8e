-- Answers to the goals of `host_turn::search_flat`.
use Rattle.host_turn.proofs.Ways.{at-case}
use Rattle.host_turn.specs.Turns.{search_flat}
use borrow.Author.Rules.{rules}
use Rattle.host_turn.proofs.search_flat.Goals as goal

pub returns-in-Probing : goal.returns-in-Probing
unfolding search_flat
returns-in-Probing c = search (at-case search_flat, rules)

pub returns-in-Parting : goal.returns-in-Parting
unfolding search_flat
returns-in-Parting c = search (at-case search_flat, rules)

pub returns-in-Seeking : goal.returns-in-Seeking
unfolding search_flat
returns-in-Seeking c = search (at-case search_flat, rules)

pub returns-in-Backing : goal.returns-in-Backing
unfolding search_flat
returns-in-Backing c = search (at-case search_flat, rules)

pub returns-in-Walking : goal.returns-in-Walking
unfolding search_flat
returns-in-Walking c = search (at-case search_flat, rules)
