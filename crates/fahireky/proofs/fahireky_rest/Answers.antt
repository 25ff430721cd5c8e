-- Answers to the goals of `fahireky::fahireky_rest`.
use Rattle.host_buffers.specs.Codes.{rest_from}
use Rattle.lore.proofs.Choice.{ways}
use borrow.Author.Rules.{rules}
use Rattle.fahireky.proofs.fahireky_rest.Goals as goal

pub returns-then-place-bytes : goal.returns-then-place-bytes
unfolding rest_from
returns-then-place-bytes c = search (ways, rules)

pub returns-else-place-bytes : goal.returns-else-place-bytes
unfolding rest_from
returns-else-place-bytes c = search (ways, rules)
