-- Answers to the goals of `host_buffers::lists`.
use Rattle.host_buffers.proofs.Ways.{list-none, list-given}
use borrow.Author.Rules.{rules}
use Rattle.host_buffers.proofs.lists.Goals as goal

pub returns-in-Gives : goal.returns-in-Gives
returns-in-Gives c = search (list-given, rules)

pub returns-in_default : goal.returns-in_default
returns-in_default c = search (list-none, rules)
