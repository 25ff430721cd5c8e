-- Answers to the goals of `fahireky::fahireky_start_flash`.
use Rattle.host_buffers.proofs.Ways.{starts_is}
use borrow.Author.Rules.{rules}
use Rattle.fahireky.proofs.fahireky_start_flash.Goals as goal

pub returns : goal.returns
returns c = search (starts_is, rules)
