-- Answers to the goals of `fahireky::fahireky_link_failed`.
use Rattle.host_buffers.proofs.Ways.{tells_is}
use borrow.Author.Rules.{rules}
use Rattle.fahireky.proofs.fahireky_link_failed.Goals as goal

pub returns : goal.returns
returns c = search (tells_is, rules)
