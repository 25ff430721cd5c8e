-- Answers to the goals of `client_demand::write_write`.
use Rattle.client_demand.proofs.Ways.{held-within, write-fits, sent-write}
use borrow.Author.Rules.{rules}
use Rattle.client_demand.proofs.write_write.Goals as goal

pub overflow_sub-size : goal.overflow_sub-size
overflow_sub-size c = search (held-within, rules)

pub place_frame-requires : goal.place_frame-requires
place_frame-requires c = search (write-fits, rules)

pub returns : goal.returns
returns c = search (sent-write, rules)
