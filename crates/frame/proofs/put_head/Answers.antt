-- Answers to the goals of `frame::put_head`.
use Rattle.frame.proofs.Writes.{headed}
use borrow.Author.Rules.{rules}
use Rattle.frame.proofs.put_head.Goals as goal

pub returns : goal.returns
returns c = search (headed, rules)
