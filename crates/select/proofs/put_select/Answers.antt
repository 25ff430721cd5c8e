-- Answers to the goals of `select::put_select`.
use Rattle.select.proofs.Ways.{payload-put}
use borrow.Author.Rules.{rules}
use Rattle.select.proofs.put_select.Goals as goal

pub returns : goal.returns
returns c = search (payload-put, rules)
