-- Answers to the goals of `host_answer::no_list`.
use Rattle.host_answer.proofs.Ways.{list-none}
use borrow.Author.Rules.{rules}
use Rattle.host_answer.proofs.no_list.Goals as goal

pub returns : goal.returns
returns c = search (list-none, rules)
