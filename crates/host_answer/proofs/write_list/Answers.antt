-- Answers to the goals of `host_answer::write_list`.
use Rattle.host_answer.proofs.Ways.{list_over, list-given}
use borrow.Author.Rules.{rules}
use Rattle.host_answer.proofs.write_list.Goals as goal

pub returns-then-n-gt-ROWS : goal.returns-then-n-gt-ROWS
returns-then-n-gt-ROWS c = search (list_over, rules)

pub returns : goal.returns
returns c = search (list-given, rules)
