-- Answers to the goals of `select::write_select`.
use Rattle.select.proofs.Ways.{select_short, select-wrote}
use borrow.Author.Rules.{rules}
use Rattle.select.proofs.write_select.Goals as goal

pub returns-then-buf-n : goal.returns-then-buf-n
returns-then-buf-n c = search (select_short, rules)

pub returns : goal.returns
returns c = search (select-wrote, rules)
