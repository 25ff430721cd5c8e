-- Answers to the goals of `select::put_bit`.
use Rattle.select.proofs.Ways.{one-put, zero-put}
use borrow.Author.Rules.{rules}
use Rattle.select.proofs.put_bit.Goals as goal

pub returns-then-bit_of-eq1 : goal.returns-then-bit_of-eq1
returns-then-bit_of-eq1 c = search (one-put, rules)

pub returns-else-bit_of-eq1 : goal.returns-else-bit_of-eq1
returns-else-bit_of-eq1 c = search (zero-put, rules)
