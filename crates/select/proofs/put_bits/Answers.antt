-- Answers to the goals of `select::put_bits`.
use borrow.Author.Rules.{rules}
use Rattle.select.proofs.Ways.{bits_none, bits-more, byte-done, bits-passed, bits-over, bits-done}
use Rattle.select.proofs.put_bits.Goals as goal

pub loop-i-init : goal.loop-i-init
loop-i-init c = (search rules, search (bits_none, rules))

pub returns-then-n-k : goal.returns-then-n-k
returns-then-n-k c = search (bits-done, rules)

pub loop-k-preserved : goal.loop-k-preserved
loop-k-preserved c = (search rules, search (bits-more, rules))

pub loop-i-preserved-then-x-eq0 : goal.loop-i-preserved-then-x-eq0
loop-i-preserved-then-x-eq0 c = (search rules, search (bits-passed, rules))

pub loop-i-preserved : goal.loop-i-preserved
loop-i-preserved c = (search rules, search (byte-done, rules))

pub returns : goal.returns
returns c = search (bits-over, rules)
