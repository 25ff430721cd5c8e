-- Answers to the goals of `log_lines::Reader::feed`.
use borrow.Author.Rules.{rules}
use Rattle.log_lines.proofs.Ways.{further, halted, ran_out}
use Rattle.log_lines.proofs.Reader.feed.Goals as goal

pub returns-then-halts : goal.returns-then-halts
returns-then-halts c = search (halted, rules)

pub loop-i-preserved : goal.loop-i-preserved
loop-i-preserved c = (search rules, search (further, rules))

pub returns : goal.returns
returns c = search (ran_out, rules)
