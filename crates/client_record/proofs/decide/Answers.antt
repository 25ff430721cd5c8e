-- Answers to the goals of `client_record::decide`.
use Rattle.client_record.proofs.Ways.{decide-other, decide-out, decide-heard}
use borrow.Author.Rules.{rules}
use Rattle.client_record.proofs.decide.Goals as goal

pub returns-then-other_image : goal.returns-then-other_image
returns-then-other_image c = search (decide-other, rules)

pub returns-in-Idle : goal.returns-in-Idle
returns-in-Idle c = search (decide-out, rules)

pub returns-in-Ready : goal.returns-in-Ready
returns-in-Ready c = search (decide-out, rules)

pub returns-else-other_image : goal.returns-else-other_image
returns-else-other_image c = search (decide-heard, rules)
