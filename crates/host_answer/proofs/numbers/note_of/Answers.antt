-- Answers to the goals of `host_answer::numbers::note_of`.
use Rattle.lore.proofs.Choice.{at_value}
use Rattle.host_answer.proofs.numbers.Ways.{refused-is}
use Rattle.host_answer.specs.Numbers.{note_of}
use borrow.Author.Rules.{rules}
use Rattle.host_answer.proofs.numbers.note_of.Goals as goal

pub returns-in-Granted : goal.returns-in-Granted
unfolding note_of
returns-in-Granted c = search (at_value note_of, rules)

pub returns-in-Closing : goal.returns-in-Closing
unfolding note_of
returns-in-Closing c = search (at_value note_of, rules)

pub returns-in-Onward : goal.returns-in-Onward
unfolding note_of
returns-in-Onward c = search (at_value note_of, rules)

pub returns-in-Over : goal.returns-in-Over
unfolding note_of
returns-in-Over c = search (at_value note_of, rules)

pub returns-in-Refused : goal.returns-in-Refused
unfolding note_of
returns-in-Refused c = search (at_value note_of, refused-is, rules)
