-- Answers to the goals of `host_answer::numbers::heard_tag`.
use Rattle.host_answer.specs.Numbers.{heard_tag}
use borrow.Author.Rules.{rules}
use Rattle.host_answer.proofs.numbers.heard_tag.Goals as goal

pub returns-in-Nothing : goal.returns-in-Nothing
unfolding heard_tag
returns-in-Nothing c = search rules

pub returns-in-One : goal.returns-in-One
unfolding heard_tag
returns-in-One c = search rules

pub returns-in-TooLong : goal.returns-in-TooLong
unfolding heard_tag
returns-in-TooLong c = search rules

pub returns-in-Unaddressed : goal.returns-in-Unaddressed
unfolding heard_tag
returns-in-Unaddressed c = search rules

pub returns-in-Garble : goal.returns-in-Garble
unfolding heard_tag
returns-in-Garble c = search rules
