-- Answers to the goals of `host_answer::numbers::outcome_note`.
use Rattle.host_answer.specs.Numbers.{outcome_note}
use Rattle.lore.proofs.Choice.{at_value}
use Rattle.host_answer.proofs.numbers.Ways.{ending-is}
use borrow.Author.Rules.{rules}
use Rattle.host_answer.proofs.numbers.outcome_note.Goals as goal

pub returns-in-Quiet : goal.returns-in-Quiet
unfolding outcome_note
returns-in-Quiet c = search (at_value outcome_note, ending-is, rules)

pub returns-in-Heard : goal.returns-in-Heard
unfolding outcome_note
returns-in-Heard c = search (at_value outcome_note, ending-is, rules)

pub returns-in-Attached : goal.returns-in-Attached
unfolding outcome_note
returns-in-Attached c = search (at_value outcome_note, ending-is, rules)

pub returns-in-Found : goal.returns-in-Found
unfolding outcome_note
returns-in-Found c = search (at_value outcome_note, ending-is, rules)

pub returns-in-Knows : goal.returns-in-Knows
unfolding outcome_note
returns-in-Knows c = search (at_value outcome_note, rules)

pub returns-in-Unaddressed : goal.returns-in-Unaddressed
unfolding outcome_note
returns-in-Unaddressed c = search (at_value outcome_note, ending-is, rules)
