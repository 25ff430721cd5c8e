-- Answers to the goals of `host_buffers::codes::written_code`.
use Rattle.host_buffers.specs.Codes.{written_code}
use Rattle.lore.proofs.Choice.{at_value}
use borrow.Author.Rules.{rules}
use Rattle.host_buffers.proofs.codes.written_code.Goals as goal

pub returns-in-Ok : goal.returns-in-Ok
unfolding written_code
returns-in-Ok c = search (at_value written_code, rules)

pub returns-in-Err-Short : goal.returns-in-Err-Short
unfolding written_code
returns-in-Err-Short c = search (at_value written_code, rules)

pub returns-in-Err-TooLong : goal.returns-in-Err-TooLong
unfolding written_code
returns-in-Err-TooLong c = search (at_value written_code, rules)
