-- Answers to the goals of `host_turn::size_of`.
use Rattle.host_turn.specs.Turns.{size_of}
use borrow.Author.Rules.{rules}
use Rattle.host_turn.proofs.size_of.Goals as goal

pub returns-in-Tell : goal.returns-in-Tell
unfolding size_of
returns-in-Tell c = search rules

pub returns-in-Clear : goal.returns-in-Clear
unfolding size_of
returns-in-Clear c = search rules

pub returns-in-Load : goal.returns-in-Load
unfolding size_of
returns-in-Load c = search rules
