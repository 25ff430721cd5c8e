-- Answers to the goals of `host_turn::tag_of`.
use Rattle.host_turn.specs.Turns.{tag_of}
use borrow.Author.Rules.{rules}
use Rattle.host_turn.proofs.tag_of.Goals as goal

pub returns-in-Tell : goal.returns-in-Tell
unfolding tag_of
returns-in-Tell c = search rules

pub returns-in-Clear : goal.returns-in-Clear
unfolding tag_of
returns-in-Clear c = search rules

pub returns-in-Load : goal.returns-in-Load
unfolding tag_of
returns-in-Load c = search rules
