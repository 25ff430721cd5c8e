-- Answers to the goals of `text::put_hex`.
use borrow.Author.Rules.{rules}
use Rattle.paper.specs.Text.{hex_text}
use Rattle.text.proofs.Writing.{wrote-more, wrote-all}
use Rattle.text.proofs.put_hex.Goals as goal

pub loop-i-init : goal.loop-i-init
unfolding hex_text
loop-i-init c = search rules

pub loop-i-preserved : goal.loop-i-preserved
loop-i-preserved c = search (wrote-more, rules)

pub returns : goal.returns
returns c = search (wrote-all, rules)
