-- Answers to the goals of `text::uid_hex`.
use Rattle.text.proofs.Writing.{refuses-long, refuses-short, writes}
use borrow.Author.Rules.{rules}
use Rattle.text.proofs.uid_hex.Goals as goal

pub returns-then-n-gt-MAX_BYTES : goal.returns-then-n-gt-MAX_BYTES
returns-then-n-gt-MAX_BYTES c = search (refuses-long, rules)

pub returns-then-text-n : goal.returns-then-text-n
returns-then-text-n c = search (refuses-short, rules)

pub returns : goal.returns
returns c = search (writes, rules)
