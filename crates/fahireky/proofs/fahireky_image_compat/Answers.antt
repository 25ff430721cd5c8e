-- Answers to the goals of `fahireky::fahireky_image_compat`.
use Rattle.fahireky.proofs.Ways.{key-is}
use borrow.Author.Rules.{rules}
use Rattle.fahireky.proofs.fahireky_image_compat.Goals as goal

pub returns : goal.returns
returns c = search (key-is, rules)
