-- Answers to the goals of `crc::crc_pair`.
use borrow.Author.Rules.{rules}
use mathlib.Core.Path.{refl}
use Rattle.crc.proofs.Linear.{pair}
use Rattle.crc.proofs.crc_pair.Goals as goal

pub returns : goal.returns
returns c = pair c.args.c c.args.a c.args.b _ (search rules) (search rules) (search rules) refl
