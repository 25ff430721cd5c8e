-- Answers to the goals of `select::put_pair`.
use mathlib.Core.List.{[], ◌∷◌}
use lib.Seq.{sets-eq}
use Rattle.select.proofs.put_pair.Goals as goal

pub returns : goal.returns
returns c = sets-eq (c.args.a ∷ c.args.b ∷ []) c.args.dst.now 0 c.requires
