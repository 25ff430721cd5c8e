-- Answers to the goals of `ids::path::low_bits`.
use lib.Pow.{pow_pos}
use lib.Bits.{and_mask}
use Rattle.ids.proofs.Shift.{one_shl}
use Rattle.ids.proofs.path.low_bits.Goals as goal

pub overflow_sub-result : goal.overflow_sub-result
overflow_sub-result c = rw (one_shl c.args.j c.requires) (pow_pos c.args.j)

pub returns : goal.returns
returns c = rw (one_shl c.args.j c.requires) (and_mask c.args.x c.args.j)
