-- Answers to the goals of `ids::path::cut`.
use Prim.Native.Nat.{◌/◌}
use lib.ListN.{set}
use mathlib.Core.Path.{ap}
use Rattle.ids.specs.Paths.{cut}
use Rattle.ids.proofs.path.cut.Goals as goal

pub returns : goal.returns
unfolding cut
returns c = ap (set c.args.bytes (c.args.k / 8)) c.low_bits.ensures
