-- The invariants of `crc::crc16`.
use lib.ListN.{drop}
use mathlib.Core.Path.{◌≡◌}
use Prim.Native.Nat.{◌*◌}
use Rattle.paper.specs.Frame.{crc_from}
use Rattle.crc.proofs.crc16.Given as goal

abbrev pub invariant-loop-a : goal.invariant-loop-a
invariant-loop-a l = crc_from l.c (drop (2 * l.a-index) l.bytes) ≡ crc_from l.start l.bytes

abbrev pub invariant-loop-b : goal.invariant-loop-b
invariant-loop-b l = crc_from l.c (drop l.b-index l.last) ≡ crc_from l.start l.bytes
