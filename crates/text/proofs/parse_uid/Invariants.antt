-- The invariants of `text::parse_uid`.
use mathlib.Core.Path.{◌≡◌}
use Prim.Native.Nat.{◌*◌}
use lib.ListN.{length, take, drop}
use Rattle.paper.specs.Text.{unhex}
use Rattle.text.proofs.Reading.{Joined}
use Rattle.text.proofs.parse_uid.Given as goal

abbrev pub invariant-loop-i : goal.invariant-loop-i
invariant-loop-i l =
    (length l.bytes ≡ 16) × (drop l.i l.bytes ≡ drop l.i l.initial.bytes) × (Joined (take l.i l.bytes) (unhex (drop (2 * l.i) l.text)) ≡ unhex l.text)
