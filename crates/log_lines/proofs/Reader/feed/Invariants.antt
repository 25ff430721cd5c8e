-- The invariants of `log_lines::Reader::feed`.
use mathlib.Core.Path.{◌≡◌}
use Prim.Native.Nat.{◌≤◌, max}
use lib.ListN.{length, drop}
use Rattle.log_lines.specs.Reading.{feed}
use Rattle.log_lines.proofs.Reader.feed.Given as goal

abbrev pub invariant-loop-i : goal.invariant-loop-i
invariant-loop-i l =
    (l.i ≤ max l.from (length l.piece))
    × (feed l.joined l.i l.reader l.buf (drop l.i l.piece) ≡ feed l.joined l.from l.initial.reader l.initial.buf (drop l.from l.piece))
