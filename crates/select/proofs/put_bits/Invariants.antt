-- The invariants of `select::put_bits`: the bits before the place are put, and the bytes after all bits stay.
use Rattle.std.proofs.Common.{◌≡◌, ◌*◌, ◌++◌, length, take, drop}
use Rattle.paper.specs.Hearing.{packed}
use Rattle.select.specs.Selects.{asked, bytes_for}
use Rattle.select.proofs.put_bits.Given as goal

abbrev pub invariant-loop-i : goal.invariant-loop-i
invariant-loop-i l =
    (length l.dst ≡ length l.fn.dst) × (l.dst
    ≡ packed (bytes_for l.count) (take (8 * l.i) (asked l.fn.bits l.count)) ++ drop (bytes_for l.count) l.fn.dst)

abbrev pub invariant-loop-k : goal.invariant-loop-k
invariant-loop-k l =
    (length l.dst ≡ length l.fn.dst) × (l.dst
    ≡ packed (bytes_for l.count) (take l.k (asked l.fn.bits l.count)) ++ drop (bytes_for l.count) l.fn.dst)
