-- The invariants of `log_listing::put_ids`.
use mathlib.Core.Path.{◌≡◌}
use Prim.Native.Nat.{◌≤◌, ◌*◌}
use Rattle.paper.specs.Log.{id_lines}
use Rattle.log_listing.specs.Listing.{first_ids, placed}
use Rattle.log_listing.proofs.put_ids.Given as goal

abbrev pub invariant-loop-i : goal.invariant-loop-i
invariant-loop-i l = (l.at ≤ 33 * l.i)
    × (record { len = l.at; bytes = l.out } ≡ placed (id_lines (first_ids l.found l.i)) l.initial.out)
