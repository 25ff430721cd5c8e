-- A field is its first byte, then the field after it.
use Prim.Native.Nat.{ℕ, suc, ◌+◌, ◌*◌, ◌<◌, ◌≤◌}
use mathlib.Core.List.{List}
use mathlib.Core.Path.{◌≡◌}
use native.Mathlib.Decide.{dec_lt}
use native.Mathlib.Numerals.{add-one}
use native.Mathlib.Omega.{arith}
use lib.ListN.{length, get_or, drop_of_length-le, get_or-eq_default}
use lib.Seq.{drop-cons, take-nil}
use Rattle.paper.specs.Frame.{number, field}

pub field-suc : (at k : ℕ) (s : List ℕ) → field at (suc k) s ≡ get_or s at 0 + 256 * field (at + 1) k s
unfolding number
field-suc at k s = go (dec_lt at (length s))
  where
    go : Dec (at < length s) → field at (suc k) s ≡ get_or s at 0 + 256 * field (at + 1) k s
    go (yes h) = rw (drop-cons s at 0 h, add-one at)
    go (no h) =
        let past : length s ≤ at = omega arith in
        rw (
          drop_of_length-le s {i = at} past,
          drop_of_length-le s {i = at + 1} (omega arith),
          get_or-eq_default s 0
              {n = at} past,
          take-nil k,
        ) (omega arith)
