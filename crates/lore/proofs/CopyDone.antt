-- A loop that copies a list to the front of another has ended: every element of its source is copied.
use Prim.Native.Nat.{ℕ, ◌≤◌}
use mathlib.Core.List.{List, ◌++◌}
use mathlib.Core.Path.{◌≡◌}
use native.Mathlib.Omega.{arith}
use lib.ListN.{length, take, drop}
use lib.Seq.{take-length}

pub copy_done : (s d l : List ℕ) (i : ℕ) → l ≡ take i s ++ drop i d
    → i ≤ length s → length s ≤ i → l ≡ s ++ drop (length s) d
copy_done s d l i e h k = rw (← same i s h k, take-length s) at e
  where
    same : (i : ℕ) (s : List ℕ) → i ≤ length s → length s ≤ i → length s ≡ i
    same i s h k = omega arith
