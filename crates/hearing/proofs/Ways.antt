-- A lemma for `hearing::rest`.
use Prim.Native.Nat.{ℕ, ◌<◌}
use mathlib.Core.List.{List}
use mathlib.Core.Path.{◌≡◌, sym}
use native.Mathlib.Nat.{le_of_lt}
use lib.ListN.{length, take, drop, drop_of_length-le}

pub no-rest : (bytes : List ℕ) (at : ℕ) → length bytes < at → take 0 bytes ≡ drop at bytes
no-rest bytes at h = sym (drop_of_length-le bytes {i = at} (le_of_lt h))
