-- A code's number and length can be read back from it.
use Prim.Native.Nat.{ℕ, ◌/◌, ◌%◌, ◌^◌, ◌<◌}
use mathlib.Core.Path.{◌≡◌}
use native.Mathlib.Omega.{arith}
use Rattle.host_buffers.specs.Codes.{coded}

module _ (number length : ℕ) (small : number < 256) where
  pub code-number : coded number length % 256 ≡ number
  unfolding coded
  code-number = omega arith

  pub code-length : length < 2 ^ 56 → coded number length / 256 ≡ length
  unfolding coded
  code-length h = omega arith
