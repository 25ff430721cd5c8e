-- A byte is its own number in one byte.
use Rattle.std.specs.Prelude.{ℕ, ◌%◌, ◌<◌, [], ◌∷◌, ◌≡◌}
use mathlib.Core.Path.{ap}
use native.Mathlib.Omega.{arith}
use Rattle.paper.specs.Frame.{le}

pub one_byte : (x : ℕ) → x < 256 → x ∷ [] ≡ le 1 x
unfolding le
one_byte x fits = ap (λ y. y ∷ []) (low x fits)
  where
    low : (x : ℕ) → x < 256 → x ≡ x % 256
    low x fits = omega arith
