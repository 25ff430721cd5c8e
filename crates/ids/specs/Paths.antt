-- Cutting a path at a bit.
use Rattle.std.specs.Prelude.{ℕ, ◌/◌, ◌%◌, ◌^◌, List, get_or, set}

-- Clears bit k and the bits above it in the same byte; other bytes stay as they are.
unfoldable pub cut : List ℕ → ℕ → List ℕ
cut bytes k = set bytes (k / 8) (get_or bytes (k / 8) 0 % 2 ^ (k % 8))
