-- Shift and mask on a byte, as arithmetic.
use Prim.Native.Nat.{ℕ, ◌+◌, ◌*◌, ◌/◌, ◌%◌, ◌^◌, ◌<◌, max}
use mathlib.Core.Path.{◌≡◌, sym, ◌∙◌, ap₂}
use native.Mathlib.Omega.{arith}
use native.Mathlib.Nat.{one-mul, add-zero, mod-lt}
use lib.Bits.{bit_and, bit_or, or_step, or_zero_r, or_block, and_mask}
use lib.Dec.{lit<}
use lib.Pow.{shl_exact, split, pow_pos}
use Rattle.ids.specs.Ids.{with_one}

-- `1 << j`
pub one_shl : (j : ℕ) → j < 8 → 1 * 2 ^ j % 256 ≡ 2 ^ j
one_shl j h = shl_exact 1 j 8 (lit< tt) (omega arith) ∙ one-mul (2 ^ j)

-- `x & 1`
pub and_one : (x : ℕ) → bit_and x 1 ≡ x % 2
and_one x = and_mask x 1

or-one : (y : ℕ) → bit_or y 1 ≡ y / 2 * 2 + 1
or-one y = or_step y 1 ∙ ap₂ (λ (a b : ℕ). a * 2 + b) (or_zero_r (y / 2)) top
  where
    top : max (y % 2) 1 ≡ 1
    top = omega arith

-- `x | (1 << j)`
pub or-shl : (x j : ℕ) → bit_or x (2 ^ j) ≡ with_one x j
or-shl x j =
    ap₂ bit_or (sym (split x j)) (sym (add-zero (1 * 2 ^ j) ∙ one-mul (2 ^ j)))
    ∙ or_block j (x / 2 ^ j) 1 (x % 2 ^ j) 0 (mod-lt x (pow_pos j)) (pow_pos j)
    ∙ ap₂ (λ (a b : ℕ). a * 2 ^ j + b) (or-one (x / 2 ^ j)) (or_zero_r (x % 2 ^ j))
