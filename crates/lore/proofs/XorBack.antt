-- A summand can be taken back: a number XORed twice with another is itself.
use Prim.Native.Nat.{ℕ}
use mathlib.Core.Path.{◌≡◌, sym, ◌∙◌, ap, ap₂}
use lib.Bits.{bit_xor, xor_self, xor_zero_l, xor_zero_r}
use Rattle.lore.proofs.XorSums.{swap-sums}

pub xor-back : (a b : ℕ) → bit_xor (bit_xor a b) b ≡ a
xor-back a b =
    ap (bit_xor (bit_xor a b)) (sym (xor_zero_l b)) ∙ swap-sums a b 0 b
    ∙ ap₂ bit_xor (xor_zero_r a) (xor_self b) ∙ xor_zero_r a
