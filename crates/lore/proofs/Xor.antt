-- Laws of XOR on numbers: sums of four in another order, the parity of a sum, and that a summand can be taken back.
use Prim.Native.Nat.{ℕ}
use mathlib.Core.Path.{◌≡◌, sym, ◌∙◌, ap}
use lib.Bits.{bit_xor}
pub use Rattle.lore.proofs.XorBack.{xor-back}
pub use Rattle.lore.proofs.XorSums.{xor-odd, swap-sums}

pub xor_same : (a b c : ℕ) → bit_xor a c ≡ bit_xor b c → a ≡ b
xor_same a b c e = sym (xor-back a c) ∙ ap (λ (x : ℕ). bit_xor x c) e ∙ xor-back b c
