-- Sums by XOR on numbers: four summands in another order, and the parity of a sum.
use Prim.Native.Nat.{ℕ, zero, suc, ◌+◌, ◌*◌, ◌/◌, ◌%◌, ◌<◌}
use mathlib.Core.Path.{◌≡◌, refl, sym, ◌∙◌, ap, ap₂}
use native.Mathlib.Omega.{arith}
use lib.Arith.{bin_ind}
use lib.Bits.{bit_xor, differ, xor_step, xor_comm, xor_shr}
use lib.Dec.{lit<}

-- What holds for 0 and for 1 holds for a number modulo 2.
digit : (P : ℕ → Type 0) → P 0 → P 1 → (x : ℕ) → P (x % 2)
digit P p q x = go (x % 2) (omega arith)
  where
    go : (r : ℕ) → r < 2 → P r
    go zero h = p
    go (suc zero) h = q
    go (suc (suc r)) h = absurd (omega arith)

differ-swap : (x y z : ℕ) → differ (differ (x % 2) (y % 2)) (z % 2) ≡ differ (differ (x % 2) (z % 2)) (y % 2)
differ-swap x y z =
    digit (λ p. differ (differ p (y % 2)) (z % 2) ≡ differ (differ p (z % 2)) (y % 2))
    (digit (λ q. differ q (z % 2) ≡ differ (z % 2) q) (digit (λ r. r ≡ differ r 0) refl refl z)
    (digit (λ r. differ 1 r ≡ differ r 1) refl refl z) y)
    (digit (λ q. differ (differ 1 q) (z % 2) ≡ differ (differ 1 (z % 2)) q)
    (digit (λ r. differ 1 r ≡ differ (differ 1 r) 0) refl refl z)
    (digit (λ r. r ≡ differ (differ 1 r) 1) refl refl z) y)
    x

differ-lt : (x y : ℕ) → differ (x % 2) (y % 2) < 2
differ-lt x y = digit (λ p. differ p (y % 2) < 2) (omega arith) (digit (λ q. differ 1 q < 2) (lit< tt) (lit< tt) y) x

pub xor-odd : (a b : ℕ) → bit_xor a b % 2 ≡ differ (a % 2) (b % 2)
xor-odd a b = omega (arith, xor_step a b, differ-lt a b)

xor-swap : (a b p : ℕ) → bit_xor (bit_xor a b) p ≡ bit_xor (bit_xor a p) b
xor-swap =
    bin_ind (λ (a : ℕ). (b p : ℕ) → bit_xor (bit_xor a b) p ≡ bit_xor (bit_xor a p) b) (λ b p. xor_comm b p)
    (λ a ih b p. digits a b p ∙ ap₂ (λ (x y : ℕ). x * 2 + y) (ih (b / 2) (p / 2)) (differ-swap a b p)
    ∙ sym (digits a p b))
  where
    digits : (a b p : ℕ) → bit_xor (bit_xor a b) p
        ≡ bit_xor (bit_xor (a / 2) (b / 2)) (p / 2) * 2 + differ (differ (a % 2) (b % 2)) (p % 2)
    digits a b p =
        xor_step (bit_xor a b) p ∙ ap₂ (λ (x y : ℕ). bit_xor x (p / 2) * 2 + differ y (p % 2)) (xor_shr a b 1)
        (xor-odd a b)

pub swap-sums : (a b c d : ℕ) → bit_xor (bit_xor a b) (bit_xor c d) ≡ bit_xor (bit_xor a c) (bit_xor b d)
swap-sums a b c d = sym (together (bit_xor a b) c d) ∙ ap (λ (x : ℕ). bit_xor x d) (xor-swap a b c)
    ∙ together (bit_xor a c) b d
  where
    together : (a b c : ℕ) → bit_xor (bit_xor a b) c ≡ bit_xor a (bit_xor b c)
    together a b c = ap (λ (x : ℕ). bit_xor x c) (xor_comm a b) ∙ xor-swap b a c ∙ xor_comm (bit_xor b c) a
