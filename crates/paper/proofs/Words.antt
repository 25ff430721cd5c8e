-- Byte order for any width: numbers written and read back, bytes read and written back.
use Prim.Native.Nat.{ℕ, zero, suc, ◌+◌, ◌*◌, ◌/◌, ◌%◌, ◌^◌, ◌<◌}
use mathlib.Core.List.{List, [], ◌∷◌}
use mathlib.Core.Path.{◌≡◌, refl, sym, ◌∙◌, ap, ap₂}
use native.Mathlib.Omega.{arith}
use native.Mathlib.Nat.{pow-suc, pow-succ', mul_assoc, mod-add-div}
use lib.ListN.{length}
pub use Rattle.paper.proofs.FieldParts.{field-none, field-add}
pub use Rattle.paper.proofs.FieldSuc.{field-suc}
use Rattle.paper.specs.Count.{All}
use Rattle.paper.specs.Frame.{le, number}

pub le-length : (k x : ℕ) → length (le k x) ≡ k
unfolding le
le-length zero x = refl
le-length (suc k) x = ap suc (le-length k (x / 256))

-- A multiple of 256 ^ k does not change the k bytes written.
le-above : (k x q : ℕ) → le k (x + 256 ^ k * q) ≡ le k x
unfolding le
le-above zero x q = refl
le-above (suc k) x q =
    ap (λ (m : ℕ). le (suc k) (x + m)) (ap (λ (p : ℕ). p * q) (pow-succ' 256 k) ∙ mul_assoc 256 (256 ^ k) q)
    ∙ ap₂ ◌∷◌ (low (256 ^ k * q)) (ap (le k) (high (256 ^ k * q)) ∙ le-above k (x / 256) q)
  where
    low : (m : ℕ) → (x + 256 * m) % 256 ≡ x % 256
    low m = omega arith

    high : (m : ℕ) → (x + 256 * m) / 256 ≡ x / 256 + m
    high m = omega arith

pub le-cut : (k x : ℕ) → le k (x % 256 ^ k) ≡ le k x
le-cut k x = sym (le-above k (x % 256 ^ k) (x / 256 ^ k)) ∙ ap (le k) (mod-add-div x (256 ^ k))

pub number-le : (k x : ℕ) → x < 256 ^ k → number (le k x) ≡ x
unfolding le number
number-le zero x h = omega arith
number-le (suc k) x h = omega (arith, number-le k (x / 256) (omega (arith, rw (pow-suc 256 k) at h)))

-- Every element is below 256.
abbrev pub Bytes : List ℕ → Type 0
Bytes bs = All (λ b. b < 256) bs

pub le-number : (bs : List ℕ) → Bytes bs → le (length bs) (number bs) ≡ bs
unfolding le number
le-number [] h = refl
le-number (b ∷ bs) h = ap₂ ◌∷◌ (low b (number bs) h.0)
    (ap (le (length bs)) (high b (number bs) h.0) ∙ le-number bs h.1)
  where
    low : (b n : ℕ) → b < 256 → (b + 256 * n) % 256 ≡ b
    low b n h = omega arith

    high : (b n : ℕ) → b < 256 → (b + 256 * n) / 256 ≡ n
    high b n h = omega arith
