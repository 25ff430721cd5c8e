-- The bits of an id: how many there are, the bit at a place, and the bits of one byte.
use Prim.Native.Nat.{ℕ, zero, suc, ◌+◌, ◌-◌, ◌*◌, ◌/◌, ◌%◌, ◌^◌, ◌<◌, ◌≤◌}
use mathlib.Core.Bool.{Bool, false}
use mathlib.Core.List.{List, ◌∷◌, ◌++◌}
use mathlib.Core.Path.{◌≡◌, refl, ◌∙◌, ap, ap₂}
use native.Mathlib.Omega.{arith}
use native.Mathlib.Nat.{zero-add, add-zero, suc-add, add-suc}
use lib.Dec.{eqb}
use lib.ListN.{length, get_or, take, drop}
use lib.Seq.{take_at, drop_at}
use Rattle.paper.specs.Hearing.{bit, counting, bits_of}

module _ {A : Type 0} (f : ℕ → A) where
  pub counting-length : (k n : ℕ) → length (counting f k n) ≡ n
  unfolding counting
  counting-length k zero = refl
  counting-length k (suc n) = ap suc (counting-length (suc k) n)

  pub counting-at : (d : A) (n k i : ℕ) → i < n → get_or (counting f k n) i d ≡ f (k + i)
  unfolding counting
  counting-at d zero k i h = absurd (omega arith)
  counting-at d (suc n) k zero h = let e : k ≡ k + 0 = omega arith in ap f e
  counting-at d (suc n) k (suc i) h = let e : suc k + i ≡ k + suc i = omega arith
      in counting-at d n (suc k) i (omega arith) ∙ ap f e

module _ {A : Type 0} where
  -- Counting m + n numbers is counting m, then n more.
  pub counting-add : (f : ℕ → A) (m n k : ℕ) → counting f k (m + n) ≡ counting f k m ++ counting f (k + m) n
  unfolding counting
  counting-add f zero n k = rw (zero-add, add-zero)
  counting-add f (suc m) n k = rw (suc-add, add-suc) (ap (f k ∷◌) (rw suc-add at (counting-add f m n (suc k))))

  -- Two functions that agree on the numbers counted give the same list.
  pub counting-same : (f g : ℕ → A) (n k j : ℕ) → ((i : ℕ) → i < n → f (k + i) ≡ g (j + i))
      → counting f k n ≡ counting g j n
  unfolding counting
  counting-same f g zero k j h = refl
  counting-same f g (suc n) k j h =
      ap₂ ◌∷◌ (simp add-zero at (h 0 (omega arith)))
      (counting-same f g n (suc k) (suc j) (λ i l. simp suc-add (simp add-suc at (h (suc i) (omega arith)))))

pub bits-length : (id : List ℕ) → length (bits_of id) ≡ 8 * length id
unfolding bits_of
bits-length id = counting-length (bit id) 0 (8 * length id)

pub bits_at : (id : List ℕ) (k : ℕ) → k < 8 * length id → get_or (bits_of id) k false ≡ bit id k
unfolding bits_of
bits_at id k h = counting-at (bit id) false (8 * length id) 0 k h ∙ ap (bit id) (zero-add k)

-- The r bits from the first bit of byte i on are the lowest r bits of that byte.
pub bits-byte : (id : List ℕ) (i r : ℕ) → r ≤ 8 → 8 * i + r ≤ 8 * length id
    → take r (drop (8 * i) (bits_of id)) ≡ counting (λ k. eqb (get_or id i 0 / 2 ^ k % 2) 1) 0 r
unfolding bits_of bit
bits-byte id i r h room =
    ap (λ (n : ℕ). take r (drop (8 * i) (counting (bit id) 0 n))) whole
    ∙ ap (λ (l : List Bool). take r (drop (8 * i) l)) (counting-add (bit id) (8 * i) (r + left) 0)
    ∙ ap (take r) (drop_at (counting (bit id) 0 (8 * i)) (counting (bit id) (0 + 8 * i) (r + left)) (8 * i)
    (counting-length (bit id) 0 (8 * i)))
    ∙ ap (take r) (counting-add (bit id) r left (0 + 8 * i))
    ∙ take_at (counting (bit id) (0 + 8 * i) r) (counting (bit id) (0 + 8 * i + r) left) r
    (counting-length (bit id) (0 + 8 * i) r)
    ∙ counting-same (bit id) (λ k. eqb (get_or id i 0 / 2 ^ k % 2) 1) r (0 + 8 * i) 0 (λ k l. same k l)
  where
    left : ℕ
    left = 8 * length id - 8 * i - r

    whole : 8 * length id ≡ 8 * i + (r + left)
    whole = omega arith

    same : (k : ℕ) → k < r → eqb (get_or id ((0 + 8 * i + k) / 8) 0 / 2 ^ ((0 + 8 * i + k) % 8) % 2) 1
        ≡ eqb (get_or id i 0 / 2 ^ (0 + k) % 2) 1
    same k l =
        let d : (0 + 8 * i + k) / 8 ≡ i = omega arith in
        let m : (0 + 8 * i + k) % 8 ≡ k = omega arith in
        let z : 0 + k ≡ k = omega arith in
        rw (d, m, z)
