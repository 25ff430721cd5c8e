-- Laws about parts of lists that the kit does not have.
use Prim.Native.Nat.{ℕ, zero, suc, ◌-◌, ◌≤◌}
use mathlib.Core.List.{List, [], ◌∷◌, ◌++◌}
use mathlib.Core.Path.{◌≡◌, refl, ap}
use native.Mathlib.Nat.{zero-sub}
use native.Mathlib.Numerals.{unary_clauses}
use native.Mathlib.Omega.{arith}
use lib.ListN.{length, take, drop, replicate}

module _ {A : Type 0} where
  pub drop-replicate : (n : ℕ) (v : A) (k : ℕ) → drop k (replicate n v) ≡ replicate (n - k) v
  drop-replicate n v zero = simp unary_clauses
  drop-replicate zero v (suc k) = rw (zero-sub (suc k))
  drop-replicate (suc n) v (suc k) = simp unary_clauses (drop-replicate n v k)

  pub take-replicate : (n : ℕ) (v : A) (k : ℕ) → k ≤ n → take k (replicate n v) ≡ replicate k v
  take-replicate n v zero h = refl
  take-replicate zero v (suc k) h = absurd (omega arith)
  take-replicate (suc n) v (suc k) h = ap (λ (l : List A). v ∷ l) (take-replicate n v k (omega arith))

  pub take-append : (n : ℕ) (xs ys : List A) → take n (xs ++ ys) ≡ take n xs ++ take (n - length xs) ys
  take-append zero xs ys = rw (zero-sub (length xs))
  take-append (suc n) [] ys = simp unary_clauses
  take-append (suc n) (x ∷ xs) ys = simp unary_clauses (ap (λ (l : List A). x ∷ l) (take-append n xs ys))

  pub drop-append : (n : ℕ) (xs ys : List A) → drop n (xs ++ ys) ≡ drop n xs ++ drop (n - length xs) ys
  drop-append zero xs ys = rw (zero-sub (length xs))
  drop-append (suc n) [] ys = simp unary_clauses
  drop-append (suc n) (x ∷ xs) ys = simp unary_clauses (drop-append n xs ys)
