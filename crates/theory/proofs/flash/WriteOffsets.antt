-- The offsets of successive Writes, and how many Writes there are at one offset.
use Prim.Native.Nat.{ℕ, ◌+◌, ◌≤◌, ◌<◌}
use mathlib.Core.Bool.{Bool, true, false, cond}
use mathlib.Core.List.{List, [], ◌∷◌}
use mathlib.Core.Path.{◌≡◌, refl}
use native.Mathlib.Omega.{arith}
use lib.Dec.{ltb, eqb}
use borrow.Author.Tests.{ltb-true, ltb-false, eqb-true}
use Rattle.paper.proofs.Addresses.{below-nil, below-cons}
use Rattle.paper.specs.Answers.{below}

-- The offsets left from o on are x and then xs.
pub record First (c p o x : ℕ) (xs : List ℕ) : Type 0 where
  pub inside : o < p
  pub same : x ≡ o
  pub tail : xs ≡ below c p (o + c)

pub first : (c p o x : ℕ) (xs : List ℕ) → 0 < c → x ∷ xs ≡ below c p o → First c p o x xs
first c p o x xs pc e = go (ltb o p) refl
  where
    go : (b : Bool) → ltb o p ≡ b → First c p o x xs
    go true h =
        let m : below c p o ≡ o ∷ below c p (o + c) = below-cons c p o pc (ltb-true o p h) in
        record { inside = ltb-true o p h; same = cc; tail = cc }
    go false h =
        let m : below c p o ≡ [] = below-nil c p o (ltb-false o p h) in
        let z : ◌≡◌ {A = ℕ} 0 1 = cc in
        absurd (omega arith)

pub last : (c p o : ℕ) → 0 < c → [] ≡ below c p o → p ≤ o
last c p o pc e = go (ltb o p) refl
  where
    go : (b : Bool) → ltb o p ≡ b → p ≤ o
    go true h =
        let m : below c p o ≡ o ∷ below c p (o + c) = below-cons c p o pc (ltb-true o p h) in
        let z : ◌≡◌ {A = ℕ} 0 1 = cc in
        absurd (omega arith)
    go false h = ltb-false o p h

-- How many Writes there are at an offset, after one more at x.
pub at_most : (b : Bool) → cond b 1 0 ≤ 1
at_most true = omega arith
at_most false = omega arith

pub counted : (x a k : ℕ) → (x ≡ a → k < 17) → k ≤ 17 → cond (eqb x a) 1 0 + k ≤ 17
counted x a k h l = go (eqb x a) refl
  where
    go : (b : Bool) → eqb x a ≡ b → cond b 1 0 + k ≤ 17
    go true e = omega (arith, h (eqb-true x a e))
    go false e = omega arith

pub uncounted : (x a k : ℕ) → x < a → cond (eqb x a) 1 0 + k ≡ k
uncounted x a k l = go (eqb x a) refl
  where
    go : (b : Bool) → eqb x a ≡ b → cond b 1 0 + k ≡ k
    go true e = absurd (omega (arith, eqb-true x a e))
    go false e = omega arith
