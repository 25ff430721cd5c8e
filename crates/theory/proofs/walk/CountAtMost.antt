-- For n ids of at most L bytes under a prefix of p bits, the count of Selects is at most 2 + n * (8 L - p + 2).
use Prim.Native.Nat.{ℕ, zero, suc, ◌+◌, ◌-◌, ◌*◌, ◌≤◌}
use mathlib.Core.Bool.{Bool, true, false, cond}
use mathlib.Core.List.{List, [], ◌∷◌}
use mathlib.Core.Path.{◌≡◌, refl, ap, subst}
use native.Mathlib.Omega.{arith}
use lib.Dec.{eqb, ltb}
use lib.ListN.{length, length-append, take}
use Rattle.paper.specs.Count.{matching, All, Pods, count, some_below, sum_over, sum_under, alone_under, forked, selects}
use Rattle.paper.specs.Hearing.{Id, Prefix, bits_of}
use Rattle.paper.specs.Walk.{◌▹◌}
use Rattle.theory.specs.PrefixFree.{Apart, own_alone, own_selects}
use Rattle.theory.proofs.walk.CountSums.{sum-quiet}
use Rattle.theory.proofs.EachMember.{all-weaken}
use Rattle.theory.proofs.walk.MatchingIds.{matching-matching, all-matches, all-matching, Under, under-child}
use Rattle.theory.proofs.walk.MatchingIds.{two-shorter, two-sides, part_length}
use Rattle.theory.proofs.walk.OneLength.{pods-apart, selects-own}

cond-le : (b : Bool) (x y n : ℕ) → x ≤ n → y ≤ n → cond b x y ≤ n
cond-le true x y n h g = h
cond-le false x y n h g = g

alone-le : (S : List Id) (p : ℕ) (xs : List Id) → sum_over (own_alone S p) xs ≤ 2 * length xs
unfolding sum_over alone_under
alone-le S p [] = omega arith
alone-le S p (x ∷ xs) =
    omega (
      arith,
      alone-le S p xs,
      cond-le
          (some_below (8 * length x - p) (λ i. eqb (count S (take (p + i) (bits_of x))) 1)) 2 0 2 (omega arith)
          (omega arith),
    )

forked-le : (S : List Id) (q : Prefix) → forked S q ≤ 2
unfolding forked
forked-le S q = cond-le (ltb 1 (count S q)) _ 0 2
    (cond-le (ltb 0 (count S (q ▹ false))) 2 1 2 (omega arith) (omega arith)) (omega arith)

fork-arith : (f s₀ s₁ c₀ c₁ m : ℕ) → f ≤ 2 → 2 ≤ c₀ + c₁ → s₀ ≤ c₀ * m → s₁ ≤ c₁ * m → f + (s₀ + s₁) ≤ (c₀ + c₁) * suc m
fork-arith f s₀ s₁ c₀ c₁ m h g a b = omega arith

module _ (S : List Id) (L : ℕ) where
  -- The ids that match a prefix have at most L bytes.
  abbrev Within : Prefix → Type 0
  Within q = All (λ x. length x ≤ L) (matching q S)

  within-child : (q : Prefix) (b : Bool) → Within q → Within (q ▹ b)
  within-child q b w = subst (All (λ x. length x ≤ L)) (matching-matching q (b ∷ []) S)
      (all-matching (q ▹ b) _ (matching q S) w)

  forks-le : (d : ℕ) (q : Prefix) → Under q (matching q S) → Within q
      → sum_under d q (forked S) ≤ count S q * (8 * L - length q)
  unfolding sum_under
  forks-le zero q u w = omega arith
  forks-le (suc d) q u w =
      go (forks-le d (q ▹ false) (under-child q (false ∷ []) S u) (within-child q false w))
      (forks-le d (q ▹ true) (under-child q (true ∷ []) S u) (within-child q true w))
      (matching q S) refl
    where
      less : (b : Bool) → 8 * L - length (q ▹ b) ≡ 8 * L - suc (length q)
      less b = let n = length-append q (b ∷ []) in omega arith

      go : sum_under d (q ▹ false) (forked S) ≤ count S (q ▹ false) * (8 * L - length (q ▹ false))
          → sum_under d (q ▹ true) (forked S) ≤ count S (q ▹ true) * (8 * L - length (q ▹ true))
          → (xs : List Id) → matching q S ≡ xs → sum_under (suc d) q (forked S) ≤ count S q * (8 * L - length q)
      go z o [] e = rw (sum-quiet S (suc d) q (omega (arith, ap length e))) (omega arith)
      go z o (x ∷ []) e = rw (sum-quiet S (suc d) q (omega (arith, ap length e))) (omega arith)
      go z o (x ∷ y ∷ zs) e =
          let v : Under q (x ∷ y ∷ zs) = subst (Under q) e u in
          let wx : length x ≤ L = (subst (All (λ x. length x ≤ L)) e w).0 in
          let one_less : 8 * L - length q ≡ suc (8 * L - suc (length q)) = omega (arith, two-shorter q x y zs v) in
          let parts : count S (q ▹ false) + count S (q ▹ true) ≡ count S q =
          rw (matching-matching q (false ∷ []) S, matching-matching q (true ∷ []) S) at
          (part_length q (matching q S) (rw e (two-sides q x y zs v))) in
          rw (one_less, ← parts)
          (fork-arith (forked S q) _ _ (count S (q ▹ false)) (count S (q ▹ true)) (8 * L - suc (length q))
          (forked-le S q) (rw parts (rw e (omega arith)))
          (rw (less false) at z) (rw (less true) at o))

  pub own-most : (pre : Prefix) → Apart (matching pre S) → All (λ x. length x ≤ L) (matching pre S)
      → own_selects S pre ≤ 2 + count S pre * (8 * L - length pre + 2)
  unfolding own_selects
  own-most pre apart w =
      omega (
        arith,
        alone-le S (length pre) (matching pre S),
        forks-le (129 - length pre) pre
            (record { matched = all-matches pre S; separate = apart.separate; short = apart.short }) w,
      )

  pub selects-most : (pre : Prefix) → Pods L (matching pre S)
      → selects S L pre ≤ 2 + count S pre * (8 * L - length pre + 2)
  selects-most pre pods = rw (← selects-own L S pre pods.sized)
      (own-most pre (pods-apart L (matching pre S) pods)
      (all-weaken _ _ (matching pre S) (λ x n. omega arith) pods.sized))
