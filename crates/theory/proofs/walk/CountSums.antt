-- The sums in document 01's count of Selects: when prefixes add nothing, and whether an id adds 2.
use Prim.Native.Nat.{ℕ, zero, suc, ◌+◌, ◌-◌, ◌≤◌, ◌<◌}
use mathlib.Core.Bool.{Bool, true, false, ◌||◌, or-true}
use mathlib.Core.List.{List}
use mathlib.Core.Path.{◌≡◌, refl, sym, ◌∙◌, ap}
use native.Mathlib.Omega.{arith}
use lib.Dec.{eqb}
use lib.ListN.{length, take}
use borrow.Author.Tests.{eq-eqb, eqb-false, eqb-true, le-ltb, ne_eqb}
use Rattle.paper.specs.Count.{count, some_below, sum_under, alone_under, forked}
use Rattle.paper.specs.Hearing.{Id, Prefix, bits_of, matches}
use Rattle.paper.specs.Walk.{◌▹◌}
use Rattle.theory.proofs.walk.MatchingIds.{count-child}
use Rattle.theory.proofs.walk.PrefixMatches.{begins-take}

pub sum-quiet : (ids : List Id) (d : ℕ) (q : Prefix) → count ids q ≤ 1 → sum_under d q (forked ids) ≡ 0
unfolding sum_under forked
sum-quiet ids zero q h = refl
sum-quiet ids (suc d) q h =
    rw (
      le-ltb 1 (count ids q) h,
      sum-quiet ids d (q ▹ false) (omega (arith, count-child ids q false)),
      sum-quiet ids d (q ▹ true) (omega (arith, count-child ids q true)),
    )

some-true : (n : ℕ) (test : ℕ → Bool) (i : ℕ) → i < n → test i ≡ true → some_below n test ≡ true
unfolding some_below
some-true zero test i h e = absurd (omega arith)
some-true (suc n) test i h e = go (some-true n test i) (eqb i n) refl
  where
    go : (i < n → test i ≡ true → some_below n test ≡ true) → (b : Bool) → eqb i n ≡ b
        → test n || some_below n test ≡ true
    go ih true f = let t : test n ≡ true = ap test (sym (eqb-true i n f)) ∙ e in rw t
    go ih false f = let g : (i ≡ n → ⊥) = eqb-false i n f in let t = ih (omega arith) e in rw t (or-true (test n))

some-false : (n : ℕ) (test : ℕ → Bool) → ((i : ℕ) → i < n → test i ≡ false) → some_below n test ≡ false
unfolding some_below
some-false zero test h = refl
some-false (suc n) test h = rw (h n (omega arith)) (some-false n test (λ i l. h i (omega arith)))

module _ (ids : List Id) (p n : ℕ) (x : Id) where
  pub alone-here : (q : Prefix) → matches q x ≡ true → count ids q ≡ 1 → p ≤ length q → length q < n
      → alone_under ids p n x ≡ 2
  unfolding alone_under
  alone-here q m c h g =
      let k : p + (length q - p) ≡ length q = omega arith in
      let t : take (p + (length q - p)) (bits_of x) ≡ q = ap (λ j. take j (bits_of x)) k ∙ begins-take q (bits_of x) m in
      let e : count ids (take (p + (length q - p)) (bits_of x)) ≡ 1 = ap (count ids) t ∙ c in
      rw (some-true (n - p) (λ i. eqb (count ids (take (p + i) (bits_of x))) 1) (length q - p) (omega arith)
      (eq-eqb _ _ e))

  pub alone-never : ((i : ℕ) → i < n - p → 1 < count ids (take (p + i) (bits_of x))) → alone_under ids p n x ≡ 0
  unfolding alone_under
  alone-never h = rw (some-false (n - p) (λ i. eqb (count ids (take (p + i) (bits_of x))) 1)
      (λ i l. ne_eqb (count ids (take (p + i) (bits_of x))) 1 (λ e. omega (arith, h i l))))
