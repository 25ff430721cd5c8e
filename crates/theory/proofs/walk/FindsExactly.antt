-- On an honest wire a discovery finds exactly the ids that match, sorted, after exactly the Selects counted from them.
use Prim.Native.Nat.{ℕ, zero, suc, ◌+◌, ◌-◌, ◌*◌, ◌≤◌, ◌<◌}
use mathlib.Core.Bool.{Bool, true, false, not, cond}
use mathlib.Core.List.{List, [], ◌∷◌, ◌++◌}
use mathlib.Core.Path.{◌≡◌, refl, sym, ◌∙◌, ap, subst}
use native.Mathlib.Nat.{add-zero}
use native.Mathlib.Numerals.{add-one}
use native.Mathlib.Omega.{arith}
use lib.Dec.{ltb}
use lib.ListN.{drop, length, length-append, length-drop, take}
use lib.Seq.{take-append-le, take-length}
use borrow.Author.Tests.{lt-ltb, ltb-false, ltb-true}
use Rattle.paper.specs.Count.{matching, heard_of, honest, All, count, sum_over, sum_under, forked}
use Rattle.paper.specs.Hearing.{Id, Prefix, bits_of, matches, Heard, one, garble}
use Rattle.paper.specs.Walk.{◌▹◌, Walk, return, ◌>>=◌, ask, is_nothing, is_one, confirm_rest, confirm, keep, judge, walk}
use Rattle.paper.specs.Walk.{sort, discover, Wire, Ended, done, run}
use Rattle.paper.proofs.Bits.{bits-length}
use Rattle.theory.specs.PrefixFree.{Apart, own_alone, own_selects}
use Rattle.theory.proofs.walk.CountSums.{sum-quiet, alone-here, alone-never}
use Rattle.theory.proofs.walk.MatchingIds.{matching-yes, matching-not, matching-matching, all-matches, Under}
use Rattle.theory.proofs.walk.MatchingIds.{under-child, Side, two-shorter, two-sides, part_length, part-sum}
use Rattle.theory.proofs.walk.MatchingIds.{part-insert}
use Rattle.theory.proofs.walk.PrefixMatches.{beq-refl, beq-not, begins-child, begins-whole, same_id-refl}
use Rattle.theory.proofs.walk.RunEquations.{down, walk-judge, walk-nothing, run-then, run-ask}
use Rattle.theory.proofs.walk.SelectsSent.{Alike, discover-alike}
use Rattle.theory.proofs.walk.SortedIds.{insert_all, sort-snoc, sort-insert_all}

-- Several ids match the first j bits of q, for each j of at least p and below the length of q.
abbrev Deep : List Id → ℕ → Prefix → Type 0
Deep ids p q = (j : ℕ) → p ≤ j → j < length q → 1 < count ids (take j q)

deep-child : (S : List Id) (p : ℕ) (q : Prefix) (b : Bool) → Deep S p q → 1 < count S q → Deep S p (q ▹ b)
deep-child S p q b d c j h l =
    rw (take-append-le j q (b ∷ []) (omega (arith, length-append q (b ∷ [])))) (go (ltb j (length q)) refl)
  where
    go : (t : Bool) → ltb j (length q) ≡ t → 1 < count S (take j q)
    go true e = d j h (ltb-true j (length q) e)
    go false e =
        let n : j ≡ length q = omega (arith, ltb-false j (length q) e, length-append q (b ∷ [])) in
        rw (n, take-length q) c

-- The Selects that the count gives for the walk of q, after q itself was selected.
abbrev spent : List Id → ℕ → ℕ → Prefix → ℕ
spent S p n q = sum_over (own_alone S p) (matching q S) + sum_under (suc n) q (forked S)

-- The result of the walk of q, with some ids kept and k Selects sent before it.
record Found (S : List Id) (p n : ℕ) (q : Prefix) (ids : List Id) (k : ℕ) : Type 0 where
  kept : List Id
  ran : run (honest S) k (walk n q ids (heard_of (matching q S))) ≡ (done kept, k + spent S p n q)
  sorted : sort kept ≡ insert_all (matching q S) (sort ids)
  many : length kept ≡ length ids + count S q

end-at : {A : Type 0} (a : A) {k c : ℕ} → k ≡ c → ◌≡◌ {A = Ended A × ℕ} (done a, k) (done a, c)
end-at a e = λ i. (done a, e i)

heard-many : (xs : List Id) → 1 < length xs → heard_of xs ≡ garble
unfolding heard_of
heard-many [] h = absurd (omega arith)
heard-many (x ∷ []) h = absurd (omega arith)
heard-many (x ∷ y ∷ zs) h = refl

-- 1 if some id matches the zero child. If none does, its silence saves a Select.
abbrev extra : ℕ → ℕ
extra n = cond (ltb 0 n) 1 0

forked-many : (S : List Id) (q : Prefix) → 1 < count S q → forked S q ≡ suc (extra (count S (q ▹ false)))
unfolding forked
forked-many S q h = rw (lt-ltb 1 (count S q) h) (go (ltb 0 (count S (q ▹ false))))
  where
    go : (b : Bool) → ◌≡◌ {A = ℕ} (cond b 2 1) (suc (cond b 1 0))
    go true = refl
    go false = refl

abbrev Finds : List Id → ℕ → ℕ → Type 0
Finds S p n = (q : Prefix) (ids : List Id) (k : ℕ) → length q + n ≡ 128 → Under q (matching q S) → p ≤ length q
    → Deep S p q → length ids + count S q ≤ 64
    → Found S p n q ids k

module _ (S : List Id) (p : ℕ) where
  none_found : (n : ℕ) (q : Prefix) (ids : List Id) (k : ℕ) → matching q S ≡ [] → Found S p n q ids k
  unfolding heard_of sum_over insert_all run
  none_found n q ids k e = record {
    kept = ids;
    ran = rw (sum-quiet S (suc n) q (rw e (omega arith)), e) (rw walk-nothing (end-at ids (omega arith)));
    sorted = rw e;
    many = rw e (omega arith);
  }

  child-short : (q : Prefix) (b : Bool) → Under q (matching q S) → All (λ x. length x ≤ 16) (matching (q ▹ b) S)
  child-short q b u = (under-child q (b ∷ []) S u).short

  confirmed : (q : Prefix) (k : ℕ) (x : Id) → matching q S ≡ x ∷ [] → Under q (matching q S) → p ≤ length q → Deep S p q
      → run (honest S) k (confirm q x) ≡ (done true, k + own_alone S p x)
  unfolding confirm confirm_rest matching run is_one is_nothing heard_of
  confirmed q k x e u pq deep = rw (m) (go (drop (length q) (bits_of x)) refl)
    where
      u₁ : Under q (x ∷ [])
      u₁ = subst (Under q) e u

      m : matches q x ≡ true
      m = u₁.matched.0

      child : (b : Bool) → matching (q ▹ b) S ≡ matching (q ▹ b) (x ∷ [])
      child b = sym (matching-matching q (b ∷ []) S) ∙ ap (matching (q ▹ b)) e

      go : (rest : List Bool) → drop (length q) (bits_of x) ≡ rest
          → run (honest S) k (confirm_rest q x rest) ≡ (done true, k + own_alone S p x)
      go [] d =
          let over : length (bits_of x) ≤ length q = omega (arith, ap length d, length-drop (length q) (bits_of x)) in
          let w : q ≡ bits_of x = begins-whole q (bits_of x) m over in
          let n : length q ≡ 8 * length x = ap length w ∙ bits-length x in
          let a : own_alone S p x ≡ 0 = alone-never S p (8 * length x) x
          (λ i l. subst (λ z. 1 < count S (take (p + i) z)) w (deep (p + i) (omega arith) (omega arith))) in
          end-at true (omega arith)
      go (b ∷ rest) d = run-ask S k (q ▹ b) _ (child-short q b u)
          ∙ run-ask S (suc k) (q ▹ not b) _ (child-short q (not b) u) ∙
          (let mine : matching (q ▹ b) S ≡ x ∷ [] = child b
          ∙ matching-yes (q ▹ b) x [] (begins-child q (bits_of x) b rest m d b ∙ beq-refl b) in
          let other : matching (q ▹ not b) S ≡ [] =
          child (not b) ∙ matching-not (q ▹ not b) x []
          (begins-child q (bits_of x) b rest m d (not b) ∙ beq-not b) in
          let a : own_alone S p x ≡ 2 = alone-here S p (8 * length x) x q m (ap length e) pq
          (omega (arith, ap length d, length-drop (length q) (bits_of x), bits-length x)) in
          rw (mine, other, same_id-refl x) (end-at true (omega arith)))

  one_found : (n : ℕ) (q : Prefix) (ids : List Id) (k : ℕ) (x : Id) → matching q S ≡ x ∷ [] → Under q (matching q S)
      → p ≤ length q → Deep S p q → length ids < 64
      → Found S p n q ids k
  unfolding heard_of sum_over insert_all run judge keep
  one_found n q ids k x e u pq deep l = record {
    kept = ids ++ (x ∷ []);
    ran = rw (sum-quiet S (suc n) q (rw e (omega arith)), e, walk-judge n q ids (one x))
        (run-then (honest S) k (k + own_alone S p x) (confirm q x) true _ (confirmed q k x e u pq deep)
        ∙ rw (lt-ltb (length ids) 64 l) (end-at _ (omega arith)));
    sorted = rw e (sort-snoc ids x);
    many = rw e (length-append ids (x ∷ []));
  }

  second_run : (q : Prefix) (c : ℕ) (zs : List Id) (f : Heard → Walk (List Id)) → (length zs ≡ 0 → 1 < count S q)
      → All (λ x. length x ≤ 16) (matching q S)
      → run (honest S) c (cond (is_nothing (heard_of zs)) (return garble) (ask q) >>= f)
      ≡ run (honest S) (c + extra (length zs)) (f (heard_of (matching q S)))
  unfolding heard_of is_nothing ◌>>=◌
  second_run q c [] f h sh = rw (heard-many (matching q S) (h refl), add-zero c)
  second_run q c (x ∷ []) f h sh = rw (add-one c) (run-ask S c q f sh)
  second_run q c (x ∷ y ∷ zs) f h sh =
      rw (lt-ltb 0 (suc (suc (length zs))) (omega arith), add-one c) (run-ask S c q f sh)

  module _ (n : ℕ) (ih : Finds S p n) (q : Prefix) (ids : List Id) (k : ℕ) (nq : length q + suc n ≡ 128)
      (u : Under q (matching q S)) (pq : p ≤ length q)
      (deep : Deep S p q) (room : length ids + count S q ≤ 64) (parted : All (Side q) (matching q S))
      (several : 1 < count S q) where
    lengths : count S (q ▹ false) + count S (q ▹ true) ≡ count S q
    lengths = rw (matching-matching q (false ∷ []) S, matching-matching q (true ∷ []) S) at
        (part_length q (matching q S) parted)

    sums : sum_over (own_alone S p) (matching (q ▹ false) S) + sum_over (own_alone S p) (matching (q ▹ true) S)
        ≡ sum_over (own_alone S p) (matching q S)
    sums = rw (matching-matching q (false ∷ []) S, matching-matching q (true ∷ []) S) at
        (part-sum q (own_alone S p) (matching q S) parted)

    inserts : insert_all (matching (q ▹ true) S) (insert_all (matching (q ▹ false) S) (sort ids))
        ≡ insert_all (matching q S) (sort ids)
    inserts = rw (matching-matching q (false ∷ []) S, matching-matching q (true ∷ []) S) at
        (part-insert q (matching q S) (sort ids) parted)

    first : Found S p n (q ▹ false) ids (suc k)
    first = ih (q ▹ false) ids (suc k) (omega (arith, length-append q (false ∷ []))) (under-child q (false ∷ []) S u)
        (omega (arith, length-append q (false ∷ [])))
        (deep-child S p q false deep several) (omega (arith, lengths))

    after : ℕ
    after = suc k + spent S p n (q ▹ false) + extra (count S (q ▹ false))

    second : Found S p n (q ▹ true) first.kept after
    second = ih (q ▹ true) first.kept after (omega (arith, length-append q (true ∷ [])))
        (under-child q (true ∷ []) S u) (omega (arith, length-append q (true ∷ [])))
        (deep-child S p q true deep several) (omega (arith, lengths, first.many))

    total : after + spent S p n (q ▹ true) ≡ k + spent S p (suc n) q
    unfolding after sum_under
    total = omega (arith, sums, forked-many S q several)

    several-found : Found S p (suc n) q ids k
    unfolding judge down after
    several-found = record {
      kept = second.kept;
      ran = rw (heard-many (matching q S) several, walk-judge (suc n) q ids garble)
          (run-ask S k (q ▹ false) _ (child-short q false u)
          ∙ run-then (honest S) (suc k) (suc k + spent S p n (q ▹ false))
          (walk n (q ▹ false) ids (heard_of (matching (q ▹ false) S))) first.kept _ first.ran
          ∙ second_run (q ▹ true) (suc k + spent S p n (q ▹ false)) (matching (q ▹ false) S)
          (λ o. walk n (q ▹ true) first.kept o)
          (λ z. omega (arith, lengths)) (child-short q true u)
          ∙ second.ran ∙ end-at second.kept total);
      sorted = second.sorted ∙ ap (insert_all (matching (q ▹ true) S)) first.sorted ∙ inserts;
      many = omega (arith, first.many, second.many, lengths);
    }

  finds : (n : ℕ) → Finds S p n
  finds zero q ids k nq u pq deep room = go (matching q S) refl
    where
      go : (xs : List Id) → matching q S ≡ xs → Found S p zero q ids k
      go [] e = none_found zero q ids k e
      go (x ∷ []) e = one_found zero q ids k x e u pq deep (omega (arith, ap length e))
      go (x ∷ y ∷ zs) e = absurd (let v = subst (Under q) e u in omega (arith, two-shorter q x y zs v, v.short.0))
  finds (suc n) q ids k nq u pq deep room = go (finds n) (matching q S) refl
    where
      go : Finds S p n → (xs : List Id) → matching q S ≡ xs → Found S p (suc n) q ids k
      go ih [] e = none_found (suc n) q ids k e
      go ih (x ∷ []) e = one_found (suc n) q ids k x e u pq deep (omega (arith, ap length e))
      go ih (x ∷ y ∷ zs) e = several-found n ih q ids k nq u pq deep room
          (rw e (two-sides q x y zs (subst (Under q) e u))) (omega (arith, ap length e))

discover-honest : (S : List Id) (pre : Prefix) → length pre ≤ 128 → Apart (matching pre S)
    → run (honest S) 0 (discover pre) ≡ (done (sort (matching pre S)), own_selects S pre)
unfolding discover run sort own_selects
discover-honest S pre le apart =
    run-ask S 0 pre _ apart.short
    ∙ run-then (honest S) 1 (1 + spent S (length pre) (128 - length pre) pre)
    (walk (128 - length pre) pre [] (heard_of (matching pre S))) f.kept _ f.ran
    ∙ (λ i. (done (sorted i), total i))
  where
    f : Found S (length pre) (128 - length pre) pre [] 1
    f = finds S (length pre) (128 - length pre) pre [] 1 (omega arith)
        (record { matched = all-matches pre S; separate = apart.separate; short = apart.short }) (omega arith)
        (λ j h l. absurd (omega arith)) (omega (arith, apart.few))

    sorted : sort f.kept ≡ sort (matching pre S)
    sorted = f.sorted ∙ sym (sort-insert_all (matching pre S))

    total : suc (1 + spent S (length pre) (128 - length pre) pre) ≡ own_selects S pre
    total = let n : 129 - length pre ≡ suc (128 - length pre) = omega arith in rw n (omega arith)

-- The same on every wire that agrees with an honest wire on the Selects sent.
pub discover-apart : (wire : Wire) (S : List Id) (pre : Prefix) → Alike wire (honest S) pre → length pre ≤ 128
    → Apart (matching pre S)
    → run wire 0 (discover pre) ≡ (done (sort (matching pre S)), own_selects S pre)
discover-apart wire S pre h le apart = discover-alike wire (honest S) pre le h ∙ discover-honest S pre le apart
