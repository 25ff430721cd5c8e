-- Whatever is heard, the ids that a discovery lists begin with its prefix and are sorted, and none is a prefix of
-- another.
use Prim.Native.Nat.{ℕ, zero, suc, ◌-◌, ◌≤◌, ◌<◌}
use mathlib.Core.Bool.{Bool, true, false, not, cond, false≢true, true≢false}
use mathlib.Core.List.{List, [], ◌∷◌, ◌++◌, append_assoc, append-nil}
use mathlib.Core.Path.{◌≡◌, refl, sym, ◌∙◌, ap, subst}
use native.Mathlib.Omega.{arith}
use lib.Dec.{ltb}
use lib.ListN.{drop, length, length-append}
use borrow.Author.Tests.{ltb-false, ltb-true}
use Rattle.paper.specs.Count.{All, Distinct}
use Rattle.paper.specs.Hearing.{Id, Prefix, bits_of, matches, Heard, nothing, one, unaddressed, garble}
use Rattle.paper.specs.Walk.{◌▹◌, Walk, return, stop, select, ◌>>=◌, long, ask, is_nothing, confirm_rest, confirm, keep}
use Rattle.paper.specs.Walk.{judge, walk, sort, nobody, discover, Wire, Ended, done, stopped, run}
use Rattle.theory.specs.PrefixFree.{Unlike, Separate, Apart, Sorted}
use Rattle.theory.proofs.walk.WalkRules.{Always, always-run, always-weaken, always-bind, always-ask}
use Rattle.theory.proofs.EachMember.{all-weaken, all_append}
use Rattle.theory.proofs.walk.PrefixMatches.{begins-refl, begins-front, begins-parted}
use Rattle.theory.proofs.walk.RunEquations.{down, walk-judge}
use Rattle.theory.proofs.walk.SortedIds.{sort-all, sort-length, sort_sorted, sort-separate}

-- The ids js are the ids kept before, and new ones that match q.
record Grown (q : Prefix) (ids js : List Id) : Type 0 where
  new : List Id
  grown : js ≡ ids ++ new
  matched : All (λ x. matches q x ≡ true) new
  separate : Separate new
  short : All (λ x. length x ≤ 16) new
  few : length js ≤ 64

abbrev Grows : Prefix → List Id → Ended (List Id) → ℕ → Type 0
Grows q ids (done js) c = Grown q ids js
Grows q ids (stopped r) c = Unit {0}

none-grown : (q : Prefix) (ids : List Id) → length ids ≤ 64 → Grown q ids ids
none-grown q ids le = record {
  new = [];
  grown = sym (append-nil ids);
  matched = tt;
  separate = tt;
  short = tt;
  few = le;
}

one-grown : (q : Prefix) (ids : List Id) (x : Id) → matches q x ≡ true → length x ≤ 16 → length ids < 64
    → Grown q ids (ids ++ (x ∷ []))
one-grown q ids x m s l = record {
  new = x ∷ [];
  grown = refl;
  matched = (m, tt);
  separate = (tt, tt);
  short = (s, tt);
  few = omega (arith, length-append ids (x ∷ []));
}

separate-append : (xs ys : List Id) → Separate xs → Separate ys → All (λ x. All (Unlike x) ys) xs → Separate (xs ++ ys)
separate-append [] ys h g u = g
separate-append (x ∷ xs) ys h g u = (all_append (Unlike x) xs ys h.0 u.0, separate-append xs ys h.1 g u.1)

-- Ids kept under the zero child and then under the one child are kept under the prefix.
both-grown : (q : Prefix) (ids js ks : List Id) → Grown (q ▹ false) ids js → Grown (q ▹ true) js ks → Grown q ids ks
both-grown q ids js ks z o = record {
  new = z.new ++ o.new;
  grown = o.grown ∙ ap (◌++ o.new) z.grown ∙ append_assoc ids z.new o.new;
  matched = all_append _ z.new o.new (above false z.new z.matched) (above true o.new o.matched);
  separate = separate-append z.new o.new z.separate o.separate
      (all-weaken _ _ z.new (λ x m. all-weaken _ _ o.new (λ y n. parted x y m n) o.matched) z.matched);
  short = all_append _ z.new o.new z.short o.short;
  few = o.few;
}
  where
    above : (b : Bool) (xs : List Id) → All (λ x. matches (q ▹ b) x ≡ true) xs → All (λ x. matches q x ≡ true) xs
    above b xs = all-weaken _ _ xs (λ x. begins-front q (b ∷ []) (bits_of x))

    parted : (x y : Id) → matches (q ▹ false) x ≡ true → matches (q ▹ true) y ≡ true → Unlike x y
    parted x y m n = (begins-parted q (bits_of x) (bits_of y) false m n, begins-parted q (bits_of y) (bits_of x) true n m)

abbrev Confirmed : Prefix → Id → Ended Bool → ℕ → Type 0
Confirmed q id (done held) c = held ≡ true → matches q id ≡ true
Confirmed q id (stopped r) c = Unit {0}

confirm-confirms : (q : Prefix) (id : Id) (k : ℕ) → Always (Confirmed q id) k (confirm q id)
unfolding confirm confirm_rest
confirm-confirms q id k = go (matches q id) refl (drop (length q) (bits_of id))
  where
    go : (b : Bool) → matches q id ≡ b → (rest : List Bool)
        → Always (Confirmed q id) k (cond b (confirm_rest q id rest) (return false))
    go true m [] = λ e. m
    go true m (b ∷ rest) = always-ask (Confirmed q id) k (q ▹ b) _
        (λ x l. always-ask (Confirmed q id) (suc k) (q ▹ not b) _ (λ y l e. m) tt) tt
    go false m rest = λ e. absurd (false≢true e)

judge-grows : (q : Prefix) (ids : List Id) (h : Heard) (below : Walk (List Id)) (k : ℕ) → length ids ≤ 64
    → long h ≡ false
    → ((c : ℕ) → Always (Grows q ids) c below) → Always (Grows q ids) k (judge q ids h below)
unfolding judge long keep
judge-grows q ids nothing below k le e d = none-grown q ids le
judge-grows q ids (one id) below k le e d =
    always-bind (Confirmed q id) (Grows q ids) k (confirm q id) _ (confirm-confirms q id k) held (λ r c s. tt)
  where
    kept : (c : ℕ) → matches q id ≡ true → (b : Bool) → ltb (length ids) 64 ≡ b
        → Always (Grows q ids) c (cond b (return (ids ++ (id ∷ []))) (stop 15))
    kept c m true l = one-grown q ids id m (ltb-false 16 (length id) e) (ltb-true (length ids) 64 l)
    kept c m false l = tt

    held : (b : Bool) (c : ℕ) → (b ≡ true → matches q id ≡ true) → Always (Grows q ids) c (cond b (keep ids id) below)
    held true c m = kept c (m refl) (ltb (length ids) 64) refl
    held false c m = d c
judge-grows q ids unaddressed below k le e d = tt
judge-grows q ids garble below k le e d = d k

walk-grows : (n : ℕ) (q : Prefix) (ids : List Id) (h : Heard) (k : ℕ) → length ids ≤ 64 → long h ≡ false
    → Always (Grows q ids) k (walk n q ids h)
unfolding down long ◌>>=◌
walk-grows zero q ids h k le e = rw (walk-judge zero q ids h) (judge-grows q ids h _ k le e (λ c. tt))
walk-grows (suc n) q ids h k le e =
    rw (walk-judge (suc n) q ids h) (judge-grows q ids h _ k le e (λ c. descends c (walk-grows n)))
  where
    descends : (c : ℕ) → ((q : Prefix) (ids : List Id) (h : Heard) (k : ℕ) → length ids ≤ 64 → long h ≡ false
        → Always (Grows q ids) k (walk n q ids h))
        → Always (Grows q ids) c (down (suc n) q ids)
    descends c ih = always-ask (Grows q ids) c (q ▹ false) _ zeros tt
      where
        ones : (js : List Id) → Grown (q ▹ false) ids js → (o : Heard) → long o ≡ false → (d : ℕ)
            → Always (Grows q ids) d (walk n (q ▹ true) js o)
        ones js g o l d = always-weaken (Grows (q ▹ true) js) (Grows q ids) d (walk n (q ▹ true) js o)
            (ih (q ▹ true) js o d g.few l) joins
          where
            joins : (e : Ended (List Id)) (c : ℕ) → Grows (q ▹ true) js e c → Grows q ids e c
            joins (done ks) c t = both-grown q ids js ks g t
            joins (stopped r) c t = tt

        second : (js : List Id) → Grown (q ▹ false) ids js → (silent : Bool) (d : ℕ)
            → Always (Grows q ids) d (cond silent (return garble) (ask (q ▹ true)) >>= λ o. walk n (q ▹ true) js o)
        second js g true d = ones js g garble refl d
        second js g false d = always-ask (Grows q ids) d (q ▹ true) _ (λ o l. ones js g o l (suc d)) tt

        zeros : (z : Heard) → long z ≡ false
            → Always (Grows q ids) (suc c)
            (walk n (q ▹ false) ids z >>= λ js. cond (is_nothing z) (return garble) (ask (q ▹ true)) >>= λ o. walk n
            (q ▹ true) js o)
        zeros z l = always-bind (Grows (q ▹ false) ids) (Grows q ids) (suc c) (walk n (q ▹ false) ids z) _
            (ih (q ▹ false) ids z (suc c) le l)
            (λ js d g. second js g (is_nothing z) d) (λ r d s. tt)

-- What holds of the ids that a discovery lists.
pub record Listed (pre : Prefix) (ids : List Id) : Type 0 where
  pub apart : Apart ids
  pub sorted : Sorted ids
  pub matched : All (λ x. matches pre x ≡ true) ids

abbrev Lists : Prefix → Ended (List Id) → ℕ → Type 0
Lists pre (done ids) c = Listed pre ids
Lists pre (stopped r) c = Unit {0}

grown-listed : (pre : Prefix) (js : List Id) → Grown pre [] js → Listed pre (sort js)
grown-listed pre js g = record {
  apart = record {
    few = rw (sort-length js) g.few;
    separate = sort-separate js (rw g.grown g.separate);
    short = sort-all _ js (rw g.grown g.short);
  };
  sorted = sort_sorted js;
  matched = sort-all _ js (rw g.grown g.matched);
}

discover-lists : (pre : Prefix) → Always (Lists pre) 0 (discover pre)
unfolding discover
discover-lists pre = always-ask (Lists pre) 0 pre _ heard tt
  where
    heard : (h : Heard) → long h ≡ false
        → Always (Lists pre) 1 (walk (128 - length pre) pre [] h >>= λ ids. select nobody (λ _. return (sort ids)))
    heard h l = always-bind (Grows pre []) (Lists pre) 1 (walk (128 - length pre) pre [] h) _
        (walk-grows (128 - length pre) pre [] h 1 (omega arith) l)
        (λ js c g x. grown-listed pre js g) (λ r c s. tt)

-- It holds on every wire.
pub kept-listed : (wire : Wire) (pre : Prefix) (ids : List Id) → (run wire 0 (discover pre)).0 ≡ done ids
    → Listed pre ids
kept-listed wire pre ids e = subst (λ r. Lists pre r (run wire 0 (discover pre)).1) e
    (always-run (Lists pre) wire 0 (discover pre) (discover-lists pre))

separate-distinct : (xs : List Id) → Separate xs → Distinct xs
separate-distinct [] h = tt
separate-distinct (x ∷ xs) h = (
  all-weaken _ _ xs (λ y u same. true≢false (sym (begins-refl (bits_of x)) ∙ ap (matches (bits_of x)) same ∙ u.0))
      h.0,
  separate-distinct xs h.1,
)

pub kept-distinct : (wire : Wire) (pre : Prefix) (ids : List Id) → (run wire 0 (discover pre)).0 ≡ done ids
    → Distinct ids × Sorted ids × (length ids ≤ 64) × All (λ id. length id ≤ 16) ids
kept-distinct wire pre ids e =
    let l = kept-listed wire pre ids e in
    (separate-distinct ids l.apart.separate, l.sorted, l.apart.few, l.apart.short)
