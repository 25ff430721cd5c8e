-- How a walk runs over a wire: equations for each form of conversation.
use Prim.Native.Nat.{ℕ, zero, suc, ◌≤◌}
use mathlib.Core.Bool.{Bool, true, false, cond}
use mathlib.Core.List.{List, [], ◌∷◌}
use mathlib.Core.Path.{◌≡◌, refl, ap}
use native.Mathlib.Omega.{arith}
use lib.ListN.{length}
use borrow.Author.Tests.{le-ltb}
use Rattle.paper.specs.Count.{matching, heard_of, honest, All}
use Rattle.paper.specs.Hearing.{Id, Prefix, Heard, nothing, garble}
use Rattle.paper.specs.Walk.{◌▹◌, Walk, return, stop, select, ◌>>=◌, long, ask, is_nothing, judge, walk, Wire, Ended}
use Rattle.paper.specs.Walk.{done, stopped, run}

-- How a walk goes on below a prefix under which no id was confirmed.
unfoldable pub down : ℕ → Prefix → List Id → Walk (List Id)
down zero pre ids = stop 12
down (suc n) pre ids = do
  z ← ask (pre ▹ false)
  ids₁ ← walk n (pre ▹ false) ids z
  o ← cond (is_nothing z) (return garble) (ask (pre ▹ true))
  walk n (pre ▹ true) ids₁ o

pub walk-judge : (n : ℕ) (pre : Prefix) (ids : List Id) (h : Heard)
    → walk n pre ids h ≡ judge pre ids h (down n pre ids)
unfolding walk down
walk-judge zero pre ids h = refl
walk-judge (suc n) pre ids h = refl

pub walk-nothing : (n : ℕ) (pre : Prefix) (ids : List Id) → walk n pre ids nothing ≡ return ids
unfolding walk judge
walk-nothing zero pre ids = refl
walk-nothing (suc n) pre ids = refl

pub run-then : {A B : Type 0} (wire : Wire) (k c : ℕ) (m : Walk A) (a : A) (f : A → Walk B)
    → run wire k m ≡ (done a, c) → run wire k (m >>= f) ≡ run wire c (f a)
unfolding run ◌>>=◌
run-then wire k c (return b) a f e =
    let d : ◌≡◌ {A = Ended _} (done b) (done a) = ap (λ r. r.0) e in
    let n : k ≡ c = ap (λ r. r.1) e in
    let b≡a : b ≡ a = cc in
    rw (n, b≡a)
run-then wire k c (stop r) a f e =
    let d : ◌≡◌ {A = Ended _} (stopped r) (done a) = ap (λ r. r.0) e in
    let z : ◌≡◌ {A = ℕ} 0 1 = cc in
    absurd (omega arith)
run-then wire k c (select p m) a f e = run-then wire (suc k) c (m (wire k p)) a f e

short-heard : (xs : List Id) → All (λ x. length x ≤ 16) xs → long (heard_of xs) ≡ false
unfolding long heard_of
short-heard [] h = refl
short-heard (x ∷ []) h = le-ltb 16 (length x) h.0
short-heard (x ∷ y ∷ zs) h = refl

pub run-ask : {B : Type 0} (ids : List Id) (k : ℕ) (p : Prefix) (f : Heard → Walk B)
    → All (λ x. length x ≤ 16) (matching p ids)
    → run (honest ids) k (ask p >>= f) ≡ run (honest ids) (suc k) (f (heard_of (matching p ids)))
unfolding run ◌>>=◌ ask honest
run-ask ids k p f h = ap (λ (b : Bool). run (honest ids) (suc k)
    (cond b (stop 14) (return (heard_of (matching p ids))) >>= f)) (short-heard (matching p ids) h)
