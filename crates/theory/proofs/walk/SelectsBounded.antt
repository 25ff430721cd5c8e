-- A discovery under a prefix of p bits ends after at most 132 + 260 * (128 - p) Selects, whatever is heard.
use Prim.Native.Nat.{ℕ, zero, suc, ◌+◌, ◌-◌, ◌*◌, ◌≤◌, ◌<◌}
use mathlib.Core.Bool.{Bool, true, false, not, cond, true≢false}
use mathlib.Core.List.{List, [], ◌∷◌, ◌++◌}
use mathlib.Core.Path.{◌≡◌, refl}
use native.Mathlib.Nat.{mul-le-mul_left}
use native.Mathlib.Omega.{arith}
use lib.Dec.{T, ltb, ltb→lt}
use lib.ListN.{drop, length, length-append}
use Rattle.paper.specs.Count.{limit}
use Rattle.paper.specs.Hearing.{Id, Prefix, bits_of, matches, Heard, nothing, one, unaddressed, garble}
use Rattle.paper.specs.Walk.{◌▹◌, Walk, return, stop, select, ◌>>=◌, ask, is_nothing, confirm_rest, confirm, keep, judge}
use Rattle.paper.specs.Walk.{walk, sort, nobody, discover, Wire, Ended, done, stopped, run}
use Rattle.theory.proofs.walk.WalkRules.{Always, always-run, always-weaken, always-bind, always-ask}
use Rattle.theory.proofs.walk.RunEquations.{down, walk-judge, walk-nothing}

-- At most m Selects were sent, however the conversation ended.
unfoldable pub Within : {A : Type 0} → ℕ → Ended A → ℕ → Type 0
Within m e c = c ≤ m

confirm-bound : (pre : Prefix) (id : Id) (k : ℕ) → Always (Within (k + 2)) k (confirm pre id)
unfolding confirm confirm_rest Within
confirm-bound pre id k = go (matches pre id)
  where
    rest : (bs : List Bool) → Always (Within (k + 2)) k (confirm_rest pre id bs)
    rest [] = omega arith
    rest (b ∷ bs) = always-ask (Within (k + 2)) k (pre ▹ b) _
        (λ x l. always-ask (Within (k + 2)) (suc k) (pre ▹ not b) _ (λ y m. omega arith) (omega arith)) (omega arith)

    go : (b : Bool) → Always (Within (k + 2)) k
        (cond b (confirm_rest pre id (drop (length pre) (bits_of id))) (return false))
    go true = rest (drop (length pre) (bits_of id))
    go false = omega arith

-- A branch with n levels below it, entered with a ids kept; at its end c Selects have been sent, counted against k. If
-- it is done, it has kept at least one more id, and has taken at most 4 n Selects for each new one. If it has stopped
-- the discovery, c is at most k + 259 n - 4 n a.
Spent : ℕ → ℕ → ℕ → Ended (List Id) → ℕ → Type 0
Spent n a k (done ids) c = (a < length ids) × (length ids ≤ 64) × (c + 4 * (n * a) ≤ k + 4 * (n * length ids))
Spent n a k (stopped r) c = c + 4 * (n * a) ≤ k + 259 * n

later : (n a k l : ℕ) → k ≤ l → (e : Ended (List Id)) (c : ℕ) → Spent n a k e c → Spent n a l e c
unfolding Spent
later n a k l le (done ids) c s = (s.0, s.1, omega arith)
later n a k l le (stopped r) c s = omega arith

keep-bound : (n k c : ℕ) (ids : List Id) (id : Id) → length ids ≤ 64 → c ≤ k
    → Always (Spent n (length ids) k) c (keep ids id)
unfolding keep Spent
keep-bound n k c ids id le q = go (ltb (length ids) 64) (λ t. ltb→lt (length ids) 64 t)
  where
    go : (b : Bool) → (T b → length ids < 64)
        → Always (Spent n (length ids) k) c (cond b (return (ids ++ (id ∷ []))) (stop 15))
    go true lt = let l : length ids < 64 = lt tt in rw length-append (omega arith, omega arith, omega arith)
    go false lt = omega (arith, mul-le-mul_left n le)

judge-bound : (n k : ℕ) (pre : Prefix) (ids : List Id) (h : Heard) (below : Walk (List Id)) → length ids ≤ 64
    → is_nothing h ≡ false
    → ((c : ℕ) → Always (Spent n (length ids) c) c below)
    → Always (Spent n (length ids) (k + 2)) k (judge pre ids h below)
unfolding judge is_nothing Spent Within
judge-bound n k pre ids nothing below le e d = absurd (true≢false e)
judge-bound n k pre ids (one id) below le e d =
    always-bind (Within (k + 2)) (Spent n (length ids) (k + 2)) k (confirm pre id) _ (confirm-bound pre id k) held
    (λ r c q. omega (arith, mul-le-mul_left n le))
  where
    held : (b : Bool) (c : ℕ) → Within (k + 2) (done b) c
        → Always (Spent n (length ids) (k + 2)) c (cond b (keep ids id) below)
    held true c q = keep-bound n (k + 2) c ids id le q
    held false c q = always-weaken (Spent n (length ids) c) (Spent n (length ids) (k + 2)) c below (d c)
        (later n (length ids) c (k + 2) q)
judge-bound n k pre ids unaddressed below le e d = omega (arith, mul-le-mul_left n le)
judge-bound n k pre ids garble below le e d =
    always-weaken (Spent n (length ids) k) (Spent n (length ids) (k + 2)) k below (d k)
    (later n (length ids) k (k + 2) (omega arith))

-- The bound for a walk of any prefix that can grow by n bits and is not silent.
abbrev Walks : ℕ → Type 0
Walks n = (k : ℕ) (pre : Prefix) (ids : List Id) (h : Heard) → length ids ≤ 64 → is_nothing h ≡ false
    → Always (Spent n (length ids) (k + 2)) k (walk n pre ids h)

module _ (n k : ℕ) (pre : Prefix) (ids : List Id) (le : length ids ≤ 64) (ih : Walks n) where
  -- The zero child was silent.
  silent : Always (Spent (suc n) (length ids) k) (suc k) (walk n (pre ▹ true) ids garble)
  unfolding Spent is_nothing
  silent = always-weaken (Spent n (length ids) (suc k + 2)) (Spent (suc n) (length ids) k) (suc k)
      (walk n (pre ▹ true) ids garble) (ih (suc k) (pre ▹ true) ids garble le refl) more
    where
      more : (e : Ended (List Id)) (c : ℕ) → Spent n (length ids) (suc k + 2) e c → Spent (suc n) (length ids) k e c
      more (done js) c s = (s.0, s.1, omega arith)
      more (stopped r) c s = omega arith

  -- After the zero child the ids js are kept, and the one child is not silent.
  loud : (js : List Id) (c : ℕ) → Spent n (length ids) (suc k + 2) (done js) c → (o : Heard) → is_nothing o ≡ false
      → Always (Spent (suc n) (length ids) k) (suc c) (walk n (pre ▹ true) js o)
  unfolding Spent
  loud js c s o e = always-weaken (Spent n (length js) (suc c + 2)) (Spent (suc n) (length ids) k) (suc c)
      (walk n (pre ▹ true) js o) (ih (suc c) (pre ▹ true) js o s.1 e) more
    where
      more : (e : Ended (List Id)) (d : ℕ) → Spent n (length js) (suc c + 2) e d → Spent (suc n) (length ids) k e d
      more (done is) d t = (omega arith, t.1, omega arith)
      more (stopped r) d t = omega arith

  second : (js : List Id) (c : ℕ) → Spent n (length ids) (suc k + 2) (done js) c → (o : Heard)
      → Always (Spent (suc n) (length ids) k) (suc c) (walk n (pre ▹ true) js o)
  unfolding Spent is_nothing
  second js c s nothing = rw walk-nothing (s.0, s.1, omega arith)
  second js c s (one x) = loud js c s (one x) refl
  second js c s unaddressed = loud js c s unaddressed refl
  second js c s garble = loud js c s garble refl

  both : (z : Heard) → is_nothing z ≡ false
      → Always (Spent (suc n) (length ids) k) (suc k)
      (walk n (pre ▹ false) ids z >>= λ js. ask (pre ▹ true) >>= λ o. walk n (pre ▹ true) js o)
  unfolding Spent
  both z e = always-bind (Spent n (length ids) (suc k + 2)) (Spent (suc n) (length ids) k) (suc k)
      (walk n (pre ▹ false) ids z) _ (ih (suc k) (pre ▹ false) ids z le e)
      (λ js c s. always-ask (Spent (suc n) (length ids) k) c (pre ▹ true) (λ o. walk n (pre ▹ true) js o)
      (λ o l. second js c s o) (omega (arith, mul-le-mul_left n s.1)))
      (λ r c s. omega arith)

  down-bound : Always (Spent (suc n) (length ids) k) k (down (suc n) pre ids)
  unfolding down Spent is_nothing ◌>>=◌
  down-bound = always-ask (Spent (suc n) (length ids) k) k (pre ▹ false) _ (λ z l. heard z)
      (omega (arith, mul-le-mul_left n le))
    where
      heard : (z : Heard) → Always (Spent (suc n) (length ids) k) (suc k) (do
        ids₁ ← walk n (pre ▹ false) ids z
        o ← cond (is_nothing z) (return garble) (ask (pre ▹ true))
        walk n (pre ▹ true) ids₁ o)
      heard nothing = rw walk-nothing silent
      heard (one x) = both (one x) refl
      heard unaddressed = both unaddressed refl
      heard garble = both garble refl

walk-bound : (n : ℕ) → Walks n
unfolding down Spent
walk-bound zero k pre ids h le e =
    rw (walk-judge zero pre ids h) (judge-bound zero k pre ids h (stop 12) le e (λ c. omega arith))
walk-bound (suc n) k pre ids h le e =
    rw (walk-judge (suc n) pre ids h)
    (judge-bound (suc n) k pre ids h _ le e (λ c. down-bound n c pre ids le (walk-bound n)))

pub discover-within : (pre : Prefix) → Always (Within (limit pre)) 0 (discover pre)
unfolding discover Spent Within is_nothing ◌>>=◌
discover-within pre = always-ask (Within m) 0 pre _ (λ h l. heard h) (omega arith)
  where
    n : ℕ
    n = 128 - length pre

    m : ℕ
    m = 132 + 260 * n

    body : Heard → Walk (List Id)
    body h = walk n pre [] h >>= λ ids. select nobody (λ _. return (sort ids))

    loudly : (h : Heard) → is_nothing h ≡ false → Always (Within m) 1 (body h)
    loudly h e = always-bind (Spent n 0 (1 + 2)) (Within m) 1 (walk n pre [] h) _
        (walk-bound n 1 pre [] h (omega arith) e)
        (λ ids c s x. omega (arith, mul-le-mul_left n s.1)) (λ r c s. omega arith)

    heard : (h : Heard) → Always (Within m) 1 (body h)
    heard nothing = rw walk-nothing (λ x. omega arith)
    heard (one x) = loudly (one x) refl
    heard unaddressed = loudly unaddressed refl
    heard garble = loudly garble refl

pub discover-bound : (wire : Wire) (pre : Prefix) → (run wire 0 (discover pre)).1 ≤ limit pre
unfolding Within
discover-bound wire pre = always-run (Within (limit pre)) wire 0 (discover pre) (discover-within pre)
