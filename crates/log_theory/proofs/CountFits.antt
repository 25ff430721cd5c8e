-- A conversation over records sends no more Selects than over a wire that returns these records. So a log's count is
-- below 65,536.
use Prim.Native.Nat.{ℕ, zero, suc, ◌+◌, ◌-◌, ◌≤◌, ◌<◌}
use mathlib.Core.Path.{◌≡◌, refl, ◌∙◌, ap}
use native.Mathlib.Omega.{arith}
use Rattle.paper.specs.Hearing.{Prefix, Heard, nothing, hear}
use Rattle.paper.specs.Log.{Records, missing, spoilt, next, over_records}
use Rattle.paper.specs.Walk.{Walk, return, stop, select, Wire, run, discover}
use Rattle.theory.proofs.walk.SelectsBounded.{discover-bound}
use Rattle.theory.proofs.walk.MachineIsWalk.{run-later}

-- What is heard in record j, counted from 0; nothing after the last.
unfoldable heard_in : Records → ℕ → Heard
heard_in missing j = nothing
heard_in spoilt j = nothing
heard_in (next bytes rs) zero = hear bytes
heard_in (next bytes rs) (suc j) = heard_in rs j

-- On wires that agree from Select k on, a walk ends alike.
run-same : {A : Type 0} (w : Walk A) (f g : Wire) (k : ℕ) → ((j : ℕ) (p : Prefix) → f (k + j) p ≡ g (k + j) p)
    → run f k w ≡ run g k w
unfolding run
run-same (return a) f g k e = refl
run-same (stop c) f g k e = refl
run-same (select p h) f g k e = ap (λ (x : Heard). run f (suc k) (h x)) here ∙ run-same (h (g k p)) f g (suc k) later
  where
    here : f k p ≡ g k p
    here = let z : k + 0 ≡ k = omega arith in rw z at (e 0 p)

    later : (j : ℕ) (p : Prefix) → f (suc k + j) p ≡ g (suc k + j) p
    later j p = let z : k + suc j ≡ suc k + j = omega arith in rw z at (e (suc j) p)

-- The wire that returns some records, from Select k on.
abbrev wire_of : Records → ℕ → Wire
wire_of rs k j p = heard_in rs (j - k)

within-run : {A : Type 0} (w : Walk A) (rs : Records) (k : ℕ) → (over_records w rs k).1 ≤ (run (wire_of rs k) k w).1
unfolding over_records run heard_in
within-run (return a) rs k = omega arith
within-run (stop c) rs k = omega arith
within-run (select p f) missing k = run-later (wire_of missing k) (suc k) (f (heard_in missing (k - k)))
within-run (select p f) spoilt k = run-later (wire_of spoilt k) (suc k) (f (heard_in spoilt (k - k)))
within-run (select p f) (next bytes rs) k = omega (arith, within-run (f (hear bytes)) rs (suc k), ap (λ r. r.1) same)
  where
    same : run (wire_of (next bytes rs) k) k (select p f) ≡ run (wire_of rs (suc k)) (suc k) (f (hear bytes))
    same =
        ap (λ (j : ℕ). run (wire_of (next bytes rs) k) (suc k) (f (heard_in (next bytes rs) j))) none
        ∙ run-same (f (hear bytes)) (wire_of (next bytes rs) k) (wire_of rs (suc k)) (suc k) later
      where
        none : k - k ≡ 0
        none = omega arith

        later : (j : ℕ) (p : Prefix) → heard_in (next bytes rs) (suc k + j - k) ≡ heard_in rs (suc k + j - suc k)
        later j p = ap (heard_in (next bytes rs)) one ∙ ap (heard_in rs) two
          where
            one : suc k + j - k ≡ suc j
            one = omega arith

            two : j ≡ suc k + j - suc k
            two = omega arith

pub count-fits : (p : Prefix) (rs : Records) → (over_records (discover p) rs 0).1 < 65536
count-fits pre rs = omega (arith, within-run (discover pre) rs 0, discover-bound (wire_of rs 0) pre)

pub few-selects : (pre : Prefix) (rs : Records) → (over_records (discover pre) rs 0).1 < 65536
few-selects pre rs = omega (arith, within-run (discover pre) rs 0, discover-bound (wire_of rs 0) pre)
