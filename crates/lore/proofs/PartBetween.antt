-- The part of a list from one place to another.
use Prim.Native.Nat.{ℕ, zero, suc, ◌-◌}
use mathlib.Core.List.{List, [], ◌∷◌}
use mathlib.Core.Path.{◌≡◌}
use native.Mathlib.Nat.{sub-zero, zero-sub, suc-sub-suc}
use native.Mathlib.Omega.{arith}
use lib.ListN.{take, drop}
use lib.Seq.{take_all}

pub part-between : (a n : ℕ) (xs : List ℕ) → take (n - a) (drop a xs) ≡ drop a (take n xs)
part-between zero n xs = rw (sub-zero n)
part-between (suc a) zero xs = rw (zero-sub (suc a))
part-between (suc a) (suc n) [] = take_all (suc n - suc a) [] (omega arith)
part-between (suc a) (suc n) (x ∷ xs) = rw (suc-sub-suc n a) (part-between a n xs)
