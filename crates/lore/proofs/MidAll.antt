-- A part from a place to the end, put back: what is before the place, then the part.
use Prim.Native.Nat.{ℕ, ◌-◌}
use mathlib.Core.List.{List, ◌++◌, append-nil}
use mathlib.Core.Path.{◌≡◌, ◌∙◌, ap}
use native.Mathlib.Omega.{arith}
use lib.ListN.{length, take, drop, length-drop, drop_of_length-le}
use borrow.Rule.Slice.PartMut.{put_mid}

pub mid-all : (a : ℕ) (xs ys : List ℕ) → put_mid a (length xs - a) xs ys ≡ take a xs ++ ys
mid-all a xs ys =
    ap (λ (r : List ℕ). take a xs ++ (ys ++ r))
    (drop_of_length-le (drop a xs) {i = length xs - a} (omega (arith, length-drop a xs)))
    ∙ ap (λ (r : List ℕ). take a xs ++ r) (append-nil ys)
