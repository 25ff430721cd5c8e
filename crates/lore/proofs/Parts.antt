-- The part of a list from a place to the end or to another place, lent to be read or changed: what that means for the
-- whole list.
use Prim.Native.Nat.{ℕ, ◌+◌, ◌-◌, ◌≤◌}
use mathlib.Core.List.{List, ◌++◌, append_assoc}
use mathlib.Core.Path.{◌≡◌, sym, ◌∙◌, ap}
use native.Mathlib.Omega.{arith}
use lib.ListN.{length, take, drop, replicate, length-drop}
use lib.Seq.{take_all, drop-drop, length-take-le}
use borrow.Rule.Slice.PartMut.{put_mid}
pub use Rattle.lore.proofs.MidAll.{mid-all}
pub use Rattle.lore.proofs.PartBetween.{part-between}

pub part-all : (a : ℕ) (xs : List ℕ) → take (length xs - a) (drop a xs) ≡ drop a xs
part-all a xs = take_all (length xs - a) (drop a xs) (omega (arith, length-drop a xs))

-- A list written to the front of such a part.
pub put-part : (at : ℕ) (s b d : List ℕ) → d ≡ s ++ drop (length s) (take (length b - at) (drop at b))
    → put_mid at (length b - at) b d ≡ take at b ++ s ++ drop (at + length s) b
put-part at s b d e =
    mid-all at b d
    ∙ ap (λ (r : List ℕ). take at b ++ r)
    (e ∙ ap (λ (r : List ℕ). s ++ drop (length s) r) (part-all at b)
    ∙ ap (λ (r : List ℕ). s ++ r) (drop-drop (length s) at b))
    ∙ sym (append_assoc (take at b) s (drop (at + length s) b))

-- The part of k elements from a place on, written anew; the same with one value in each place.
pub mid-is : (a k : ℕ) (xs ys : List ℕ) → put_mid a k xs ys ≡ take a xs ++ ys ++ drop (a + k) xs
mid-is a k xs ys = ap (λ (r : List ℕ). take a xs ++ (ys ++ r)) (drop-drop k a xs)
    ∙ sym (append_assoc (take a xs) ys (drop (a + k) xs))

pub part-filled : (a k v : ℕ) (xs ys : List ℕ) → a + k ≤ length xs → ys ≡ replicate (length (take k (drop a xs))) v
    → ys ≡ replicate k v
part-filled a k v xs ys h e =
    e ∙ ap (λ (n : ℕ). replicate n v) (length-take-le k (drop a xs) (omega (arith, length-drop a xs)))
