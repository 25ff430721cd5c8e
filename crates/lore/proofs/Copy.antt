-- A loop that copies a list to the front of another: one more element, and the end of the loop. The same for a fill.
use Prim.Native.Nat.{ℕ, suc, ◌+◌, ◌<◌, ◌≤◌}
use mathlib.Core.List.{List, ◌++◌, [], ◌∷◌, append_assoc}
use mathlib.Core.Path.{◌≡◌, sym, ◌∙◌, ap}
use native.Mathlib.Numerals.{add-one}
use native.Mathlib.Omega.{arith}
use native.Mathlib.Nat.{le_of_lt}
use lib.ListN.{length, take, drop, get_or, set, replicate, length-replicate, get_or-replicate}
pub use Rattle.lore.proofs.CopyDone.{copy_done}
use lib.Seq.{drop-cons, set_at, take-suc, length-take-le}

module _ (s d l : List ℕ) (i : ℕ) (e : l ≡ take i s ++ drop i d) where
  pub copy_more : i < length s → length s ≤ length d → set l i (get_or s i 0) ≡ take (i + 1) s ++ drop (i + 1) d
  copy_more h room =
      rw (e, add-one i, take-suc s i 0 h, drop-cons d i 0 (omega arith))
      (set_at (take i s) (get_or d i 0) (drop (suc i) d) (get_or s i 0) i (length-take-le i s (le_of_lt h))
      ∙ sym (append_assoc (take i s) (get_or s i 0 ∷ []) (drop (suc i) d)))

-- A fill: the source is one value, repeated.
module _ (n v : ℕ) (d l : List ℕ) (i : ℕ) (e : l ≡ take i (replicate n v) ++ drop i d) where
  pub fill_more : i < n → n ≤ length d → set l i v ≡ take (i + 1) (replicate n v) ++ drop (i + 1) d
  fill_more h room =
      ap (set l i) (sym (get_or-replicate n i v 0 h))
      ∙ copy_more (replicate n v) d l i e (rw (length-replicate n v) h) (rw (length-replicate n v) room)

  pub fill_done : i ≤ n → n ≤ i → l ≡ replicate n v ++ drop n d
  fill_done h k =
      copy_done (replicate n v) d l i e (rw (length-replicate n v) h) (rw (length-replicate n v) k)
      ∙ ap (λ (m : ℕ). replicate n v ++ drop m d) (length-replicate n v)
