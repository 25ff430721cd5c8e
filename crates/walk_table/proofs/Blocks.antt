-- Sixteen bytes pasted into a list: the bytes before and after them stay, and the same sixteen are read back.
use Prim.Native.Nat.{ℕ, ◌+◌, ◌-◌, ◌*◌, ◌<◌, ◌≤◌}
use mathlib.Core.List.{List, ◌++◌, append_assoc}
use mathlib.Core.Path.{◌≡◌, sym, ◌∙◌, ap, ap₂}
use native.Mathlib.Omega.{arith}
use lib.ListN.{length, take, drop, length-take, length-drop, length-append, take-append-drop}
use lib.Seq.{take_at, drop_at, length-take-le, take-add, drop-drop, take-append-le, drop-append-le}
use Rattle.walk_table.specs.Rows.{pasted}

pub length-paste : (l b : List ℕ) (at : ℕ) → at + 16 ≤ length l → length b ≡ 16 → length (pasted l at b) ≡ length l
length-paste l b at h hb = simp (length-append, length-take, length-drop) (omega arith)

pub length-pasted : (l b : List ℕ) (i n : ℕ) → i < n → length l ≡ n * 16 → length b ≡ 16
    → length (pasted l (i * 16) b) ≡ n * 16
length-pasted l b i n h hl hb = length-paste l b (i * 16) (omega arith) hb ∙ hl

-- A part that ends before place k is the same in the first k bytes.
pub part-before : (l : List ℕ) (j n k : ℕ) → j + n ≤ k → k ≤ length l → take n (drop j (take k l)) ≡ take n (drop j l)
part-before l j n k h g =
    let z : length (take k l) ≡ k = length-take-le k l g in
    sym (ap (λ (r : List ℕ). take n (drop j r)) (sym (take-append-drop k l))
    ∙ ap (take n) (drop-append-le j (take k l) (drop k l) (omega arith))
    ∙ take-append-le n (drop j (take k l)) (drop k l) (omega (arith, length-drop j (take k l))))

pub paste-own : (l : List ℕ) (at : ℕ) → pasted l at (take 16 (drop at l)) ≡ l
paste-own l at = rw (← take-add at 16 l) (take-append-drop (at + 16) l)

-- A paste inside the first of two lists; then one at the start of the second.
pub paste-in : (p q b : List ℕ) (at : ℕ) → at + 16 ≤ length p → pasted (p ++ q) at b ≡ pasted p at b ++ q
paste-in p q b at h = rw (take-append-le at p q (omega arith), drop-append-le (at + 16) p q h) (simp append_assoc)

paste-seam : (p q b : List ℕ) (n : ℕ) → length p ≡ n → pasted (p ++ q) n b ≡ p ++ (b ++ drop 16 q)
paste-seam p q b n e = rw (take_at p q n e, ← drop-drop 16 n (p ++ q), drop_at p q n e, append_assoc)

module _ (l a : List ℕ) (at : ℕ) (room : at + 16 ≤ length l) (ha : length a ≡ 16) where
  front : length (take at l) ≡ at
  front = length-take-le at l (omega arith)

  take-pasted : take at (pasted l at a) ≡ take at l
  take-pasted = rw (append_assoc, take_at (take at l) (a ++ drop (at + 16) l) at front)

  drop-pasted : drop (at + 16) (pasted l at a) ≡ drop (at + 16) l
  drop-pasted = drop_at (take at l ++ a) (drop (at + 16) l) (at + 16)
      (omega (arith, length-append (take at l) a, front))

  pub block_same : take 16 (drop at (pasted l at a)) ≡ a
  block_same = rw (append_assoc, drop_at (take at l) (a ++ drop (at + 16) l) at front)
      (take_at a (drop (at + 16) l) 16 ha)

  pub block-after : (j : ℕ) → at + 16 ≤ j → drop j (pasted l at a) ≡ drop j l
  block-after j h =
      let z : j ≡ at + 16 + (j - (at + 16)) = omega arith in
      rw z (rw (← drop-drop (j - (at + 16)) (at + 16) (pasted l at a), drop-pasted)
      (drop-drop (j - (at + 16)) (at + 16) l))

  pub paste-same : (b : List ℕ) → pasted (pasted l at a) at b ≡ pasted l at b
  paste-same b = ap₂ (λ (x y : List ℕ). x ++ b ++ y) take-pasted drop-pasted

  pub paste-comm : (b : List ℕ) (j : ℕ) → at + 16 ≤ j → j + 16 ≤ length l
      → pasted (pasted l at a) j b ≡ pasted (pasted l j b) at a
  paste-comm b j h g = rw (take-append-drop j l) at (go (take j l) (drop j l) (length-take-le j l (omega arith)))
    where
      go : (p q : List ℕ) → length p ≡ j → pasted (pasted (p ++ q) at a) j b ≡ pasted (pasted (p ++ q) j b) at a
      go p q e =
          ap (λ (r : List ℕ). pasted r j b) (paste-in p q a at (omega arith))
          ∙ paste-seam (pasted p at a) q b j (length-paste p a at (omega arith) ha ∙ e)
          ∙ sym (ap (λ (r : List ℕ). pasted r at a) (paste-seam p q b j e)
          ∙ paste-in p (b ++ drop 16 q) a at (omega arith))
