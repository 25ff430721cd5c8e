-- The path in its 16 bytes: with its last bit removed, and of a prefix of whole bytes.
use Prim.Native.Nat.{ℕ, zero, suc, ◌+◌, ◌-◌, ◌*◌, ◌/◌, ◌%◌, ◌^◌, ◌<◌, ◌≤◌}
use mathlib.Core.Bool.{Bool, cond}
use mathlib.Core.List.{List, [], ◌∷◌}
use mathlib.Core.Path.{◌≡◌, sym, ◌∙◌, ap, ap₂}
use native.Mathlib.Decide.{dec_lt}
use native.Mathlib.Omega.{arith}
use lib.ListN.{length, take, drop, length-drop}
use lib.Pow.{low}
use Rattle.paper.specs.Count.{All}
use Rattle.paper.specs.Hearing.{counting, bits_of, binary, packed}
use Rattle.paper.specs.Walk.{◌▹◌}
use Rattle.paper.proofs.Bits.{bits-byte}
use Rattle.paper.proofs.Packed.{binary-bits, binary-below, binary-more, packed-short, more-short, more-long}
use Rattle.paper.proofs.Packed.{packed_none}
use Rattle.theory.proofs.frames.IdBits.{bits-cons}
use Rattle.ids.specs.Paths.{cut}
use Rattle.refinement.specs.CodeWalk.{padded}

binary-cut : (q : List Bool) (b : Bool) → binary (q ▹ b) % 2 ^ length q ≡ binary q
binary-cut q b = ap (λ (n : ℕ). n % 2 ^ length q) (binary-more q b ∙ swap (binary q) (cond b 1 0 * 2 ^ length q))
    ∙ low (cond b 1 0) (length q) (binary-below q)
  where
    swap : (a b : ℕ) → a + b ≡ b + a
    swap a b = omega arith

-- Cutting within the first byte, and after it.
module _ (x : ℕ) (xs : List ℕ) (k : ℕ) where
  cut_short : k < 8 → cut (x ∷ xs) k ≡ x % 2 ^ k ∷ xs
  unfolding cut
  cut_short h = let d : k / 8 ≡ 0 = omega arith in let m : k % 8 ≡ k = omega arith in rw (d, m)

  cut-long : 8 ≤ k → cut (x ∷ xs) k ≡ x ∷ cut xs (k - 8)
  unfolding cut
  cut-long h = let d : k / 8 ≡ suc ((k - 8) / 8) = omega arith in let m : k % 8 ≡ (k - 8) % 8 = omega arith in rw (d, m)

-- Removing the last bit cuts the bytes there.
pub pack-cut : (n : ℕ) (q : List Bool) (b : Bool) → length q < 8 * n → cut (packed n (q ▹ b)) (length q) ≡ packed n q
unfolding packed
pack-cut zero q b l = absurd (omega arith)
pack-cut (suc n) q b l = go (λ h. pack-cut n (drop 8 q) b (omega (arith, length-drop 8 q))) (dec_lt (length q) 8)
  where
    go : (8 ≤ length q → cut (packed n (drop 8 q ▹ b)) (length (drop 8 q)) ≡ packed n (drop 8 q)) → Dec (length q < 8)
        → cut (packed (suc n) (q ▹ b)) (length q) ≡ packed (suc n) q
    go ih (yes h) =
        ap (λ (l : List ℕ). cut l (length q)) (more-short n q b h)
        ∙ cut_short (binary (q ▹ b)) (packed n []) (length q) h
        ∙ ap (λ (x : ℕ). x ∷ packed n []) (binary-cut q b)
        ∙ sym (packed-short n q (omega arith))
    go ih (no h) =
        ap (λ (l : List ℕ). cut l (length q)) (more-long n q b (omega arith))
        ∙ cut-long (binary (take 8 q)) (packed n (drop 8 q ▹ b)) (length q) (omega arith)
        ∙ ap (λ (l : List ℕ). binary (take 8 q) ∷ l)
        (ap (cut (packed n (drop 8 q ▹ b))) (sym (length-drop 8 q)) ∙ ih (omega arith))

-- The bits of some bytes, packed, are those bytes followed by zeros.
pub pack-bytes : (n : ℕ) (x : List ℕ) → length x ≤ n → All (λ b. b < 256) x → packed n (bits_of x) ≡ padded n x
unfolding packed bits_of counting
pack-bytes n [] h a = let e : n - 0 ≡ n = omega arith in packed_none n ∙ rw e
pack-bytes zero (b ∷ x) h a = absurd (omega arith)
pack-bytes (suc n) (b ∷ x) h a =
    let e : suc n - suc (length x) ≡ n - length x = omega arith in
    let small : b / 2 ^ 0 % 2 ^ 8 ≡ b = omega (arith, a.0) in
    ap₂ (λ (v : ℕ) (w : List ℕ). v ∷ w)
    (ap binary (bits-byte (b ∷ x) 0 8 (omega arith) (omega arith)) ∙ binary-bits b 0 8 ∙ small)
    (ap (λ (l : List Bool). packed n (drop 8 l)) (bits-cons b x) ∙ pack-bytes n x (omega arith) a.1)
    ∙ rw e
