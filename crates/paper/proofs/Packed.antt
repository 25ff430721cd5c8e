-- Bits packed into bytes: how many bytes, each byte as a number, one more bit, and the bits read back.
use Prim.Native.Nat.{ℕ, zero, suc, ◌+◌, ◌*◌, ◌/◌, ◌%◌, ◌^◌, ◌<◌, ◌≤◌}
use mathlib.Core.Bool.{Bool, true, false, cond}
use mathlib.Core.List.{List, [], ◌∷◌}
use mathlib.Core.Path.{◌≡◌, refl, sym, ◌∙◌, ap, ap₂}
use native.Mathlib.Decide.{dec_lt}
use native.Mathlib.Nat.{pow-suc, zero-div}
use native.Mathlib.Omega.{arith}
use lib.Dec.{eqb}
use lib.ListN.{length, get_or, take, drop, replicate, length-append, drop_of_length-le}
use lib.Pow.{shr-shr, mod-pow-add}
use lib.Seq.{drop-drop, ext_get_or, get_or-drop, get_or-take, length-take-le, take_all, take-append-le, drop-append-le}
use borrow.Author.Tests.{eq-eqb, ne_eqb, eqb-true, eqb-false}
use Rattle.paper.specs.Hearing.{bit, counting, bits_of, binary, packed}
use Rattle.paper.specs.Walk.{◌▹◌}
use Rattle.paper.proofs.Bits.{bits-length, bits_at}

pub packed-length : (n : ℕ) (q : List Bool) → length (packed n q) ≡ n
unfolding packed
packed-length zero q = refl
packed-length (suc n) q = ap suc (packed-length n (drop 8 q))

pub packed-at : (n i : ℕ) (q : List Bool) → i < n → get_or (packed n q) i 0 ≡ binary (take 8 (drop (8 * i) q))
unfolding packed
packed-at zero i q h = absurd (omega arith)
packed-at (suc n) zero q h = refl
packed-at (suc n) (suc i) q h =
    packed-at n i (drop 8 q) (omega arith)
    ∙ ap (λ (l : List Bool). binary (take 8 l)) (drop-drop (8 * i) 8 q ∙ ap (λ (k : ℕ). drop k q) (next i))
  where
    next : (i : ℕ) → 8 + 8 * i ≡ 8 * suc i
    next i = omega arith

-- r bits of a number from bit j on, as a number again.
pub binary-bits : (x j r : ℕ) → binary (counting (λ k. eqb (x / 2 ^ k % 2) 1) j r) ≡ x / 2 ^ j % 2 ^ r
unfolding binary counting
binary-bits x j zero = omega arith
binary-bits x j (suc r) = go (binary-bits x (suc j) r) (eqb (x / 2 ^ j % 2) 1) refl
  where
    half : x / 2 ^ suc j ≡ x / 2 ^ j / 2
    half = let e : suc j ≡ j + 1 = omega arith in rw e (sym (shr-shr x j 1))

    parts : (y : ℕ) → y % 2 ^ suc r ≡ (y / 2 % 2 ^ r) * 2 + y % 2
    parts y = let e : suc r ≡ r + 1 = omega arith in rw e (mod-pow-add y r 1)

    go : binary (counting (λ k. eqb (x / 2 ^ k % 2) 1) (suc j) r) ≡ x / 2 ^ suc j % 2 ^ r → (b : Bool)
        → eqb (x / 2 ^ j % 2) 1 ≡ b
        → cond b 1 0 + 2 * binary (counting (λ k. eqb (x / 2 ^ k % 2) 1) (suc j) r) ≡ x / 2 ^ j % 2 ^ suc r
    go ih true e = rw (ih, half, parts (x / 2 ^ j)) (omega (arith, eqb-true (x / 2 ^ j % 2) 1 e))
    go ih false e = let n : (x / 2 ^ j % 2 ≡ 1 → ⊥) = eqb-false (x / 2 ^ j % 2) 1 e
        in rw (ih, half, parts (x / 2 ^ j)) (omega arith)

pub binary-below : (q : List Bool) → binary q < 2 ^ length q
unfolding binary
binary-below [] = omega arith
binary-below (true ∷ q) = omega (arith, binary-below q, pow-suc 2 (length q))
binary-below (false ∷ q) = omega (arith, binary-below q, pow-suc 2 (length q))

-- One more bit is the highest of the number.
pub binary-more : (q : List Bool) (b : Bool) → binary (q ▹ b) ≡ binary q + cond b 1 0 * 2 ^ length q
unfolding binary
binary-more [] true = refl
binary-more [] false = refl
binary-more (c ∷ q) true = omega (arith, binary-more q true, pow-suc 2 (length q))
binary-more (c ∷ q) false = omega (arith, binary-more q false, pow-suc 2 (length q))

-- Bit j of the number is bit j of the list.
pub binary-at : (q : List Bool) (j : ℕ) → eqb (binary q / 2 ^ j % 2) 1 ≡ get_or q j false
unfolding binary
binary-at [] j = rw (zero-div (2 ^ j))
binary-at (true ∷ q) zero = eq-eqb ((1 + 2 * binary q) / 2 ^ 0 % 2) 1 (omega arith)
binary-at (false ∷ q) zero = ne_eqb ((0 + 2 * binary q) / 2 ^ 0 % 2) 1 (λ e. omega arith)
binary-at (b ∷ q) (suc j) = ap (λ (n : ℕ). eqb (n % 2) 1) (next b) ∙ binary-at q j
  where
    half : (b : Bool) → (cond b 1 0 + 2 * binary q) / 2 ≡ binary q
    half true = omega arith
    half false = omega arith

    next : (b : Bool) → (cond b 1 0 + 2 * binary q) / 2 ^ suc j ≡ binary q / 2 ^ j
    next b =
        let e : suc j ≡ 1 + j = omega arith in
        ap (λ (k : ℕ). (cond b 1 0 + 2 * binary q) / 2 ^ k) e
        ∙ sym (shr-shr (cond b 1 0 + 2 * binary q) 1 j)
        ∙ ap (λ (n : ℕ). n / 2 ^ j) (half b)

-- Up to eight bits go into the first byte.
pub packed-short : (n : ℕ) (q : List Bool) → length q ≤ 8 → packed (suc n) q ≡ binary q ∷ packed n []
unfolding packed
packed-short n q h = ap₂ (λ (x y : List Bool). binary x ∷ packed n y) (take_all 8 q h) (drop_of_length-le q {i = 8} h)

-- One more bit goes into the first byte if fewer than eight are there, else into a later one.
module _ (n : ℕ) (q : List Bool) (b : Bool) where
  pub more-short : length q < 8 → packed (suc n) (q ▹ b) ≡ binary (q ▹ b) ∷ packed n []
  more-short h = packed-short n (q ▹ b) (omega (arith, length-append q (b ∷ [])))

  pub more-long : 8 ≤ length q → packed (suc n) (q ▹ b) ≡ binary (take 8 q) ∷ packed n (drop 8 q ▹ b)
  unfolding packed
  more-long h = ap₂ (λ (x y : List Bool). binary x ∷ packed n y) (take-append-le 8 q (b ∷ []) h)
      (drop-append-le 8 q (b ∷ []) h)

-- One more bit that is 0 changes nothing.
pub packed_zero : (n : ℕ) (q : List Bool) → packed n (q ▹ false) ≡ packed n q
unfolding packed
packed_zero zero q = refl
packed_zero (suc n) q = go (packed_zero n (drop 8 q)) (dec_lt (length q) 8)
  where
    same : binary (q ▹ false) ≡ binary q
    same = omega (arith, binary-more q false)

    go : packed n (drop 8 q ▹ false) ≡ packed n (drop 8 q) → Dec (length q < 8)
        → packed (suc n) (q ▹ false) ≡ packed (suc n) q
    go ih (yes h) = more-short n q false h ∙ ap (λ (x : ℕ). x ∷ packed n []) same ∙ sym (packed-short n q (omega arith))
    go ih (no h) = more-long n q false (omega arith) ∙ ap (λ (l : List ℕ). binary (take 8 q) ∷ l) ih

-- Bit k of the bytes is bit k of the list.
pub packed-bit : (n : ℕ) (q : List Bool) (k : ℕ) → k < 8 * n → bit (packed n q) k ≡ get_or q k false
unfolding bit
packed-bit n q k h =
    let e : 8 * (k / 8) + k % 8 ≡ k = omega arith in
    ap (λ (x : ℕ). eqb (x / 2 ^ (k % 8) % 2) 1) (packed-at n (k / 8) q (omega arith))
    ∙ binary-at (take 8 (drop (8 * (k / 8)) q)) (k % 8)
    ∙ get_or-take 8 (drop (8 * (k / 8)) q) (k % 8) false (omega arith)
    ∙ get_or-drop (8 * (k / 8)) q (k % 8) false
    ∙ ap (λ (i : ℕ). get_or q i false) e

-- The bits read back.
pub packed-read : (n : ℕ) (q : List Bool) → length q ≤ 8 * n → take (length q) (bits_of (packed n q)) ≡ q
packed-read n q h = ext_get_or false (take (length q) (bits_of (packed n q))) q size at
  where
    size : length (take (length q) (bits_of (packed n q))) ≡ length q
    size = length-take-le (length q) (bits_of (packed n q)) (rw (bits-length (packed n q), packed-length n q) h)

    at : (i : ℕ) → i < length (take (length q) (bits_of (packed n q)))
        → get_or (take (length q) (bits_of (packed n q))) i false ≡ get_or q i false
    at i l =
        get_or-take (length q) (bits_of (packed n q)) i false (omega (arith, size))
        ∙ bits_at (packed n q) i (omega (arith, size, packed-length n q))
        ∙ packed-bit n q i (omega (arith, size))

pub packed_none : (n : ℕ) → packed n [] ≡ replicate n 0
unfolding packed binary
packed_none zero = refl
packed_none (suc n) = ap (λ (l : List ℕ). 0 ∷ l) (packed_none n)
