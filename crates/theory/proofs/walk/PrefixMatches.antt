-- When a prefix matches an id: rules for shorter prefixes, for children, and for whole ids.
use Prim.Native.Nat.{ℕ, zero, suc, ◌+◌, ◌/◌, ◌%◌, ◌^◌, ◌≤◌, ◌<◌}
use mathlib.Core.Bool.{Bool, true, false, not, beq, and-eq-true_iff, and-true, false≢true}
use mathlib.Core.List.{List, [], ◌∷◌, ◌++◌}
use mathlib.Core.Path.{◌≡◌, refl, sym, ◌∙◌, ap}
use native.Mathlib.Nat.{div-div-eq-div-mul, div-eq_of_lt, div-one, pow-suc}
use native.Mathlib.Omega.{arith}
use lib.Dec.{eqb}
use lib.ListN.{drop, get_or, length, take, take-append-drop}
use lib.Seq.{take_all}
use borrow.Author.Tests.{eq-eqb, eqb-false, eqb-true}
use Rattle.paper.specs.Count.{All}
use Rattle.paper.specs.Hearing.{Id, bit, counting, bits_of, begins}
use Rattle.paper.specs.Walk.{◌▹◌, same_id}
use Rattle.paper.proofs.Bits.{counting-at, bits-length}
use Rattle.lore.proofs.Choice.{and-not-right}
use Rattle.theory.proofs.frames.IdBits.{bits-cons}

pub beq-eq : (p b : Bool) → beq p b ≡ true → p ≡ b
beq-eq true true e = refl
beq-eq true false e = sym e
beq-eq false true e = e
beq-eq false false e = refl

pub beq-refl : (b : Bool) → beq b b ≡ true
beq-refl true = refl
beq-refl false = refl

pub beq-not : (b : Bool) → beq (not b) b ≡ false
beq-not true = refl
beq-not false = refl

beq-other : (b : Bool) → beq b (not b) ≡ false
beq-other true = refl
beq-other false = refl

pub begins-refl : (xs : List Bool) → begins xs xs ≡ true
unfolding begins
begins-refl [] = refl
begins-refl (x ∷ xs) = rw (beq-refl x) (begins-refl xs)

begins-cons : (p : Bool) (q : List Bool) (x : Bool) (xs : List Bool) → begins (p ∷ q) (x ∷ xs) ≡ true
    → (p ≡ x) × (begins q xs ≡ true)
unfolding begins
begins-cons p q x xs e = let w = (and-eq-true_iff (beq p x) (begins q xs)).0 e in (beq-eq p x w.0, w.1)

pub begins-front : (q r xs : List Bool) → begins (q ++ r) xs ≡ true → begins q xs ≡ true
unfolding begins
begins-front [] r xs e = refl
begins-front (p ∷ q) r [] e = e
begins-front (p ∷ q) r (x ∷ xs) e = let w = begins-cons p (q ++ r) x xs e
    in rw (w.0, beq-refl x) (begins-front q r xs w.1)

pub begins-child : (q xs : List Bool) (b : Bool) (rest : List Bool) → begins q xs ≡ true
    → drop (length q) xs ≡ b ∷ rest → (c : Bool) → begins (q ▹ c) xs ≡ beq c b
unfolding begins
begins-child [] xs b rest e d c = rw d (and-true (beq c b))
begins-child (p ∷ q) [] b rest e d c = absurd (false≢true e)
begins-child (p ∷ q) (x ∷ xs) b rest e d c = let w = begins-cons p q x xs e
    in rw (w.0, beq-refl x) (begins-child q xs b rest w.1 d c)

pub begins-take : (q xs : List Bool) → begins q xs ≡ true → take (length q) xs ≡ q
unfolding begins
begins-take [] xs e = refl
begins-take (p ∷ q) [] e = absurd (false≢true e)
begins-take (p ∷ q) (x ∷ xs) e = let w = begins-cons p q x xs e in let t = begins-take q xs w.1 in cc

pub begins-more : (q xs r : List Bool) → begins q xs ≡ true → begins q (xs ++ r) ≡ true
unfolding begins
begins-more [] xs r e = refl
begins-more (p ∷ q) [] r e = absurd (false≢true e)
begins-more (p ∷ q) (x ∷ xs) r e = let w = begins-cons p q x xs e in rw (w.0, beq-refl x) (begins-more q xs r w.1)

pub begins-splits : (q xs : List Bool) → begins q xs ≡ true → q ++ drop (length q) xs ≡ xs
begins-splits q xs e = ap (λ (r : List Bool). r ++ drop (length q) xs) (sym (begins-take q xs e))
    ∙ take-append-drop (length q) xs

pub begins-whole : (q xs : List Bool) → begins q xs ≡ true → length xs ≤ length q → q ≡ xs
begins-whole q xs e h = sym (begins-take q xs e) ∙ take_all (length q) xs h

-- Two lists that differ in the bit after q: the first does not begin the second.
pub begins-parted : (q xs ys : List Bool) (b : Bool) → begins (q ▹ b) xs ≡ true → begins (q ▹ not b) ys ≡ true
    → begins xs ys ≡ false
unfolding begins
begins-parted [] [] ys b e f = absurd (false≢true e)
begins-parted [] (x ∷ xs) [] b e f = refl
begins-parted [] (x ∷ xs) (y ∷ ys) b e f =
    rw (← (begins-cons b [] x xs e).0, ← (begins-cons (not b) [] y ys f).0, beq-other b)
begins-parted (p ∷ q) [] ys b e f = absurd (false≢true e)
begins-parted (p ∷ q) (x ∷ xs) [] b e f = refl
begins-parted (p ∷ q) (x ∷ xs) (y ∷ ys) b e f =
    and-not-right (beq x y) (begins xs ys)
    (begins-parted q xs ys b (begins-cons p (q ▹ b) x xs e).1 (begins-cons p (q ▹ not b) y ys f).1)

module _ (a b : ℕ) (e : counting (bit (a ∷ [])) 0 8 ≡ counting (bit (b ∷ [])) 0 8) where
  same_bit : (i : ℕ) → i < 8 → a / 2 ^ i % 2 ≡ b / 2 ^ i % 2
  unfolding bit
  same_bit i l = go (eqb (b / 2 ^ i % 2) 1) refl
    where
      low : (c : ℕ) → get_or (counting (bit (c ∷ [])) 0 8) i false ≡ eqb (c / 2 ^ i % 2) 1
      low c =
          let q : (0 + i) / 8 ≡ 0 = omega arith in
          let r : (0 + i) % 8 ≡ i = omega arith in
          counting-at (bit (c ∷ [])) false 8 0 i l ∙ rw (q, r)

      same : eqb (a / 2 ^ i % 2) 1 ≡ eqb (b / 2 ^ i % 2) 1
      same = sym (low a) ∙ ap (λ (bits : List Bool). get_or bits i false) e ∙ low b

      go : (c : Bool) → eqb (b / 2 ^ i % 2) 1 ≡ c → a / 2 ^ i % 2 ≡ b / 2 ^ i % 2
      go true f = eqb-true (a / 2 ^ i % 2) 1 (same ∙ f) ∙ sym (eqb-true (b / 2 ^ i % 2) 1 f)
      go false f =
          let m : (a / 2 ^ i % 2 ≡ 1 → ⊥) = eqb-false (a / 2 ^ i % 2) 1 (same ∙ f) in
          let n : (b / 2 ^ i % 2 ≡ 1 → ⊥) = eqb-false (b / 2 ^ i % 2) 1 f in
          omega arith

  -- The two bytes are equal without their i lowest bits: by induction, from i = 8 down.
  same_above : a < 256 → b < 256 → (k i : ℕ) → k + i ≡ 8 → a / 2 ^ i ≡ b / 2 ^ i
  same_above h g zero i n = let last : i ≡ 8 = omega arith in rw last (div-eq_of_lt h ∙ sym (div-eq_of_lt g))
  same_above h g (suc k) i n = half (a / 2 ^ i) (b / 2 ^ i)
      (next a ∙ same_above h g k (suc i) (omega arith) ∙ sym (next b)) (same_bit i (omega arith))
    where
      half : (x y : ℕ) → x / 2 ≡ y / 2 → x % 2 ≡ y % 2 → x ≡ y
      half x y d m = omega arith

      next : (c : ℕ) → c / 2 ^ i / 2 ≡ c / 2 ^ suc i
      next c = div-div-eq-div-mul c (2 ^ i) 2 ∙ ap (c /◌) (sym (pow-suc 2 i))

  same_byte : a < 256 → b < 256 → a ≡ b
  same_byte h g = sym (div-one a) ∙ same_above h g 8 0 refl ∙ div-one b

pub bits_of-inj : (x y : Id) → All (λ b. b < 256) x → All (λ b. b < 256) y → bits_of x ≡ bits_of y → x ≡ y
unfolding counting
bits_of-inj [] [] h g e = refl
bits_of-inj [] (b ∷ bs) h g e = absurd (omega (arith, ap length e, bits-length [], bits-length (b ∷ bs)))
bits_of-inj (a ∷ x) [] h g e = absurd (omega (arith, ap length e, bits-length (a ∷ x), bits-length []))
bits_of-inj (a ∷ x) (b ∷ y) h g e =
    let parts : counting (bit (a ∷ [])) 0 8 ++ bits_of x ≡ counting (bit (b ∷ [])) 0 8 ++ bits_of y =
    sym (bits-cons a x) ∙ e ∙ bits-cons b y in
    let s = same_byte a b (ap (take 8) parts) h.0 g.0 in
    let t = bits_of-inj x y h.1 g.1 (ap (drop 8) parts) in
    cc

pub same_id-refl : (x : Id) → same_id x x ≡ true
unfolding same_id
same_id-refl [] = refl
same_id-refl (a ∷ x) = rw (eq-eqb a a refl) (same_id-refl x)
