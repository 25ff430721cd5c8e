-- Lemmas for each path through the functions on ids, from the facts that hold there.
use Prim.Native.Nat.{ℕ, ◌*◌, ◌/◌, ◌%◌, ◌<◌, ◌≤◌}
use mathlib.Core.Bool.{Bool, false, ◌&&◌}
use mathlib.Core.List.{List, [], ◌∷◌, ◌++◌}
use mathlib.Core.Path.{◌≡◌, refl, sym, ◌∙◌, ap, ap₂}
use native.Mathlib.Omega.{arith}
use lib.Dec.{eqb}
use lib.ListN.{length, take, drop, get_or, replicate, length-take, get_or-eq_default}
use lib.Pointwise.{pointwise}
use lib.Seq.{get_or-take}
use Rattle.std.specs.Prelude.{Some}
use Rattle.std.specs.Cmp.Lexicographic.{slice_partial_cmp}
use Rattle.std.specs.Ordering.{nat_cmp, is_le, is_some_and}
use Rattle.std.proofs.lemmas.Cmp.{same_from_slice_cmp_tested}
use Rattle.std.proofs.lemmas.Bool.Decides.{nat_tests}
use Rattle.paper.specs.Walk.{same_id}
use Rattle.paper.specs.Hearing.{bit, bits_of, before}
use Rattle.lore.proofs.Lists.{drop-replicate}
use Rattle.paper.proofs.Bits.{bits-length, bits_at}
use Rattle.ids.specs.Ids.{bit_of, id_from}

pub bit_is : (bytes : List ℕ) (k a : ℕ) → a ≡ bit_of (get_or bytes (k / 8) 0) (k % 8) → eqb a 1 ≡ bit bytes k
unfolding bit
bit_is bytes k a e = ap (λ (b : ℕ). eqb b 1) e

-- A bit of an id, and a bit past its end.
module _ (x : List ℕ) (len n k : ℕ) (xe : n ≡ length (take len x)) where
  pub bit_in : (r : Bool) → k < 8 * n → r ≡ bit x k → r ≡ get_or (bits_of (take len x)) k false
  unfolding bit
  bit_in r h e =
      e
      ∙ ap (λ (b : ℕ). eqb (bit_of b (k % 8)) 1) (sym (get_or-take len x (k / 8) 0 (omega (arith, length-take len x))))
      ∙ sym (bits_at (take len x) k (omega arith))

  pub bit-out : 8 * n ≤ k → false ≡ get_or (bits_of (take len x)) k false
  bit-out h = sym (get_or-eq_default (bits_of (take len x)) false {n = k} (omega (arith, bits-length (take len x))))

pub id-is : (id out : List ℕ) (i : ℕ) → i ≡ length id → out ≡ id ++ drop (length id) (replicate 16 0)
    → record { bytes = out; len = i } ≡ id_from id
unfolding id_from
id-is id out i e f = rw (e, f, drop-replicate {A = ℕ} 16 0 (length id))

-- Whether two ids are the same, as `==` on slices says.
same_pointwise : (xs ys : List ℕ) → pointwise eqb xs ys ≡ same_id xs ys
unfolding same_id
same_pointwise [] [] = refl
same_pointwise [] (y ∷ ys) = refl
same_pointwise (x ∷ xs) [] = refl
same_pointwise (x ∷ xs) (y ∷ ys) = ap (λ (b : Bool). eqb x y && b) (same_pointwise xs ys)

pub same_is : (x y xs ys : List ℕ) (r : Bool) → r ≡ pointwise eqb xs ys → xs ≡ x → ys ≡ y → r ≡ same_id x y
same_is x y xs ys r e ex ey = e ∙ same_pointwise xs ys ∙ ap₂ same_id ex ey

-- Which of two ids comes first, as `<=` on slices says.
pub before_is : (x y xs ys : List ℕ) (r : Bool)
    → r ≡ is_some_and is_le (slice_partial_cmp (λ (a b : ℕ). Some (nat_cmp a b)) xs ys) → xs ≡ x → ys ≡ y → r ≡ before x y
unfolding before
before_is x y xs ys r e ex ey =
    same_from_slice_cmp_tested nat_cmp is_le before refl (λ _ _. refl) (λ _ _. refl)
    (λ x y xs ys o h. grind (arith, nat_tests)) xs ys r e ∙ ap₂ before ex ey
