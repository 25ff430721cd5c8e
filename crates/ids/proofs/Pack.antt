-- Bits packed into bytes: one more bit that is 1.
use Prim.Native.Nat.{ℕ, zero, suc, ◌+◌, ◌-◌, ◌*◌, ◌/◌, ◌%◌, ◌^◌, ◌<◌, ◌≤◌}
use mathlib.Core.Bool.{Bool, true}
use mathlib.Core.List.{List, [], ◌∷◌}
use mathlib.Core.Path.{◌≡◌, sym, ◌∙◌, ap}
use native.Mathlib.Decide.{dec_lt}
use native.Mathlib.Nat.{div-eq_of_lt, mod-eq_of_lt}
use native.Mathlib.Omega.{arith}
use lib.ListN.{length, take, drop, length-drop}
use Rattle.paper.specs.Hearing.{binary, packed}
use Rattle.paper.specs.Walk.{◌▹◌}
use Rattle.paper.proofs.Packed.{binary-below, binary-more, packed-short, more-short, more-long}
use Rattle.ids.specs.Ids.{with_one, set_bit}

binary-one : (q : List Bool) → binary (q ▹ true) ≡ with_one (binary q) (length q)
binary-one q = binary-more q true
    ∙ put (binary q / 2 ^ length q) (binary q % 2 ^ length q) (div-eq_of_lt (binary-below q))
    (mod-eq_of_lt (binary-below q))
  where
    put : (d m : ℕ) → d ≡ 0 → m ≡ binary q → binary q + 1 * 2 ^ length q ≡ (d / 2 * 2 + 1) * 2 ^ length q + m
    put d m e f = rw (e, f) (omega arith)

-- Setting a bit in the first byte, and in the bytes after it.
module _ (x : ℕ) (xs : List ℕ) (k : ℕ) where
  set-short : k < 8 → set_bit (x ∷ xs) k ≡ with_one x k ∷ xs
  unfolding set_bit
  set-short h = let d : k / 8 ≡ 0 = omega arith in let m : k % 8 ≡ k = omega arith in rw (d, m)

  set_long : 8 ≤ k → set_bit (x ∷ xs) k ≡ x ∷ set_bit xs (k - 8)
  unfolding set_bit
  set_long h = let d : k / 8 ≡ suc ((k - 8) / 8) = omega arith in let m : k % 8 ≡ (k - 8) % 8 = omega arith in rw (d, m)

-- Packing one more bit that is 1 sets that bit.
pub pack_one : (n : ℕ) (q : List Bool) → length q < 8 * n → packed n (q ▹ true) ≡ set_bit (packed n q) (length q)
unfolding packed
pack_one zero q l = absurd (omega arith)
pack_one (suc n) q l = go (λ h. pack_one n (drop 8 q) (omega (arith, length-drop 8 q))) (dec_lt (length q) 8)
  where
    go : (8 ≤ length q → packed n (drop 8 q ▹ true) ≡ set_bit (packed n (drop 8 q)) (length (drop 8 q)))
        → Dec (length q < 8) → packed (suc n) (q ▹ true) ≡ set_bit (packed (suc n) q) (length q)
    go ih (yes h) =
        more-short n q true h
        ∙ ap (λ (x : ℕ). x ∷ packed n []) (binary-one q)
        ∙ sym (set-short (binary q) (packed n []) (length q) h)
        ∙ ap (λ (l : List ℕ). set_bit l (length q)) (sym (packed-short n q (omega arith)))
    go ih (no h) =
        more-long n q true (omega arith)
        ∙ ap (λ (l : List ℕ). binary (take 8 q) ∷ l)
        (ih (omega arith) ∙ ap (set_bit (packed n (drop 8 q))) (length-drop 8 q))
        ∙ sym (set_long (binary (take 8 q)) (packed n (drop 8 q)) (length q) (omega arith))
