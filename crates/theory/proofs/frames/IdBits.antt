-- The bits of an id are those of its first byte, then those of the others.
use Prim.Native.Nat.{ℕ, suc, ◌+◌, ◌*◌, ◌/◌, ◌%◌, ◌<◌}
use mathlib.Core.List.{List, [], ◌∷◌, ◌++◌}
use mathlib.Core.Path.{◌≡◌, sym, ◌∙◌, ap, ap₂}
use native.Mathlib.Nat.{zero-add}
use native.Mathlib.Omega.{arith}
use lib.ListN.{length}
use Rattle.paper.proofs.Bits.{counting-add, counting-same}
use Rattle.paper.specs.Hearing.{bit, counting, bits_of}

bit-first : (b : ℕ) (bs cs : List ℕ) (i : ℕ) → i < 8 → bit (b ∷ bs) i ≡ bit (b ∷ cs) i
unfolding bit
bit-first b bs cs i l = let q : i / 8 ≡ 0 = omega arith in rw q

bit-rest : (b : ℕ) (bs : List ℕ) (i : ℕ) → bit (b ∷ bs) (8 + i) ≡ bit bs i
unfolding bit
bit-rest b bs i =
    let q : (8 + i) / 8 ≡ suc (i / 8) = omega arith in
    let r : (8 + i) % 8 ≡ i % 8 = omega arith in
    rw (q, r)

pub bits-cons : (b : ℕ) (bs : List ℕ) → bits_of (b ∷ bs) ≡ counting (bit (b ∷ [])) 0 8 ++ bits_of bs
unfolding bits_of
bits-cons b bs =
    ap (counting (bit (b ∷ bs)) 0) eight
    ∙ counting-add (bit (b ∷ bs)) 8 (8 * length bs) 0
    ∙ ap₂ ◌++◌ (counting-same (bit (b ∷ bs)) (bit (b ∷ [])) 8 0 0 first)
    (counting-same (bit (b ∷ bs)) (bit bs) (8 * length bs) 8 0 (λ i l. rest i))
  where
    eight : 8 * suc (length bs) ≡ 8 + 8 * length bs
    eight = omega arith

    first : (i : ℕ) → i < 8 → bit (b ∷ bs) (0 + i) ≡ bit (b ∷ []) (0 + i)
    first i l = bit-first b bs [] (0 + i) (omega arith)

    rest : (i : ℕ) → bit (b ∷ bs) (8 + i) ≡ bit bs (0 + i)
    rest i = bit-rest b bs i ∙ ap (bit bs) (sym (zero-add i))
