-- The check can be computed in parts, fits two bytes, and is different from different starts.
use Prim.Native.Nat.{ℕ, zero, suc, ◌+◌, ◌*◌, ◌%◌, ◌^◌, ◌<◌}
use mathlib.Core.Bool.{Bool, true, false, cond}
use mathlib.Core.List.{List, [], ◌∷◌, ◌++◌}
use mathlib.Core.Path.{◌≡◌, refl, ◌∙◌}
use native.Mathlib.Omega.{arith}
use lib.Bits.{bit_xor, xor_lt}
use lib.Dec.{ltb, lit<}
use borrow.Author.Tests.{ltb-true, ltb-false}
use Rattle.lore.proofs.Xor.{xor-odd, xor_same}
use Rattle.paper.proofs.Words.{Bytes}
use Rattle.paper.specs.Frame.{crc_bit, crc_byte, crc_from, check}

pub crc-append : (c : ℕ) (xs ys : List ℕ) → crc_from c (xs ++ ys) ≡ crc_from (crc_from c xs) ys
unfolding crc_from
crc-append c [] ys = refl
crc-append c (x ∷ xs) ys = crc-append (crc_byte c x) xs ys

bit-fits : (c : ℕ) → c < 2 ^ 16 → crc_bit c < 2 ^ 16
unfolding crc_bit
bit-fits c h = go (ltb c 0x8000) refl
  where
    go : (b : Bool) → ltb c 0x8000 ≡ b → cond b (c * 2) (bit_xor (c * 2 % 0x10000) 0x1021) < 2 ^ 16
    go true e = omega (arith, ltb-true c 0x8000 e)
    go false e = xor_lt 16 (c * 2 % 0x10000) 0x1021 (omega arith) (lit< tt)

byte_fits : (c b : ℕ) → c < 2 ^ 16 → b < 256 → crc_byte c b < 2 ^ 16
unfolding crc_byte
byte_fits c b h k =
    bit-fits _ (bit-fits _ (bit-fits _
    (bit-fits _ (bit-fits _ (bit-fits _ (bit-fits _ (bit-fits _ (xor_lt 16 c (b * 256) h (omega arith)))))))))

crc-fits : (c : ℕ) (bs : List ℕ) → c < 2 ^ 16 → Bytes bs → crc_from c bs < 2 ^ 16
unfolding crc_from
crc-fits c [] h k = h
crc-fits c (b ∷ bs) h k = crc-fits (crc_byte c b) bs (byte_fits c b h k.0) k.1

pub check-fits : (bs : List ℕ) → Bytes bs → check bs < 256 ^ 2
unfolding check
check-fits bs h = crc-fits 0xFFFF bs (lit< tt) h

-- A bit: the doubled register is even, and odd once the polynomial is XORed in.
bit-one-to-one : (c d : ℕ) → c < 2 ^ 16 → d < 2 ^ 16 → crc_bit c ≡ crc_bit d → c ≡ d
unfolding crc_bit
bit-one-to-one c d h k e = go (ltb c 0x8000) (ltb d 0x8000) refl refl e
  where
    odd : (x : ℕ) → bit_xor (x * 2 % 0x10000) 0x1021 % 2 ≡ 1
    odd x =
        let even : x * 2 % 0x10000 % 2 ≡ 0 = omega arith in
        xor-odd (x * 2 % 0x10000) 0x1021 ∙ rw even

    high : (x : ℕ) → x < 2 ^ 16 → ltb x 0x8000 ≡ false → x * 2 % 0x10000 + 0x10000 ≡ x * 2
    high x h e = omega (arith, ltb-false x 0x8000 e)

    go : (a b : Bool) → ltb c 0x8000 ≡ a → ltb d 0x8000 ≡ b
        → cond a (c * 2) (bit_xor (c * 2 % 0x10000) 0x1021) ≡ cond b (d * 2) (bit_xor (d * 2 % 0x10000) 0x1021)
        → c ≡ d
    go true true ea eb e = omega arith
    go true false ea eb e = absurd (omega (arith, odd d))
    go false true ea eb e = absurd (omega (arith, odd c))
    go false false ea eb e =
        omega (arith, xor_same (c * 2 % 0x10000) (d * 2 % 0x10000) 0x1021 e, high c h ea, high d k eb)

byte-one-to-one : (c d b : ℕ) → c < 2 ^ 16 → d < 2 ^ 16 → b < 256 → crc_byte c b ≡ crc_byte d b → c ≡ d
unfolding crc_byte
byte-one-to-one c d b h k m e =
    xor_same c d (b * 256) (same 8 (bit_xor c (b * 256)) (bit_xor d (b * 256)) (xor_lt 16 c (b * 256) h (omega arith))
    (xor_lt 16 d (b * 256) k (omega arith)) e)
  where
    bits : ℕ → ℕ → ℕ
    bits zero x = x
    bits (suc n) x = crc_bit (bits n x)

    inside : (n x : ℕ) → x < 2 ^ 16 → bits n x < 2 ^ 16
    inside zero x h = h
    inside (suc n) x h = bit-fits (bits n x) (inside n x h)

    same : (n x y : ℕ) → x < 2 ^ 16 → y < 2 ^ 16 → bits n x ≡ bits n y → x ≡ y
    same zero x y h k e = e
    same (suc n) x y h k e = same n x y h k (bit-one-to-one (bits n x) (bits n y) (inside n x h) (inside n y k) e)

-- Two registers that become equal were equal.
pub crc-one-to-one : (c d : ℕ) (bs : List ℕ) → c < 2 ^ 16 → d < 2 ^ 16 → Bytes bs → crc_from c bs ≡ crc_from d bs → c ≡ d
unfolding crc_from
crc-one-to-one c d [] h k m e = e
crc-one-to-one c d (b ∷ bs) h k m e =
    byte-one-to-one c d b h k m.0
    (crc-one-to-one (crc_byte c b) (crc_byte d b) bs (byte_fits c b h m.0) (byte_fits d b k m.0) m.1 e)
