-- Eight and sixteen steps of the register in closed form. Each is linear over XOR, so its values at the single bits
-- determine it.
use Prim.Native.Nat.{ℕ, zero, suc, ◌-◌, ◌*◌, ◌/◌, ◌%◌, ◌^◌, ◌<◌}
use mathlib.Core.Bool.{cond}
use mathlib.Core.List.{List, [], ◌∷◌}
use mathlib.Core.Path.{◌≡◌, refl, sym, ◌∙◌, ap, ap₂}
use native.Mathlib.Decide.{dec_lt}
use native.Mathlib.Nat.{add-zero, one-mul, pow-suc, div-le_self, lt_of_le_of_lt}
use native.Mathlib.Omega.{arith}
use lib.Bits.{bit_xor, xor_zero_r, xor_lt, xor_block, xor_shifted, xor_shr, xor_mod}
use lib.Dec.{ltb}
use lib.ListN.{drop, get_or}
use lib.Pow.{pow_pos}
use borrow.Author.Tests.{lt-ltb, le-ltb}
use Rattle.lore.proofs.Xor.{swap-sums}
use Rattle.paper.specs.Frame.{crc_bit, crc_byte}

-- Functions that are linear over XOR and stay within 16 bits: shifts, sums and compositions.
record Linear : Type 0 where
  of : ℕ → ℕ
  apart : (x y : ℕ) → of (bit_xor x y) ≡ bit_xor (of x) (of y)
  fits : (x : ℕ) → x < 2 ^ 16 → of x < 2 ^ 16

abbrev same : Linear
same = record { of = λ x. x; apart = λ x y. refl; fits = λ x h. h }

abbrev shr : ℕ → Linear
shr k = record {
  of = λ x. x / 2 ^ k;
  apart = λ x y. xor_shr x y k;
  fits = λ x h. lt_of_le_of_lt (div-le_self x (2 ^ k)) h;
}

abbrev shl : ℕ → Linear
shl k =
    record {
      of = λ x. x * 2 ^ k % 2 ^ 16;
      apart = λ x y. ap (λ (z : ℕ). z % 2 ^ 16) (sym (shifted x y)) ∙ xor_mod (x * 2 ^ k) (y * 2 ^ k) 16;
      fits = λ x h. omega arith;
    }
  where
    shifted : (x y : ℕ) → bit_xor (x * 2 ^ k) (y * 2 ^ k) ≡ bit_xor x y * 2 ^ k
    shifted x y =
        sym (ap₂ bit_xor (add-zero (x * 2 ^ k)) (add-zero (y * 2 ^ k))) ∙ xor_block k x y 0 0 (pow_pos k) (pow_pos k)
        ∙ add-zero (bit_xor x y * 2 ^ k)

abbrev sum : Linear → Linear → Linear
sum f g =
    record {
      of = λ x. bit_xor (f.of x) (g.of x);
      apart = λ x y. ap₂ bit_xor (f.apart x y) (g.apart x y) ∙ swap-sums (f.of x) (f.of y) (g.of x) (g.of y);
      fits = λ x h. xor_lt 16 (f.of x) (g.of x) (f.fits x h) (g.fits x h);
    }

abbrev after : Linear → Linear → Linear
after f g =
    record {
      of = λ x. f.of (g.of x);
      apart = λ x y. ap f.of (g.apart x y) ∙ f.apart (g.of x) (g.of y);
      fits = λ x h. f.fits (g.of x) (g.fits x h);
    }

abbrev twice : Linear → Linear
twice f = after f f

-- The values at each single bit below the n-th, and at 0. Two linear functions that agree there agree on n bits.
basis : (ℕ → ℕ) → ℕ → List ℕ
basis f zero = f 0 ∷ []
basis f (suc n) = f (2 ^ n) ∷ basis f n

by_bits : (f g : Linear) (n : ℕ) → basis f.of n ≡ basis g.of n → (x : ℕ) → x < 2 ^ n → f.of x ≡ g.of x
unfolding basis
by_bits f g zero e x h = let none : x ≡ 0 = omega arith in rw none (ap (λ (s : List ℕ). get_or s 0 0) e)
by_bits f g (suc n) e x h = go (by_bits f g n (ap (drop 1) e)) (dec_lt x (2 ^ n))
  where
    go : ((x : ℕ) → x < 2 ^ n → f.of x ≡ g.of x) → Dec (x < 2 ^ n) → f.of x ≡ g.of x
    go ih (yes l) = ih x l
    go ih (no l) = cut f ∙ ap₂ bit_xor (ap (λ (s : List ℕ). get_or s 0 0) e) (ih (x - 2 ^ n) rest) ∙ sym (cut g)
      where
        rest : x - 2 ^ n < 2 ^ n
        rest = omega (arith, pow-suc 2 n)

        cut : (f : Linear) → f.of x ≡ bit_xor (f.of (2 ^ n)) (f.of (x - 2 ^ n))
        cut f =
            let e : bit_xor (2 ^ n) (x - 2 ^ n) ≡ x =
            (rw (one-mul (2 ^ n)) at (xor_shifted 1 n (x - 2 ^ n) rest)) ∙ omega arith in
            ap f.of (sym e) ∙ f.apart (2 ^ n) (x - 2 ^ n)

-- Multiplication by the polynomial, 2 ^ 12 + 2 ^ 5 + 1.
abbrev spread : Linear
spread = sum (sum (shl 12) (shl 5)) same

-- A step of the register is linear.
abbrev step : Linear
step = sum (shl 1) (after spread (shr 15))

abbrev eight : Linear
eight = twice (twice (twice step))

-- g equals f on 16 bits.
abbrev Is : (ℕ → ℕ) → Linear → Type 0
Is g f = (x : ℕ) → x < 2 ^ 16 → g x ≡ f.of x

is-twice : (g : ℕ → ℕ) (f : Linear) → Is g f → Is (λ x. g (g x)) (twice f)
is-twice g f e x h = ap g (e x h) ∙ e (f.of x) (f.fits x h)

is-step : Is crc_bit step
unfolding crc_bit
is-step x h = go (dec_lt x 0x8000)
  where
    go : Dec (x < 0x8000) → cond (ltb x 0x8000) (x * 2) (bit_xor (x * 2 % 0x10000) 0x1021) ≡ step.of x
    go (yes l) =
        let low : x / 2 ^ 15 ≡ 0 = omega arith in
        rw (lt-ltb x 0x8000 l) (omega arith ∙ sym (xor_zero_r (x * 2 ^ 1 % 2 ^ 16))
        ∙ ap (λ (y : ℕ). bit_xor (x * 2 ^ 1 % 2 ^ 16) (spread.of y)) (sym low))
    go (no l) =
        let top : x / 2 ^ 15 ≡ 1 = omega arith in
        rw (le-ltb x 0x8000 (omega arith)) (ap (λ (y : ℕ). bit_xor (x * 2 ^ 1 % 2 ^ 16) (spread.of y)) (sym top))

-- A byte is XORed into the high byte, and eight steps follow. That they equal the closed form is computed for each bit.
module _ (c b : ℕ) (hc : c < 2 ^ 16) (hb : b < 256) where
  abbrev entered : ℕ
  entered = bit_xor c (b * 256)

  fits-entered : entered < 2 ^ 16
  fits-entered = xor_lt 16 c (b * 256) hc (omega arith)

  is-eight : crc_byte c b ≡ eight.of entered
  unfolding crc_byte
  is-eight = is-twice _ (twice (twice step))
      (is-twice _ (twice step) (is-twice crc_bit step is-step)) entered fits-entered

  abbrev byte : Linear
  byte = sum (after spread (after (sum same (shr 4)) (shr 8))) (shl 8)

  is_byte : Is eight.of byte
  unfolding basis
  is_byte = by_bits eight byte 16 refl

  low : entered * 2 ^ 8 % 2 ^ 16 ≡ c * 2 ^ 8 % 2 ^ 16
  low = (shl 8).apart c (b * 256) ∙ ap (bit_xor (c * 2 ^ 8 % 2 ^ 16)) (omega arith) ∙ xor_zero_r (c * 2 ^ 8 % 2 ^ 16)

  pub closed : bit_xor (spread.of (bit_xor (bit_xor (c / 2 ^ 8) b) (bit_xor (c / 2 ^ 8) b / 2 ^ 4))) (c * 2 ^ 8 % 2 ^ 16)
      ≡ crc_byte c b
  closed =
      let top : bit_xor (c / 2 ^ 8) b ≡ entered / 2 ^ 8 =
      sym (xor_shr c (b * 256) 8 ∙ ap (bit_xor (c / 2 ^ 8)) (omega arith)) in
      ap₂ (λ (x y : ℕ). bit_xor (spread.of (bit_xor x (x / 2 ^ 4))) y) top (sym low)
      ∙ sym (is_byte entered fits-entered) ∙ sym is-eight

-- Two bytes. The second can be XORed into the low byte at the start: eight steps move it to the high byte.
abbrev onto : Linear
onto = sum (sum (sum (sum same (shr 4)) (shr 8)) (shr 11)) (shr 12)

is-sixteen : Is (twice eight).of (after spread onto)
unfolding basis
is-sixteen = by_bits (twice eight) (after spread onto) 16 refl

risen : (b : ℕ) → b < 256 → eight.of b ≡ b * 256
unfolding basis
risen b h = by_bits eight (shl 8) 8 refl b h ∙ omega arith

pub pair : (c a b y : ℕ) → c < 2 ^ 16 → a < 256 → b < 256 → y ≡ onto.of (bit_xor (bit_xor c (a * 2 ^ 8 % 2 ^ 16)) b)
    → spread.of y ≡ crc_byte (crc_byte c a) b
pair c a b y hc ha hb e =
    let up : a * 2 ^ 8 % 2 ^ 16 ≡ a * 256 = omega arith in
    ap spread.of (e ∙ ap (λ (z : ℕ). onto.of (bit_xor (bit_xor c z) b)) up)
    ∙ sym (is-sixteen (bit_xor u b) (xor_lt 16 u b (fits-entered c a hc ha) (omega arith)))
    ∙ ap eight.of (eight.apart u b ∙ ap (bit_xor (eight.of u)) (risen b hb))
    ∙ sym (is-eight (eight.of u) b (eight.fits u (fits-entered c a hc ha)) hb)
    ∙ ap (λ (z : ℕ). crc_byte z b) (sym (is-eight c a hc ha))
  where
    u : ℕ
    u = bit_xor c (a * 256)
