-- The library's bytes of a number, and the number of its bytes, are the paper's.
use Prim.Native.Nat.{ℕ, zero, suc, ◌+◌, ◌*◌, ◌/◌, ◌%◌, ◌^◌}
use mathlib.Core.List.{List, ◌∷◌}
use mathlib.Core.Path.{◌≡◌, refl, sym, ◌∙◌, ap, ap₂}
use native.Mathlib.Omega.{arith}
use native.Mathlib.Nat.{pow-suc, mul_comm, zero-add, div-div-eq-div-mul}
use native.Mathlib.Numerals.{add-one}
use lib.ListN.{length, get_or}
use lib.Seq.{take_all}
use Rattle.std.specs.Int.{bytes_low_first, byte_at, byte_worth, sum_through}
use Rattle.paper.specs.Frame.{le, number, field}
use Rattle.paper.proofs.Words.{field-add, field-suc, field-none}

byte-is : (i n : ℕ) → byte_at i n ≡ n / 256 ^ i % 256
byte-is zero n = omega arith
byte-is (suc i) n = refl

next : (i n : ℕ) → n / 256 ^ i / 256 ≡ n / 256 ^ suc i
next i n = div-div-eq-div-mul n (256 ^ i) 256 ∙ ap (λ (p : ℕ). n / p) (sym (pow-suc 256 i))

low-first : (k i n : ℕ) → bytes_low_first i k n ≡ le k (n / 256 ^ i)
unfolding le
low-first zero i n = refl
low-first (suc k) i n = ap₂ ◌∷◌ (byte-is i n) (low-first k (suc i) n ∙ ap (le k) (sym (next i n)))

pub bytes-are : (k n : ℕ) → bytes_low_first 0 k n ≡ le k n
bytes-are k n = low-first k 0 n ∙ ap (le k) (one n)
  where
    one : (n : ℕ) → n / 1 ≡ n
    one n = omega arith

worth-is : (i b : ℕ) → byte_worth i b ≡ 256 ^ i * b
worth-is zero b = omega arith
worth-is (suc i) b = mul_comm b (256 ^ suc i)

field-one : (at : ℕ) (s : List ℕ) → field at 1 s ≡ get_or s at 0
field-one at s = omega (arith, field-suc at 0 s, field-none (at + 1) s)

-- A field at the front is a field less its last byte, and that byte.
field-last : (n : ℕ) (s : List ℕ) → field 0 (suc n) s + 256 ^ suc n * get_or s (suc n) 0 ≡ field 0 (suc (suc n)) s
field-last n s =
    rw (← add-one (suc n), field-add (suc n) 1 0 s, zero-add (suc n), field-one (suc n) s)

sum-is : (n : ℕ) (s : List ℕ) → sum_through (λ i. byte_worth i (get_or s i 0)) n ≡ field 0 (suc n) s
sum-is zero s = sym (field-one 0 s)
sum-is (suc n) s = ap₂ ◌+◌ (sum-is n s) (worth-is (suc n) (get_or s (suc n) 0)) ∙ field-last n s

pub number-is : (n : ℕ) (s : List ℕ) → length s ≡ suc n → sum_through (λ i. byte_worth i (get_or s i 0)) n ≡ number s
number-is n s e = sum-is n s ∙ ap number (take_all (suc n) s (omega arith))
