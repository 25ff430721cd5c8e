-- Setting a bit makes it 1 and changes no other bit. A value made from an id holds that id.
use Prim.Native.Nat.{ℕ, suc, ◌+◌, ◌*◌, ◌/◌, ◌%◌, ◌^◌, ◌-◌, ◌<◌, ◌≤◌}
use mathlib.Core.Bool.{true}
use mathlib.Core.List.{List}
use mathlib.Core.Logic.{◌≢◌}
use mathlib.Core.Path.{◌≡◌, sym, ◌∙◌, ap}
use native.Mathlib.Decide.{dec_lt}
use native.Mathlib.Nat.{mod-lt}
use native.Mathlib.Omega.{arith}
use lib.Dec.{eqb}
use lib.ListN.{length, get_or, take, set, replicate, length-take}
use lib.Pow.{pow_pos, high, low, shr-shr, field, mod-mod-pow}
use lib.Seq.{get_or-set_same, get_or-set_other, set_out, take-append_seam, take-take, take-length}
use borrow.Author.Tests.{eq-eqb}
use Rattle.paper.specs.Hearing.{bit}
use Rattle.ids.specs.declared.Id.{Id}
use Rattle.ids.specs.Ids.{bit_of, with_one, set_bit, id_of, id_from}

module _ (x j : ℕ) where
  top : with_one x j / 2 ^ j ≡ x / 2 ^ j / 2 * 2 + 1
  top = high (x / 2 ^ j / 2 * 2 + 1) j (mod-lt x (pow_pos j))

  below : with_one x j % 2 ^ j ≡ x % 2 ^ j
  below = low (x / 2 ^ j / 2 * 2 + 1) j (mod-lt x (pow_pos j))

  one_same : bit_of (with_one x j) j ≡ 1
  one_same = ap (λ (n : ℕ). n % 2) top ∙ odd (x / 2 ^ j / 2)
    where
      odd : (q : ℕ) → (q * 2 + 1) % 2 ≡ 1
      odd q = omega arith

-- Bit k of n is bit k of n modulo a higher power of 2.
bit-of-rest : (n k d : ℕ) → bit_of n k ≡ bit_of (n % 2 ^ (suc d + k)) k
bit-of-rest n k d = sym (ap (λ (m : ℕ). m % 2) (field n (suc d) k) ∙ ap (λ (e : ℕ). n / 2 ^ k % 2 ^ e % 2) (split d)
    ∙ mod-mod-pow (n / 2 ^ k) d 1)
  where
    split : (d : ℕ) → suc d ≡ d + 1
    split d = omega arith

-- A shift by j + 1 + d is three shifts, by j, 1 and d.
bit-of-top : (n j d : ℕ) → n / 2 ^ (j + 1 + d) ≡ n / 2 ^ j / 2 / 2 ^ d
bit-of-top n j d = sym (ap (λ (m : ℕ). m / 2 ^ d) (shr-shr n j 1) ∙ shr-shr n (j + 1) d)

module _ (x j k : ℕ) where
  lower : k < j → bit_of (with_one x j) k ≡ bit_of x k
  lower h =
      bit-of-rest (with_one x j) k d
      ∙ ap (λ (e : ℕ). bit_of (with_one x j % 2 ^ e) k) same
      ∙ ap (λ (m : ℕ). bit_of m k) (below x j)
      ∙ ap (λ (e : ℕ). bit_of (x % 2 ^ e) k) (sym same)
      ∙ sym (bit-of-rest x k d)
    where
      d : ℕ
      d = j - k - 1

      same : suc d + k ≡ j
      same = omega arith

  higher : j < k → bit_of (with_one x j) k ≡ bit_of x k
  higher h =
      ap (λ (m : ℕ). m % 2)
      (at (with_one x j) ∙ ap (λ (m : ℕ). m / 2 / 2 ^ d) (top x j) ∙ ap (λ (m : ℕ). m / 2 ^ d) (half (x / 2 ^ j / 2))
      ∙ sym (at x))
    where
      d : ℕ
      d = k - j - 1

      same : k ≡ j + 1 + d
      same = omega arith

      at : (n : ℕ) → n / 2 ^ k ≡ n / 2 ^ j / 2 / 2 ^ d
      at n = ap (λ (e : ℕ). n / 2 ^ e) same ∙ bit-of-top n j d

      half : (q : ℕ) → (q * 2 + 1) / 2 ≡ q
      half q = omega arith

  one-other : k ≢ j → bit_of (with_one x j) k ≡ bit_of x k
  one-other n = go (dec_lt k j)
    where
      go : Dec (k < j) → bit_of (with_one x j) k ≡ bit_of x k
      go (yes h) = lower h
      go (no m) = higher (omega arith)

pub set_same : (bytes : List ℕ) (k : ℕ) → k < 8 * length bytes → bit (set_bit bytes k) k ≡ true
unfolding bit set_bit
set_same bytes k h =
    ap (λ (x : ℕ). eqb (bit_of x (k % 8)) 1)
    (get_or-set_same bytes (k / 8) (with_one (get_or bytes (k / 8) 0) (k % 8)) 0 (omega arith))
    ∙ eq-eqb (bit_of (with_one (get_or bytes (k / 8) 0) (k % 8)) (k % 8)) 1 (one_same (get_or bytes (k / 8) 0) (k % 8))

pub set_other : (bytes : List ℕ) (k j : ℕ) → j ≢ k → bit (set_bit bytes k) j ≡ bit bytes j
unfolding bit set_bit
set_other bytes k j n = ap (λ (x : ℕ). eqb x 1)
    (go (dec_lt (k / 8) (length bytes)) (dec_lt (j / 8) (k / 8)) (dec_lt (k / 8) (j / 8)))
  where
    v : ℕ
    v = with_one (get_or bytes (k / 8) 0) (k % 8)

    other : j / 8 ≢ k / 8 → bit_of (get_or (set bytes (k / 8) v) (j / 8) 0) (j % 8) ≡ bit_of (get_or bytes (j / 8) 0) (j % 8)
    other m = ap (λ (x : ℕ). bit_of x (j % 8)) (get_or-set_other bytes (k / 8) (j / 8) v 0 m)

    go : Dec (k / 8 < length bytes) → Dec (j / 8 < k / 8) → Dec (k / 8 < j / 8)
        → bit_of (get_or (set bytes (k / 8) v) (j / 8) 0) (j % 8) ≡ bit_of (get_or bytes (j / 8) 0) (j % 8)
    go (no out) a b = ap (λ (l : List ℕ). bit_of (get_or l (j / 8) 0) (j % 8)) (set_out bytes (k / 8) v (omega arith))
    go (yes h) (yes a) b = other (λ e. omega arith)
    go (yes h) (no a) (yes b) = other (λ e. omega arith)
    go (yes h) (no a) (no b) =
        let e : j / 8 ≡ k / 8 = omega arith in
        ap (λ (m : ℕ). bit_of (get_or (set bytes (k / 8) v) m 0) (j % 8)) e
        ∙ ap (λ (x : ℕ). bit_of x (j % 8)) (get_or-set_same bytes (k / 8) v 0 h)
        ∙ one-other (get_or bytes (k / 8) 0) (k % 8) (j % 8) (λ q. n (omega arith))
        ∙ ap (λ (m : ℕ). bit_of (get_or bytes m 0) (j % 8)) (sym e)

pub id-of-from : (id : List ℕ) → length id ≤ 16 → id_of (id_from id) ≡ id
unfolding id_from
id-of-from id h = take-append_seam id (replicate (16 - length id) 0)

-- The first n bytes of a value are its id, where n is the id's length.
pub held : (x : Id) (n : ℕ) → n ≡ length (id_of x) → take n x.bytes ≡ id_of x
held x n e =
    ap (λ (k : ℕ). take k x.bytes) e
    ∙ sym (take-take (length (id_of x)) x.len x.bytes (omega (arith, length-take x.len x.bytes)))
    ∙ take-length (id_of x)

module _ (x : Id) (n : ℕ) (e : n ≡ length (id_of x)) where
  pub id-fits : n ≤ length x.bytes
  id-fits = omega (arith, e, length-take x.len x.bytes)

  pub id-part : n ≡ length (take n x.bytes)
  id-part = e ∙ ap length (sym (held x n e))
