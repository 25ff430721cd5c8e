-- Rounding up, as the paper and as the library write it; the erase addresses; how many chunks can be done.
use Rattle.std.proofs.Common.{◌≡◌, ℕ, ◌+◌, ◌-◌, ◌*◌, ◌/◌, ◌%◌, ◌^◌, ◌<◌, ◌≤◌, min, Bool, not, ltb, Option, Some, None, true, false, sym, arith}
use Rattle.std.proofs.Math.Nat.{div-eq_of_lt-le, div-mul-le_self, mod-eq_of_lt, mod-lt, mod_self, mul-le-mul_left}
use Rattle.std.proofs.lemmas.Nat.{div-add-mod'}
use Rattle.std.proofs.lemmas.Grind.{div_ceil_times}
use Rattle.std.specs.Int.{next_multiple_of}
use Rattle.std.specs.Option.{SomeIff, is_some, unwrap_or}
use native.Mathlib.Decide.{dec_lt}
use borrow.Author.Tests.{lt-ltb, le-ltb}
use Rattle.paper.specs.Frame as Paper
use Rattle.paper.specs.Answers.{steps, spans_too_far, chunk}
use Rattle.paper.proofs.Chunks.{chunk-multiple}
use Rattle.paper.proofs.Addresses.{below-nil, below-still, below-cons}
use Rattle.image.specs.Images.{erase_after}

module _ (c e : ℕ) (h : 0 < e) where
  pub steps_ceil : steps e c ≡ c / e + min 1 (c % e)
  unfolding steps
  steps_ceil =
      let b = div_ceil_times c e h in
      div-eq_of_lt-le e (omega (arith, b.0)) (omega (arith, b.1))

  pub steps_multiple : steps e c * e ≡ next_multiple_of c e
  steps_multiple = rw steps_ceil (go (dec_lt 0 (c % e)))
    where
      go : Dec (0 < c % e) → (c / e + min 1 (c % e)) * e ≡ next_multiple_of c e
      go (yes l) =
          let below : c % e < e = mod-lt c h in
          let less : e - c % e < e = omega arith in
          let one : min 1 (c % e) ≡ 1 = omega arith in
          rw (mod-eq_of_lt less, one) (omega (arith, div-add-mod' c e))
      go (no l) =
          let none : c % e ≡ 0 = omega arith in
          let whole : e - 0 ≡ e = omega arith in
          rw (none, whole, mod_self e) (omega (arith, div-add-mod' c e))

module _ (i : Paper.Info) (a : ℕ) where
  pub some_next : (n : ℕ) → n ≡ a + i.erase_size → a < n → n < i.capacity → erase_after i a ≡ Some n
  unfolding erase_after
  some_next n e h k = rw (
    below-cons i.erase_size i.capacity a (omega arith) (omega arith),
    below-cons i.erase_size i.capacity (a + i.erase_size) (omega arith) (omega arith),
    e,
  )

  pub none_past : i.capacity ≤ a + i.erase_size → erase_after i a ≡ None
  unfolding erase_after
  none_past h = go (dec_lt 0 i.erase_size) (dec_lt a i.capacity)
    where
      go : Dec (0 < i.erase_size) → Dec (a < i.capacity) → erase_after i a ≡ None
      go (yes p) (yes l) = rw (
        below-cons i.erase_size i.capacity a p l,
        below-nil i.erase_size i.capacity (a + i.erase_size) h,
      )
      go (yes p) (no l) = rw (below-nil i.erase_size i.capacity a (omega arith))
      go (no p) l = let none : i.erase_size ≡ 0 = omega arith in rw (none, below-still i.capacity a)

  pub none_still : i.erase_size ≡ 0 → erase_after i a ≡ None
  unfolding erase_after
  none_still h = rw (h, below-still i.capacity a)

-- The test by the library's rounding is the paper's.
pub spans_is : (i : Paper.Info) (o : Option ℕ) (e : ℕ) (r : Bool) → e ≡ i.erase_size → (e ≡ 0 → ⊥)
    → SomeIff o ((0 < e) × (next_multiple_of i.capacity e < 2 ^ 32)) (next_multiple_of i.capacity e)
    → is_some o ≡ not r → r ≡ spans_too_far i
unfolding spans_too_far
spans_is i o e r q h k t = rw (← q, steps_multiple i.capacity e (omega arith)) (go (next_multiple_of i.capacity e) o r k t)
  where
    go : (n : ℕ) (o : Option ℕ) (r : Bool) → SomeIff o ((0 < e) × (n < 2 ^ 32)) n → is_some o ≡ not r
        → r ≡ ltb 0xFFFFFFFF n
    go n None true k t = by (dec_lt n (2 ^ 32))
      where
        by : Dec (n < 2 ^ 32) → true ≡ ltb 0xFFFFFFFF n
        by (yes l) = absurd (k (omega arith, l))
        by (no l) = sym (lt-ltb 0xFFFFFFFF n (omega arith))
    go n (Some x) false k t = sym (le-ltb 0xFFFFFFFF n (omega (arith, k.0.1)))
    go n None false k t = cc
    go n (Some x) true k t = cc

-- A chunk that is not empty has at least four bytes, so one more than the chunks before an offset fits.
pub few_before : (m offset : ℕ) (b : Option ℕ) → SomeIff b (0 < chunk m) (offset / chunk m) → offset < 2 ^ 64
    → unwrap_or b 0 + 1 < 2 ^ 64
few_before m offset None e h = omega arith
few_before m offset (Some k) e h =
    let four : 4 ≤ chunk m = omega (arith, e.0, chunk-multiple m) in
    omega (arith, e.1, div-mul-le_self offset (chunk m), mul-le-mul_left (offset / chunk m) four)
