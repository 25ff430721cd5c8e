-- Lemmas for `ids::path::begins`, which compares an id with the first bits of a path.
use Prim.Native.Nat.{ℕ, zero, suc, ◌+◌, ◌*◌, ◌<◌, ◌≤◌}
use mathlib.Core.Bool.{Bool, false, beq, ◌&&◌}
use mathlib.Core.List.{List, ◌∷◌}
use mathlib.Core.Path.{◌≡◌, refl, sym, ◌∙◌, ap}
use native.Mathlib.Decide.{dec_lt}
use native.Mathlib.Numerals.{add-one}
use native.Mathlib.Omega.{arith}
use lib.Dec.{ltb}
use lib.ListN.{length, take, drop, length-take, drop_of_length-le}
use lib.Seq.{drop-cons, get_or-take}
use borrow.Author.Tests.{lt-ltb, le-ltb}
use Rattle.std.specs.List.{list_all, range_with_len}
use Rattle.paper.specs.Hearing.{bit, bits_of, begins}
use Rattle.paper.proofs.Bits.{bits-length, bits_at}
use Rattle.ids.proofs.Ways.{bit_in}

-- Whether an id of `size` bytes, with zeros or others after them, has bit k of the path.
abbrev pub has_bit : List ℕ → List ℕ → ℕ → ℕ → Bool
has_bit path x size k = ltb k (8 * size) && beq (bit path k) (bit x k)

module _ (path x : List ℕ) (bits len : ℕ) (long : length path ≡ 16) (few : bits ≤ 128) where
  -- The bits from k on, as bit k and those after it: of the path, and of the id.
  at_path : (k : ℕ) → k < bits → drop k (take bits (bits_of path)) ≡ bit path k ∷ drop (k + 1) (take bits (bits_of path))
  at_path k h =
      rw (add-one k)
      (drop-cons (take bits (bits_of path)) k false (omega (arith, length-take bits (bits_of path), bits-length path))
      ∙ ap (λ (v : Bool). v ∷ drop (suc k) (take bits (bits_of path)))
      (get_or-take bits (bits_of path) k false h ∙ bits_at path k (omega arith)))

  at-id : (k : ℕ) → k < 8 * length (take len x)
      → drop k (bits_of (take len x)) ≡ bit x k ∷ drop (k + 1) (bits_of (take len x))
  at-id k h =
      rw (add-one k)
      (drop-cons (bits_of (take len x)) k false (omega (arith, bits-length (take len x)))
      ∙ ap (λ (v : Bool). v ∷ drop (suc k) (bits_of (take len x)))
      (sym (bit_in x len (length (take len x)) k refl (bit x k) h refl)))

  -- The d bits from k on, which are the last of those compared.
  from : (d k : ℕ) → k + d ≡ bits → list_all (has_bit path x (length (take len x))) (range_with_len k d)
      ≡ begins (drop k (take bits (bits_of path))) (drop k (bits_of (take len x)))
  unfolding begins
  from zero k e = rw (drop_of_length-le (take bits (bits_of path)) {i = k} (omega (arith, length-take bits (bits_of path))))
  from (suc d) k e =
      elim (dec_lt k (8 * length (take len x))) [
        | yes h ↦ rw (at_path k (omega arith), at-id k h, lt-ltb k (8 * length (take len x)) h)
            (ap (λ (b : Bool). beq (bit path k) (bit x k) && b) (from d (k + 1) (omega arith)))
        | no h ↦ rw (
          at_path k (omega arith),
          drop_of_length-le (bits_of (take len x)) {i = k} (omega (arith, bits-length (take len x))),
          le-ltb k (8 * length (take len x)) (omega arith),
        )
      ]

  pub begins_is : (r : Bool) → r ≡ list_all (has_bit path x (length (take len x))) (range_with_len 0 bits)
      → r ≡ begins (take bits (bits_of path)) (bits_of (take len x))
  begins_is r e = e ∙ from bits 0 (omega arith)
