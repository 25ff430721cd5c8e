-- An array of bytes stays one when a byte or a bit is set, or when it is cut after k bits. An id of bytes fits.
use Prim.Native.Nat.{ℕ, zero, suc, ◌-◌, ◌/◌, ◌%◌, ◌^◌, ◌<◌, ◌≤◌}
use mathlib.Core.Bool.{Bool, true, false, cond}
use mathlib.Core.List.{List, [], ◌∷◌}
use mathlib.Core.Path.{◌≡◌, refl, ◌∙◌}
use native.Mathlib.Nat.{mod-le}
use native.Mathlib.Omega.{arith}
use lib.Bits.{or_lt}
use lib.Dec.{ltb}
use lib.ListN.{length, get_or, set, replicate, length-append, length-replicate, length-set}
use lib.Pow.{pow-lt}
use borrow.Author.Tests.{ltb-false}
use Rattle.paper.specs.Hearing as Paper
use Rattle.paper.specs.Hearing.{nothing, one, unaddressed, garble, hear}
use Rattle.paper.proofs.Fields.{byte-below}
use Rattle.paper.proofs.Words.{Bytes}
use Rattle.theory.proofs.walk.CarriedIds.{Telling, heard-bytes}
use Rattle.theory.proofs.frames.FramesReadBack.{bytes-append}
use Rattle.ids.specs.Ids.{with_one, set_bit, id_from}
use Rattle.ids.proofs.Shift.{or-shl}
use Rattle.ids.specs.Paths.{cut}
use Rattle.hearing.specs.Heard.{id_in, one_heard, shown_heard}
use Rattle.hearing.specs.declared.Hearing.{Hearing}
use Rattle.host_state.specs.State.{Array, IdFits}
use Rattle.host_state.proofs.Laws.{zero-bytes, no-id-fits}

-- To show P of a choice, show it of each side under its condition.
pub chosen : {A : Type 0} (P : A → Type 0) (b : Bool) (x y : A) → (b ≡ true → P x) → (b ≡ false → P y) → P (cond b x y)
chosen P true x y p q = p refl
chosen P false x y p q = q refl

bytes-set : (l : List ℕ) (i v : ℕ) → Bytes l → v < 256 → Bytes (set l i v)
bytes-set [] i v h k = tt
bytes-set (x ∷ l) zero v h k = (k, h.1)
bytes-set (x ∷ l) (suc i) v h k = (h.0, bytes-set l i v h.1 k)

module _ (n : ℕ) (l : List ℕ) (h : Array n l) where
  pub array-set : (i v : ℕ) → v < 256 → Array n (set l i v)
  array-set i v k = (length-set l i v ∙ h.0, bytes-set l i v h.1 k)

  pub array-cut : (k : ℕ) → Array n (cut l k)
  unfolding cut
  array-cut k = array-set (k / 8) (get_or l (k / 8) 0 % 2 ^ (k % 8))
      (omega (arith, mod-le (get_or l (k / 8) 0) (2 ^ (k % 8)), byte-below l (k / 8) h.1))

  pub array-bit : (k : ℕ) → Array n (set_bit l k)
  unfolding set_bit
  array-bit k = array-set (k / 8) (with_one (get_or l (k / 8) 0) (k % 8))
      (below (get_or l (k / 8) 0) (k % 8) (byte-below l (k / 8) h.1) (omega arith))
    where
      below : (x j : ℕ) → x < 256 → j < 8 → with_one x j < 256
      below x j hx hj = rw (← or-shl x j) (or_lt 8 x (2 ^ j) hx (pow-lt {i = j} {j = 8} hj))

-- An id of at most 16 bytes.
pub id-made-fits : (s : List ℕ) → length s ≤ 16 → Bytes s → IdFits (id_from s)
unfolding id_from
id-made-fits id short h = record {
  bytes = (
    omega (arith, length-append id (replicate (16 - length id) 0), length-replicate {A = ℕ} (16 - length id) 0),
    bytes-append id (replicate (16 - length id) 0) h (zero-bytes (16 - length id)),
  );
  len = omega arith;
}

pub id-from-fits : (id : List ℕ) → length id ≤ 16 → Bytes id → IdFits (id_from id)
unfolding id_from
id-from-fits id short h = record {
  bytes = (
    omega (arith, length-append id (replicate (16 - length id) 0), length-replicate {A = ℕ} (16 - length id) 0),
    bytes-append id (replicate (16 - length id) 0) h (zero-bytes (16 - length id)),
  );
  len = omega arith;
}

-- The id heard in some bytes.
pub heard-fits : (bytes : List ℕ) → Bytes bytes → IdFits (id_in (shown_heard (hear bytes)))
unfolding one_heard
heard-fits bytes h = go (hear bytes) (heard-bytes bytes h)
  where
    go : (x : Paper.Heard) → Telling Bytes x → IdFits (id_in (shown_heard x))
    go nothing t = no-id-fits
    go (one id) t =
        chosen (λ (x : Hearing). IdFits (id_in x)) (ltb 16 (length id)) _ _ (λ e. no-id-fits)
        (λ e. id-made-fits id (ltb-false 16 (length id) e) t)
    go unaddressed t = no-id-fits
    go garble t = no-id-fits
