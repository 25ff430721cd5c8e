-- The loops of `crc16`: two more bytes, the single byte after the pairs, and the end.
use Prim.Native.Nat.{ℕ, suc, ◌+◌, ◌*◌, ◌/◌, ◌<◌, ◌≤◌}
use mathlib.Core.List.{List, []}
use mathlib.Core.Path.{◌≡◌}
use native.Mathlib.Nat.{add-zero}
use native.Mathlib.Omega.{arith}
use lib.ListN.{length, drop, get_or, drop_of_length-le}
use lib.Seq.{drop-cons}
use Rattle.std.specs.Simd.{first_chunks}
use Rattle.lore.proofs.Chunks.{get_or-chunk}
use Rattle.paper.specs.Frame.{crc_byte, crc_from}

module _ (s : List ℕ) (start c i : ℕ) where
  module _ (pairs : List (List ℕ)) (is : pairs ≡ first_chunks 2 (length s / 2) s) (many : length pairs ≡ length s / 2)
      (q : crc_from c (drop (2 * i) s) ≡ crc_from start s) where
    pub two_more : (r : ℕ) → i < length pairs
        → r ≡ crc_byte (crc_byte c (get_or (get_or pairs i []) 0 0)) (get_or (get_or pairs i []) 1 0)
        → crc_from r (drop (2 * (i + 1)) s) ≡ crc_from start s
    unfolding crc_from
    two_more r h e =
        let two : 2 * (i + 1) ≡ suc (suc (2 * i)) = omega arith in
        let one : 2 * i + 1 ≡ suc (2 * i) = omega arith in
        let a : get_or (get_or pairs i []) 0 0 ≡ get_or s (2 * i) 0 =
        rw is (simp add-zero at (get_or-chunk 2 (length s / 2) s i 0 0 (omega arith) (omega arith))) in
        let b : get_or (get_or pairs i []) 1 0 ≡ get_or s (suc (2 * i)) 0 =
        rw is (rw one at (get_or-chunk 2 (length s / 2) s i 1 0 (omega arith) (omega arith))) in
        rw (two, e, a, b) (rw (drop-cons s (2 * i) 0 (omega arith), drop-cons s (suc (2 * i)) 0 (omega arith)) at q)

    pub pairs_done : (last : List ℕ) → last ≡ drop (length s / 2 * 2) s → i ≤ length pairs → length pairs ≤ i
        → crc_from c last ≡ crc_from start s
    pairs_done last e h g = let m : length s / 2 * 2 ≡ 2 * i = omega arith in rw (e, m) q

  module _ (last : List ℕ) (q : crc_from c (drop i last) ≡ crc_from start s) where
    pub one_more : (r : ℕ) → i < length last → r ≡ crc_byte c (get_or last i 0)
        → crc_from r (drop (i + 1) last) ≡ crc_from start s
    unfolding crc_from
    one_more r h e = let one : i + 1 ≡ suc i = omega arith in rw (one, e) (rw (drop-cons last i 0 h) at q)

    pub done : length last ≤ i → c ≡ crc_from start s
    unfolding crc_from
    done h = rw (drop_of_length-le last h) at q
