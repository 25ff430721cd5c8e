-- Lemmas for each path through the reader: the search for A5, the check, and a frame with its places in the record.
use Prim.Native.Nat.{ℕ, ◌+◌, ◌-◌, ◌<◌, ◌≤◌}
use mathlib.Core.Bool.{Bool, true, false, cond, not}
use mathlib.Core.List.{List}
use mathlib.Core.Path.{◌≡◌, refl, sym, ◌∙◌, ap}
use native.Mathlib.Nat.{add-zero, le_of_lt}
use native.Mathlib.Omega.{arith}
use lib.ListN.{length, take, drop, length-drop, drop_of_length-le}
use lib.Seq.{drop-drop, length-take-le}
use lib.Dec.{eqb, ltb}
use Rattle.std.specs.Prelude.{Option, Some, None, Result, Ok, Err}
use Rattle.std.specs.List.{position, position_or_len}
use Rattle.std.specs.Option.{unwrap_or}
use Rattle.std.proofs.lemmas.List.Recursion.{is_position_or_len}
use Rattle.std.proofs.lemmas.List.Sums.{prefix_len-le-length}
use borrow.Author.Tests.{le-ltb, ltb-false}
use Rattle.lore.proofs.Parts.{part-all, part-between}
use Rattle.paper.specs.Frame as Paper
use Rattle.paper.specs.Frame.{field, byte, skipped, check, crc_from, right_check, read_sized, read_synced, read, short}
use Rattle.paper.specs.Frame.{too_long, bad_check, whole}
use Rattle.reader.specs.declared.Frame.{Frame}
use Rattle.reader.specs.declared.Unread.{Unread}
use Rattle.reader.specs.declared.Unread.TheVariants.{Short, BadCheck}
use Rattle.reader.specs.Shown.{frame_at, fields_at, shown_from}

-- The bytes before the first A5, from its place as the library finds it.
pub first : (s : List ℕ) (o : Option ℕ) (n : ℕ) → n ≡ unwrap_or o (length s) → o ≡ position (λ b. eqb b 0xA5) s
    → n ≡ skipped s
unfolding skipped
first s o n en eo = en ∙ rw eo (go (ltb k (length s)) refl) ∙ sym same
  where
    k : ℕ
    k = position_or_len (λ b. eqb b 0xA5) s

    same : skipped s ≡ k
    same = is_position_or_len skipped (λ b. eqb b 0xA5) refl (λ x xs. refl) s

    go : (b : Bool) → ltb k (length s) ≡ b → unwrap_or (cond b (Some k) None) (length s) ≡ k
    go true e = refl
    go false e = omega (arith, prefix_len-le-length (λ b. not (eqb b 0xA5)) s, ltb-false k (length s) e)

pub checked : (s : List ℕ) (n c w : ℕ) → c ≡ crc_from 0xFFFF (take (10 + n - 1) (drop 1 s)) → w ≡ field (10 + n) 2 s
    → eqb c w ≡ right_check n s
unfolding right_check check
checked s n c w ec ew = rw (ec, ew, part-between 1 (10 + n) s)

pub fields_read : (s : List ℕ) (base n a : ℕ) → a ≡ field 4 4 s
    → record {
      command = byte 1 s;
      status = byte 2 s;
      flags = byte 3 s;
      address = a;
      payload = base + 10;
      len = n;
      end = base + (12 + n);
    } ≡ fields_at base n s
fields_read s base n a e = rw e

-- The paper's fields with n bytes of payload, as the code reads them.
fields-shown : (base n : ℕ) (s : List ℕ) → 12 + n ≤ length s → frame_at (base + 0) (Paper.fields n s) ≡ fields_at base n s
fields-shown base n s h = rw (add-zero base, length-take-le n (drop 10 s) (omega (arith, length-drop 10 s)))

module _ (s : List ℕ) (base n : ℕ) (f : Frame) (m : Bool) (small : n ≤ 1024) (room : 12 + n ≤ length s)
    (ef : f ≡ fields_at base n s) (em : m ≡ right_check n s) where
  pub read_whole : m ≡ true → Ok f ≡ shown_from base (read_sized 0 n s)
  unfolding read_sized
  read_whole h = simp (le-ltb _ _ small, le-ltb _ _ room, sym em ∙ h) (ap Ok (ef ∙ sym (fields-shown base n s room)))

  pub read-bad : m ≡ false → Err (BadCheck f) ≡ shown_from base (read_sized 0 n s)
  unfolding read_sized
  read-bad h = simp (le-ltb _ _ small, le-ltb _ _ room, sym em ∙ h)
      (ap (λ (g : Frame). Err (BadCheck g)) (ef ∙ sym (fields-shown base n s room)))

pub read-sized : (s : List ℕ) (base w : ℕ) (r : Result Frame Unread) → 10 ≤ length s → w ≡ field 8 2 s
    → r ≡ shown_from base (read_sized 0 w s) → r ≡ shown_from base (read_synced 0 s)
unfolding read_synced
read-sized s base w r h ew er = simp (le-ltb _ _ h, ← ew) er

-- Skipped bytes move the frame's places.
shown-skipped : (at k : ℕ) (s : List ℕ) → shown_from (at + k) (read_synced 0 s) ≡ shown_from at (read_synced k s)
unfolding read_synced read_sized
shown-skipped at k s = go (ltb (length s) 10) (ltb Paper.most n) (ltb (length s) (12 + n)) (right_check n s)
  where
    n : ℕ
    n = field 8 2 s

    f : Paper.Frame
    f = Paper.fields n s

    judged : ℕ → (a b c d : Bool) → Paper.Reading
    judged k a b c d = cond a short (cond b too_long (cond c short (cond d (whole k f) (bad_check k f))))

    go : (a b c d : Bool) → shown_from (at + k) (judged 0 a b c d) ≡ shown_from at (judged k a b c d)
    go true b c d = refl
    go false true c d = refl
    go false false true d = refl
    go false false false true = rw (add-zero (at + k))
    go false false false false = rw (add-zero (at + k))

pub read-from : (s : List ℕ) (at k : ℕ) (r : Result Frame Unread) → k ≡ skipped (take (length s - at) (drop at s))
    → r ≡ shown_from (at + k) (read_synced 0 (take (length s - (at + k)) (drop (at + k) s)))
    → r ≡ shown_from at (read (drop at s))
unfolding read
read-from s at k r ek er =
    let same : k ≡ skipped (drop at s) = rw (part-all at s) at ek in
    er ∙ rw (part-all (at + k) s, drop-drop, ← same) (shown-skipped at k (drop (at + k) s))

pub read_past : (s : List ℕ) (at : ℕ) → length s < at → Err Short ≡ shown_from at (read (drop at s))
unfolding read read_synced skipped
read_past s at h = rw (drop_of_length-le s {i = at} (le_of_lt h))
