-- The wire of some devices is an honest wire in document 01's sense: the premise on wires can be met.
use Prim.Native.Nat.{ℕ, suc, ◌+◌, ◌/◌, ◌%◌, ◌≤◌}
use mathlib.Core.List.{List, [], ◌∷◌}
use mathlib.Core.Path.{◌≡◌, refl, ◌∙◌, ap}
use native.Mathlib.Omega.{arith}
use lib.ListN.{length, take}
use lib.Seq.{take-append-le}
use Rattle.paper.specs.Client.{bytes_of}
use Rattle.paper.specs.Count.{matching, heard_of, All, Pods}
use Rattle.paper.specs.Frame.{le, read, read_synced, skipped, frame_head, frame_body, frame_check, frame_bytes}
use Rattle.paper.specs.Frame.{command-Select, status-Ok}
use Rattle.paper.specs.Hearing.{Id, Prefix, bits_of, garble, select_payload, packed, clean, frames, hear, select_frame}
use Rattle.paper.specs.Talk.{select}
use Rattle.paper.proofs.Bits.{bits-length}
use Rattle.paper.proofs.Packed.{packed-length, packed-read}
use Rattle.paper.proofs.Words.{Bytes}
use Rattle.theory.proofs.EachMember.{all-weaken, all_both}
use Rattle.theory.proofs.frames.FramesReadBack as FramesReadBack
use Rattle.theory.proofs.frames.RecordsHeard.{nothing-heard, hear-ok}
use Rattle.theory.proofs.walk.MatchingIds.{matching-extends, all-matching}
use Rattle.refinement.specs.ClientServed.{heard_by, Honest, bits_in, spoken, devices}
use Rattle.refinement.proofs.client.RequestBytes.{bits-append}

-- The prefix read from a Select's bytes is the one selected.
bits-in : (q : Prefix) (seed : ℕ) → bits_in (bytes_of (select q) seed []) ≡ q
unfolding bits_in bytes_of frame_bytes frame_body frame_head select_payload le
bits-in q seed =
    ap (take (length q)) (bits-append (packed n q) tail)
    ∙ take-append-le (length q) (bits_of (packed n q)) (bits_of tail)
    (rw (bits-length (packed n q), packed-length n q) (omega arith))
    ∙ packed-read n q (omega arith)
  where
    n : ℕ
    n = (length q + 7) / 8

    tail : List ℕ
    tail = le 2 (frame_check (frame_body (select_frame seed q)))

stray : hear (0 ∷ []) ≡ garble
unfolding hear frames clean read read_synced skipped
stray = refl

reply-fits : (x : Id) → length x ≤ 16 → Bytes x
    → FramesReadBack.Fits (record { command = command-Select; status = status-Ok; flags = 0; address = 0; payload = x })
reply-fits x h b = record {
  command = omega arith;
  status = omega arith;
  flags = omega arith;
  address = omega arith;
  payload = b;
  short = omega arith;
}

spoken-heard : (ids : List Id) → All (λ x. (length x ≤ 16) × Bytes x) ids → hear (spoken ids) ≡ heard_of ids
unfolding spoken heard_of
spoken-heard [] h = nothing-heard
spoken-heard (x ∷ []) h = hear-ok _ (reply-fits x h.0.0 h.0.1) refl
spoken-heard (x ∷ y ∷ zs) h = stray

-- Of any ids, those that match the given prefix must have at most 16 bytes. The others do not matter.
pub devices-honest : (S : List Id) (seed : ℕ) (given : Prefix)
    → All (λ x. (length x ≤ 16) × Bytes x) (matching given S) → Honest (devices S) seed given S
unfolding heard_by devices
devices-honest S seed given small k q l e n = rw (bits-in q ((seed + suc k) % 256)) (spoken-heard (matching q S) under)
  where
    under : All (λ x. (length x ≤ 16) × Bytes x) (matching q S)
    under = rw (matching-extends given q S e) at (all-matching q _ (matching given S) small)

pub pods-honest : (S : List Id) (L seed : ℕ) (given : Prefix) → Pods L (matching given S)
    → Honest (devices S) seed given S
pods-honest S L seed given pods = devices-honest S seed given (all_both _ Bytes (matching given S) small pods.bytes)
  where
    small : All (λ x. length x ≤ 16) (matching given S)
    small = all-weaken _ _ (matching given S) (λ x e. omega (arith, pods.within16)) pods.sized
