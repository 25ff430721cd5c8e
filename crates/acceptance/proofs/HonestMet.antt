-- What meets the premise of condition 3: wires that are honest for the Selects that a discovery sends before its
-- deselect, but not for every Select.
use Prim.Native.Nat.{ℕ, suc, ◌+◌, ◌%◌, ◌≤◌}
use mathlib.Core.Bool.{Bool, true, false, ◌||◌, cond}
use mathlib.Core.List.{List, [], ◌∷◌, ◌++◌}
use mathlib.Core.Path.{◌≡◌, refl, sym, ◌∙◌, ap, subst}
use native.Mathlib.Omega.{arith}
use lib.Dec.{ltb}
use lib.ListN.{drop, length, length-append, replicate, length-replicate}
use borrow.Author.Tests.{le-ltb}
use Rattle.paper.specs.Client.{bytes_of}
use Rattle.paper.specs.Count.{matching, heard_of, honest, Pods, selects}
use Rattle.paper.specs.Frame.{byte, le, frame_head, frame_body, frame_bytes, skipped, read_synced, read}
use Rattle.paper.specs.Hearing.{Id, Prefix, bit, bits_of, counting, begins, before, one, garble, select_payload, clean}
use Rattle.paper.specs.Hearing.{frames, hear}
use Rattle.paper.specs.Talk.{select}
use Rattle.paper.specs.Walk.{◌>>=◌, long, ask, is_nothing, same_id, is_one, confirm_rest, confirm, keep, judge, walk}
use Rattle.paper.specs.Walk.{insert, sort, discover, done, run}
use Rattle.paper.proofs.Bits.{bits-length}
use Rattle.theory.proofs.frames.IdBits.{bits-cons}
use Rattle.theory.proofs.walk.CarriedIds.{Telling, heard-small}
use Rattle.theory.proofs.walk.MatchingIds.{matching-yes, matching-not, matching-extends}
use Rattle.theory.proofs.walk.PrefixMatches.{begins-splits}
use Rattle.theory.proofs.walk.OneLength.{discover-exact}
use Rattle.refinement.specs.ClientServed.{Wire, discovered, resting, heard_by, Honest, Finds, devices}
use Rattle.refinement.proofs.wire.DevicesHonest.{pods-honest}
use Rattle.acceptance.proofs.Condition3 as Condition3
use Rattle.acceptance.proofs.Discoveries.{select_room}
use Rattle.acceptance.proofs.Instances.{attached}

-- The only pod, 01, and its bits as the prefix.
abbrev pod : Id
pod = 0x01 ∷ []

abbrev under : Prefix
under = bits_of pod

-- Returns a stray byte for a Select of fewer than 8 bits, which is never sent, and for the deselect, whose record is
-- ignored. Otherwise returns the pod's reply.
unfoldable pub garbling : Wire
garbling k bytes = cond (ltb (byte 11 bytes) 8 || ltb 128 (byte 11 bytes)) (0 ∷ []) (devices (pod ∷ []) k bytes)

count-in : (q : Prefix) (seed : ℕ) → byte 11 (bytes_of (select q) seed []) ≡ length q
unfolding bytes_of frame_bytes frame_body frame_head select_payload le
count-in q seed = refl

garbling-clear : (k : ℕ) (q : Prefix) (seed : ℕ) → 8 ≤ length q → length q ≤ 128
    → garbling k (bytes_of (select q) seed []) ≡ devices (pod ∷ []) k (bytes_of (select q) seed [])
unfolding garbling
garbling-clear k q seed h g = rw (count-in q seed, le-ltb (length q) 8 h, le-ltb 128 (length q) g)

run-pod : run (honest (pod ∷ [])) 0 (discover under) ≡ (done (pod ∷ []), 2)
unfolding discover run honest heard_of matching sort insert before walk judge keep confirm confirm_rest is_one is_nothing
    ask long ◌>>=◌ bits_of counting bit begins same_id
run-pod = refl

alone : matching under (pod ∷ []) ≡ pod ∷ []
unfolding matching begins bits_of counting bit
alone = refl

pods : (S : List Id) → matching under S ≡ pod ∷ [] → Pods 1 (matching under S)
pods S only = rw only (record {
  few = omega arith;
  distinct = (tt, tt);
  sized = (refl, tt);
  bytes = ((omega arith, tt), tt);
  within16 = omega arith;
})

-- For any ids of which only this pod matches.
module _ (S : List Id) (only : matching under S ≡ pod ∷ []) where
  same : (q : Prefix) → begins under q ≡ true → matching q (pod ∷ []) ≡ matching q S
  same q e = ap (matching q) (sym only) ∙ matching-extends under q S e

  garbling-honest : (seed : ℕ) → Honest garbling seed under S
  unfolding heard_by
  garbling-honest seed k q l e n =
      let h : 8 ≤ length q = omega (
        arith,
        ap length (begins-splits under q e),
        length-append under (drop (length under) q),
        bits-length pod,
      ) in
      ap hear (garbling-clear k q ((seed + suc k) % 256) h n)
      ∙ pods-honest (pod ∷ []) 1 seed under (pods (pod ∷ []) alone) k q l e n ∙ ap heard_of (same q e)

  found : sort (matching under S) ≡ pod ∷ []
  unfolding sort insert
  found = rw only

  -- The count is that of the run on the wire of this pod.
  takes-2 : selects S 1 under ≡ 2
  unfolding honest
  takes-2 = ap (λ p. p.1) (sym (discover-exact (honest (pod ∷ [])) S 1 under (λ k q l e n. ap heard_of (same q e))
      (omega (arith, bits-length pod)) (pods S only)) ∙ run-pod)

  finds-pod : (wire : Wire) → Honest wire 250 under S
      → Finds 250 (pod ∷ []) 2 (discovered select_room wire (resting 250 attached) pod)
  finds-pod wire h =
      rw (← found, ← takes-2)
      (Condition3.finds select_room (omega arith) 250 (omega arith) attached (omega arith) pod (omega arith)
      (omega arith, tt) wire S 1 h (pods S only)).0

-- With the pod alone.
pub garbling-honest-met : Honest garbling 250 under (pod ∷ [])
garbling-honest-met = garbling-honest (pod ∷ []) alone 250

pub garbling-finds-met : Finds 250 (pod ∷ []) 2 (discovered select_room garbling (resting 250 attached) pod)
garbling-finds-met = finds-pod (pod ∷ []) alone garbling garbling-honest-met

-- This wire is not honest for every Select: with the empty prefix it returns garble.
pub garbling-not-always : ¬ ((k : ℕ) (q : Prefix) → heard_by garbling 250 k q ≡ heard_of (matching q (pod ∷ [])))
unfolding heard_by garbling bytes_of frame_bytes frame_body frame_head select_payload le hear frames clean read read_synced
    skipped heard_of matching begins
garbling-not-always h = let e : garble ≡ one pod = h 0 [] in let z : ◌≡◌ {A = ℕ} 0 1 = cc in omega arith

-- An id of 1,025 bytes, more than a frame can carry. It does not match.
unfoldable pub zeros : Id
zeros = replicate 1025 0

-- Bits that begin with those of a zero byte.
abbrev after-zero : List Bool → List Bool
after-zero bits = counting (bit (0x00 ∷ [])) 0 8 ++ bits

zeros-bits : bits_of zeros ≡ after-zero (bits_of (replicate 1024 0))
unfolding zeros
zeros-bits = bits-cons 0 (replicate 1024 0)

under-other : (bits : List Bool) → begins under (after-zero bits) ≡ false
unfolding bits_of counting bit begins
under-other bits = refl

beside : matching under (zeros ∷ pod ∷ []) ≡ pod ∷ []
beside = matching-not under zeros (pod ∷ []) (rw zeros-bits (under-other (bits_of (replicate 1024 0)))) ∙ alone

-- The pod together with that id: on the wire above, and on the wire of both.
pub garbling-beside-met : Honest garbling 250 under (zeros ∷ pod ∷ [])
garbling-beside-met = garbling-honest (zeros ∷ pod ∷ []) beside 250

pub devices-beside-met : Honest (devices (zeros ∷ pod ∷ [])) 250 under (zeros ∷ pod ∷ [])
devices-beside-met = pods-honest (zeros ∷ pod ∷ []) 1 250 under (pods (zeros ∷ pod ∷ []) beside)

pub devices-finds-met : Finds 250 (pod ∷ []) 2
    (discovered select_room (devices (zeros ∷ pod ∷ [])) (resting 250 attached) pod)
devices-finds-met = finds-pod (zeros ∷ pod ∷ []) beside (devices (zeros ∷ pod ∷ [])) devices-beside-met

-- No wire is honest for every Select with these two ids: under a zero bit the long id is alone, and no frame can carry
-- it.
zero-first : (bits : List Bool) → begins (false ∷ []) (after-zero bits) ≡ true
unfolding counting bit begins
zero-first bits = refl

pod-other : matching (false ∷ []) (pod ∷ []) ≡ []
unfolding matching begins bits_of counting bit
pod-other = refl

zeros-alone : matching (false ∷ []) (zeros ∷ pod ∷ []) ≡ zeros ∷ []
zeros-alone = matching-yes (false ∷ []) zeros (pod ∷ []) (rw zeros-bits (zero-first (bits_of (replicate 1024 0))))
    ∙ ap (zeros ∷◌) pod-other

pub beside-not-always : (wire : Wire)
    → ¬ ((k : ℕ) (q : Prefix) → heard_by wire 250 k q ≡ heard_of (matching q (zeros ∷ pod ∷ [])))
unfolding heard_by heard_of zeros
beside-not-always wire h =
    let heard : heard_by wire 250 0 (false ∷ []) ≡ one zeros = h 0 (false ∷ []) ∙ ap heard_of zeros-alone in
    let small : length zeros ≤ 1024 =
    subst (Telling (λ x. length x ≤ 1024)) heard (heard-small (wire 0 (bytes_of (select (false ∷ [])) 251 []))) in
    omega (arith, length-replicate {A = ℕ} 1025 0)
