-- Each field of a flash's frames fits the bytes that it is written in.
use Prim.Native.Nat.{ℕ, zero, suc, ◌+◌, ◌-◌, ◌^◌, ◌≤◌, ◌<◌}
use mathlib.Core.Bool.{true}
use mathlib.Core.List.{List, [], ◌∷◌, ◌++◌}
use mathlib.Core.Option.{Option, none, some}
use mathlib.Core.Path.{◌≡◌, refl, sym, ◌∙◌, ap, subst}
use native.Mathlib.Omega.{arith}
use lib.Dec.{leb, eqb}
use lib.ListN.{length, take, drop, replicate}
use borrow.Author.Tests.{ltb-false}
use Rattle.paper.specs.Answers.{Reply, ok, device, sound, informed, erase_addresses, too_large, chunk, padded}
use Rattle.paper.specs.Client.{payload_of, demand_frame}
use Rattle.paper.specs.Count.{All}
use Rattle.paper.specs.Frame.{Frame, Info, command-Info, flag-FLUSH}
use Rattle.paper.specs.Hearing.{on_some}
use Rattle.paper.specs.Talk.{piece, Demand, Ask, select, demand, leave, AnswerTo}
use Rattle.paper.specs.Flash.{info_request, erase_request, write_flags, write_size, write_request, verify_request}
use Rattle.lore.proofs.Choice.{either}
use Rattle.paper.proofs.Chunks.{chunk-most, padded-multiple, padded-close, write-size}
use Rattle.paper.proofs.Words.{Bytes, le-length}
use Rattle.theory.specs.FlashOrder as Order
use Rattle.theory.specs.FlashOrder.{Past, asks, told_by, Passed, InOrder, to_inform, to_erase, to_write, to_verify}
use Rattle.theory.specs.FlashOrder.{Front, Allowed}
use Rattle.theory.proofs.EachMember.{all-weaken, all_take, all-last}
use Rattle.theory.proofs.flash.WrittenBytes.{piece-length}
use Rattle.theory.proofs.flash.FlashOrder.{planned-is}
use Rattle.theory.proofs.frames.FramesReadBack.{Fits, bytes-append, bytes_take, bytes_drop, bytes_le}
use Rattle.theory.proofs.flash.EraseAddresses.{addresses-fit, capacity-fits}
use Rattle.theory.proofs.flash.InfoRule.{sound-sizes, informed-sound}

-- The device information, if it is known, satisfies the Info rule.
abbrev SoundAny : Option (Info × List ℕ) → Type 0
SoundAny none = Unit {0}
SoundAny (some i) = sound i.0 ≡ true

sound-reply : (r : Reply) (image : List ℕ) → SoundAny (told_by r image)
unfolding told_by
sound-reply (ok payload) image = go (informed payload) refl
  where
    go : (o : Option Info) → informed payload ≡ o → SoundAny (on_some o none (λ info. some (info, image)))
    go none e = tt
    go (some info) e = informed-sound payload info e
sound-reply (device status) image = tt

sound-in : (q : Ask) (a : AnswerTo q) → SoundAny (Order.told_in q a)
unfolding Order.told_in
sound-in (select p) a = tt
sound-in (demand d) a = either SoundAny (eqb d.command command-Info) {x = told_by a.reply a.image} {y = none}
    (sound-reply a.reply a.image) tt
sound-in (leave d) a = tt

told-sound : (past : Past) → SoundAny (Order.told past)
unfolding Order.told
told-sound [] = tt
told-sound (x ∷ past) = go (Order.told past) (told-sound past)
  where
    go : (o : Option (Info × List ℕ)) → SoundAny o → SoundAny (on_some o (Order.told_in x.asked x.answer) some)
    go none h = sound-in x.asked x.answer
    go (some i) h = h

-- Once the device information passes, the image's length and each address to erase are below 2^32.
module _ (n : ℕ) (past : Past) (info : Info) (p : Passed n (Order.told past) info) where
  passed-sound : sound info ≡ true
  passed-sound = subst SoundAny p.tells (told-sound past)

  passed-size : 0 < info.erase_size
  passed-size = (sound-sizes info passed-sound).erase_size

  passed_length : n ≤ 0xFFFFFFFF
  unfolding too_large
  passed_length = omega (arith, capacity-fits info passed-size p.spans, ltb-false info.capacity n p.fits)

  passed-addresses : All (λ a. a < 256 ^ 4) (erase_addresses info)
  passed-addresses =
      all-weaken (λ x. x + info.erase_size ≤ 0xFFFFFFFF) (λ a. a < 256 ^ 4) (erase_addresses info) (λ x l. omega arith)
      (addresses-fit info passed-size p.spans)

-- The frames of each request.
bytes-replicate : (k : ℕ) → Bytes (replicate k 0xFF)
bytes-replicate zero = tt
bytes-replicate (suc k) = (omega arith, bytes-replicate k)

piece_bytes : (image : List ℕ) (o k : ℕ) → Bytes image → Bytes (payload_of (piece o k) image)
unfolding payload_of
piece_bytes image o k h = bytes-append (take k (drop o image)) _ (bytes_take k (drop o image) (bytes_drop o image h))
    (bytes-replicate (k - (length image - o)))

module _ (n : ℕ) (image : List ℕ) (lent : length image ≡ n) (bytes : Bytes image) where
  abbrev pub frame : Demand → Frame
  frame d = demand_frame d image

  flags-fit : (info : Info) (o : ℕ) → write_flags info n o < 256
  flags-fit info o = either (λ (x : ℕ). x < 256) (leb (padded n) (o + chunk info.max_payload)) {x = flag-FLUSH}
      {y = 0} (omega arith) (omega arith)

  inform-fits : Fits (frame info_request)
  unfolding payload_of
  inform-fits = record {
    command = omega arith;
    status = omega arith;
    flags = omega arith;
    address = omega arith;
    payload = tt;
    short = omega arith;
  }

  erase-fits : (info : Info) (a : ℕ) → a < 256 ^ 4 → Fits (frame (erase_request info a))
  unfolding payload_of
  erase-fits info a l =
      record {
        command = omega arith;
        status = omega arith;
        flags = omega arith;
        address = l;
        payload = bytes_le 2 info.erase_size;
        short = omega (arith, le-length 2 info.erase_size);
      }

  write-fits : (info : Info) (o : ℕ) → o < 256 ^ 4 → Fits (frame (write_request info n o))
  write-fits info o l =
      record {
        command = omega arith;
        status = omega arith;
        flags = flags-fit info o;
        address = l;
        payload = piece_bytes image o (write_size info n o) bytes;
        short = omega (
          arith,
          piece-length image o (write_size info n o),
          write-size info n o,
          chunk-most info.max_payload,
        );
      }

  verify-fits : n < 256 ^ 4 → Fits (frame (verify_request n))
  unfolding payload_of
  verify-fits l = record {
    command = omega arith;
    status = omega arith;
    flags = omega arith;
    address = l;
    payload = tt;
    short = omega arith;
  }

  erase-small : (past : Past) (info : Info) (a : ℕ) → Passed n (Order.told past) info
      → Front past (demand (erase_request info a)) → a < 256 ^ 4
  unfolding Order.erases Order.erase_in
  erase-small past info a p f =
      all-last (λ x. x < 256 ^ 4) (Order.erases (asks past)) a
      (subst (All (λ x. x < 256 ^ 4))
      (sym (f ∙ ap (take (length (Order.erases (asks past) ++ (a ∷ []))))
      (planned-is past (info, p.image) p.tells)))
      (all_take (λ x. x < 256 ^ 4) (length (Order.erases (asks past) ++ (a ∷ []))) (erase_addresses info)
      (passed-addresses n past info p)))

  pub in-order-fits : (past : Past) (d : Demand) → Allowed n past (demand d) → Fits (frame d)
  in-order-fits past d h = go h.ordered
    where
      go : InOrder n past d → Fits (frame d)
      go (to_inform e f) = subst (λ (d : Demand). Fits (frame d)) (sym f) inform-fits
      go (to_erase may e) =
          subst (λ (d : Demand). Fits (frame d)) (sym e)
          (erase-fits may.info d.address
          (erase-small past may.info d.address may.passed
          (subst (λ (d : Demand). Front past (demand d)) e h.front)))
      go (to_write may l e) =
          subst (λ (d : Demand). Fits (frame d)) (sym e)
          (write-fits may.info (Order.written past)
          (omega (arith, l, padded-close n, padded-multiple n, passed_length n past may.info may.passed)))
      go (to_verify may t e) = subst (λ (d : Demand). Fits (frame d)) (sym e)
          (verify-fits (omega (arith, passed_length n past may.info may.passed)))
