-- Each operation, started on a client with none and driven over any rounds, stands where document 01's conversation
-- does.
use Prim.Native.Nat.{ℕ, ◌*◌, ◌≤◌, ◌<◌}
use mathlib.Core.Bool.{Bool, true, ◌&&◌}
use mathlib.Core.List.{List}
use mathlib.Core.Option.{Option, none, some}
use mathlib.Core.Path.{◌≡◌, ◌∙◌, ap, subst}
use native.Mathlib.Omega.{arith}
use lib.Dec.{leb}
use lib.ListN.{length, take, length-take}
use borrow.Author.Tests.{le-leb}
use Rattle.paper.specs.Attach.{select_only, deselect, attach, discover}
use Rattle.paper.specs.Client as Paper
use Rattle.paper.specs.Client.{start_with, within_longest}
use Rattle.paper.specs.Count.{All}
use Rattle.paper.specs.Flash.{inform_only, erase, flash, reset}
use Rattle.paper.specs.Hearing.{Id, bits_of}
use Rattle.paper.specs.Talk.{Talk, Outcome}
use Rattle.paper.proofs.Bits.{bits-length}
use Rattle.paper.proofs.Words.{Bytes}
use Rattle.theory.specs.ClientMachine as Machine
use Rattle.theory.specs.ClientMachine.{Brief, idle, resets}
use Rattle.theory.specs.ClientDriven as ClientDriven
use Rattle.theory.specs.ClientDriven.{Round, Lends}
use Rattle.theory.specs.HandedOut.{FlashOrder}
use Rattle.theory.specs.OperationMachine.{probing, parting, seeking, walking, tell, clear, load, informing, Phase}
use Rattle.theory.specs.OperationMachine.{selecting, demanding, starting}
use Rattle.theory.proofs.client.DrivenIsTalk.{any_lent, driven-stands}
use Rattle.theory.proofs.flash.HandedOutInOrder.{flash-order}
use Rattle.theory.proofs.client.ClientsFit.{Fits, start_select-fits, start_deselect-fits, start_attach-fits}
use Rattle.theory.proofs.client.ClientsFit.{start_discover-fits, start_info-fits, start_erase-fits, start_flash-fits}
use Rattle.theory.proofs.client.ClientsFit.{start_reset-fits, start_set_baud-fits}
use Rattle.theory.proofs.talk.RequestSizes.{Modest, room, select-modest, deselect-modest, attach-modest}
use Rattle.theory.proofs.talk.RequestSizes.{discover-modest, inform-modest, erase-modest, flash-modest, reset-modest}
use Rattle.theory.proofs.client.MachineIsClient.{paper_of, left_of, told_of, start_select-sim, start_deselect-sim}
use Rattle.theory.proofs.client.MachineIsClient.{start_attach-sim, start_discover-sim, start_info-sim, start_erase-sim}
use Rattle.theory.proofs.client.MachineIsClient.{start_flash-sim, start_reset-sim, start_set_baud-sim}
use Rattle.client.specs.declared.Started.{Started}
use Rattle.client_start.specs.Start as Code
use Rattle.refinement.specs.Calls.{said_by, started_by}
use Rattle.refinement.specs.CodeClient.{started_as}
use Rattle.refinement.specs.ClientDriven.{driven, sends, answer_of, Plays}
use Rattle.refinement.specs.ClientServed.{opening, resting}
use Rattle.refinement.proofs.client.CallsAgree.{settled_by, started-read}
use Rattle.refinement.proofs.client.DrivenIsTalk.{Same, from-machine, started-same, drives, same-stands}
use Rattle.refinement.proofs.client.StartAnswers.{select-started, deselect-started, attach-started}
use Rattle.refinement.proofs.client.StartAnswers.{attach-to-started}
use Rattle.refinement.proofs.client.StartAnswers.{discover-started, info-started, erase-started, flash-started}
use Rattle.refinement.proofs.client.StartAnswers.{reset-started, baud-started}

module _ (buffer : List ℕ) (big : room ≤ length buffer) (seed : ℕ) (byte : seed < 256) (id : Option Id)
    (brief : Brief id) (rounds : List Round) where
  abbrev m : Machine.Client
  m = record { seed = seed; id = id; turn = idle }

  fits : Fits m
  fits = record { seed = byte; id = brief; turn = tt }

  -- A start whose answer is the machine's and document 01's.
  opens : (good : Bool) (ph : Phase) (s : Started) (p : Paper.Told) → Fits (Machine.start m good ph).client
      → s ≡ started_as (Machine.start m good ph) → p ≡ told_of (Machine.start m good ph) → Same (opening s) p
  opens good ph s p f c e =
      started-same s p (from-machine (settled_by (Machine.start m good ph)) f (started_by s) (said_by p)
      (ap started_by c ∙ started-read m good ph) (ap said_by e))

  plays : (n : Option ℕ) (talk : Talk Outcome) → Modest room talk → All (Lends n) rounds → (s : Started)
      → Same (opening s) (start_with n (ClientDriven.resting seed id) true talk)
      → Plays n seed id talk buffer rounds s
  plays n talk h lent s same =
      let d = drives buffer rounds (opening s) (start_with n (ClientDriven.resting seed id) true talk) same in
      record {
        stands = same-stands n seed id _ _ _ _ d.last (driven-stands buffer big n seed id talk h rounds lent);
        sent = d.sent;
      }

  pub select-driven : (bytes : Id) (bits : ℕ) → length bytes ≤ 16 → bits ≤ 8 * length bytes
      → Plays none seed id (select_only (take bits (bits_of bytes))) buffer rounds
      (Code.start_select (resting seed id) bytes bits)
  unfolding Machine.start_select Paper.start_select paper_of left_of
  select-driven bytes bits h l =
      plays none (select_only (take bits (bits_of bytes)))
      (select-modest (take bits (bits_of bytes))
      (omega (arith, length-take bits (bits_of bytes), bits-length bytes))) (any_lent rounds) _
      (subst (λ (b : Bool). Same (opening (Code.start_select (resting seed id) bytes bits))
      (Paper.start (ClientDriven.resting seed id) b (select_only (take bits (bits_of bytes))))) good
      (opens (within_longest bytes && (leb bits 128 && leb bits (8 * length bytes)))
      (selecting (probing bytes bits)) _ _ (start_select-fits m fits bytes bits) (select-started m bytes bits)
      (start_select-sim m bytes bits)))
    where
      good : (within_longest bytes && (leb bits 128 && leb bits (8 * length bytes))) ≡ true
      good = rw (le-leb (length bytes) 16 h, le-leb bits 128 (omega arith), le-leb bits (8 * length bytes) l)

  pub deselect-driven : Plays none seed id deselect buffer rounds (Code.start_deselect (resting seed id))
  unfolding Machine.start_deselect Paper.start_deselect paper_of left_of
  deselect-driven =
      plays none deselect deselect-modest (any_lent rounds) _
      (opens true (selecting parting) _ _ (start_deselect-fits m fits) (deselect-started m) (start_deselect-sim m))

  pub attach-driven : Plays none seed id (attach none) buffer rounds (Code.start_attach (resting seed id))
  unfolding Machine.start_attach Paper.start_attach paper_of left_of
  attach-driven =
      plays none (attach none) (attach-modest none (omega arith)) (any_lent rounds) _
      (opens true (selecting (seeking none)) _ _ (start_attach-fits m fits none) (attach-started m)
      (start_attach-sim m none))

  pub attach-to-driven : (given : Id) → length given ≤ 16
      → Plays none seed id (attach (some given)) buffer rounds (Code.start_attach_to (resting seed id) given)
  unfolding Machine.start_attach Paper.start_attach paper_of left_of
  attach-to-driven given h =
      plays none (attach (some given)) (attach-modest (some given) (omega (arith, bits-length given)))
      (any_lent rounds) _
      (subst (λ (b : Bool). Same (opening (Code.start_attach_to (resting seed id) given))
      (Paper.start (ClientDriven.resting seed id) b (attach (some given)))) (le-leb (length given) 16 h)
      (opens (within_longest given) (selecting (seeking (some given))) _ _ (start_attach-fits m fits (some given))
      (attach-to-started m given) (start_attach-sim m (some given))))

  pub discover-driven : (given : Id) → length given ≤ 16 → Bytes given
      → Plays none seed id (discover given) buffer rounds (Code.start_discover (resting seed id) given)
  unfolding Machine.start_discover Paper.start_discover paper_of left_of
  discover-driven given h b =
      plays none (discover given) (discover-modest given h) (any_lent rounds) _
      (subst (λ (b : Bool). Same (opening (Code.start_discover (resting seed id) given))
      (Paper.start (ClientDriven.resting seed id) b (discover given))) (le-leb (length given) 16 h)
      (opens (within_longest given) (selecting (walking (starting (bits_of given)))) _ _
      (start_discover-fits m fits given) (discover-started m given b) (start_discover-sim m given)))

  pub info-driven : Plays none seed id inform_only buffer rounds (Code.start_info (resting seed id))
  unfolding Machine.start_info Paper.start_info paper_of left_of
  info-driven = plays none inform_only inform-modest (any_lent rounds) _
      (opens true (demanding (informing tell)) _ _ (start_info-fits m fits) (info-started m) (start_info-sim m))

  pub erase-driven : Plays none seed id erase buffer rounds (Code.start_erase (resting seed id))
  unfolding Machine.start_erase Paper.start_erase paper_of left_of
  erase-driven = plays none erase erase-modest (any_lent rounds) _
      (opens true (demanding (informing clear)) _ _ (start_erase-fits m fits) (erase-started m) (start_erase-sim m))

  module _ (image : List ℕ) (lent : All (Lends (some (length image))) rounds) where
    flash-same : Same (opening (Code.start_flash (resting seed id) image))
        (start_with (some (length image)) (ClientDriven.resting seed id) true (flash (length image)))
    unfolding Machine.start_flash Paper.start_flash paper_of left_of
    flash-same = opens true (demanding (informing (load (length image)))) _ _ (start_flash-fits m fits image)
        (flash-started m image) (start_flash-sim m image)

    pub flash-driven : Plays (some (length image)) seed id (flash (length image)) buffer rounds
        (Code.start_flash (resting seed id) image)
    flash-driven = plays (some (length image)) (flash (length image)) (flash-modest (length image)) lent _ flash-same

    -- The requests that a flash hands out are in order.
    pub flash-handed : All (λ r. Bytes r.lent) rounds
        → FlashOrder (length image) (sends buffer rounds (opening (Code.start_flash (resting seed id) image)))
        (answer_of (driven buffer rounds (opening (Code.start_flash (resting seed id) image))))
    flash-handed bytes =
        let d = drives buffer rounds (opening (Code.start_flash (resting seed id) image)) _ flash-same in
        rw (d.sent, d.last.says) (flash-order buffer big (length image) seed id rounds lent bytes)

  -- A reset. In boot the answer is awaited, otherwise not.
  pub reset-driven : (bootloader in_boot : Bool)
      → Plays none seed id (reset bootloader none in_boot) buffer rounds
      (Code.start_reset (resting seed id) bootloader in_boot)
  unfolding Machine.start_reset Paper.start_reset paper_of left_of
  reset-driven bootloader in_boot =
      plays none (reset bootloader none in_boot) (reset-modest bootloader none in_boot) (any_lent rounds) _
      (opens true (resets bootloader none in_boot) _ _ (start_reset-fits m fits bootloader in_boot)
      (reset-started m bootloader in_boot) (start_reset-sim m bootloader in_boot))

  pub set-baud-driven : (baud : ℕ) (bootloader in_boot : Bool)
      → Plays none seed id (reset bootloader (some baud) in_boot) buffer rounds
      (Code.start_set_baud (resting seed id) baud bootloader in_boot)
  unfolding Machine.start_set_baud Paper.start_set_baud paper_of left_of
  set-baud-driven baud bootloader in_boot =
      plays none (reset bootloader (some baud) in_boot) (reset-modest bootloader (some baud) in_boot) (any_lent rounds) _
      (opens true (resets bootloader (some baud) in_boot) _ _ (start_set_baud-fits m fits baud bootloader in_boot)
      (baud-started m baud bootloader in_boot) (start_set_baud-sim m baud bootloader in_boot))
