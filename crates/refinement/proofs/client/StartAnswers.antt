-- The code's answer to each start is the machine's, for each client.
use Prim.Native.Nat.{ℕ, ◌<◌}
use mathlib.Core.Bool.{Bool, true, false}
use mathlib.Core.List.{List}
use mathlib.Core.Option.{Option, none, some}
use mathlib.Core.Path.{◌≡◌, refl, ◌∙◌, ap}
use lib.ListN.{length}
use borrow.Author.Tests.{leb-true}
use Rattle.paper.specs.Client.{within_longest}
use Rattle.paper.specs.Count.{All}
use Rattle.paper.specs.Hearing as Paper
use Rattle.paper.specs.Hearing.{bits_of}
use Rattle.theory.specs.OperationMachine.{probing, parting, seeking, walking, tell, clear, load, informing, resetting}
use Rattle.theory.specs.OperationMachine.{Phase, selecting, demanding, leaving, starting}
use Rattle.theory.specs.ClientMachine as Machine
use Rattle.theory.specs.ClientMachine.{Turn, idle, ready, waiting, turned, settle}
use Rattle.ids.specs.Ids.{no_id}
use Rattle.walk.specs.declared.Walk.{Walk}
use Rattle.walk.specs.declared.Phase.TheVariants.{Asked}
use Rattle.client.specs.declared.Client.{Client}
use Rattle.client.specs.declared.Phase.TheVariants.{Select}
use Rattle.client.specs.declared.Search.TheVariants.{Walking}
use Rattle.client.specs.declared.Turn.TheVariants.{Ready}
use Rattle.client.specs.Clients.{begun, running}
use Rattle.client_start.specs.Start as Code
use Rattle.refinement.specs.CodeClient.{reset_in, phase_in, prefix_in, bits_in, walk_in, client_of, refused_as}
use Rattle.refinement.specs.CodeClient.{started_as}
use Rattle.refinement.specs.Refusals.{begins, good_count, asking, reset_phase}
use Rattle.refinement.proofs.walk.EndsAndFinds.{begin-sim}
use Rattle.refinement.proofs.refused.Starts.{select-begins, deselect-begins, attach-begins, attach-to-begins}
use Rattle.refinement.proofs.refused.Starts.{discover-begins, info-begins, erase-begins, flash-begins}
use Rattle.refinement.proofs.refused.Starts.{reset-begins, set-baud-begins}

-- A start, by whether its arguments are good.
begins-sim : (c : Machine.Client) (good : Bool) (ph : Phase)
    → begins (client_of c) good (begun (client_of c) (Ready (phase_in ph)) (prefix_in ph) (bits_in ph) (walk_in ph))
    ≡ started_as (Machine.start c good ph)
unfolding begins running Machine.start settle refused_as
begins-sim c good ph = go c.turn good
  where
    go : (t : Turn) (b : Bool)
        → begins (client_of (turned c t)) b
        (begun (client_of (turned c t)) (Ready (phase_in ph)) (prefix_in ph) (bits_in ph) (walk_in ph))
        ≡ started_as (Machine.start (turned c t) b ph)
    go idle true = refl
    go idle false = refl
    go (ready p) b = refl
    go (waiting p) b = refl

-- The client that a start would begin matters only where its arguments are good.
begins-next : (c next other : Client) (good : Bool) → (good ≡ true → next ≡ other)
    → begins c good next ≡ begins c good other
unfolding begins
begins-next c next other true h = ap (begins c true) (h refl)
begins-next c next other false h = refl

module _ (c : Machine.Client) where
  pub select-started : (bytes : Paper.Id) (bits : ℕ)
      → Code.start_select (client_of c) bytes bits ≡ started_as (Machine.start_select c bytes bits)
  unfolding Machine.start_select
  select-started bytes bits = select-begins (client_of c) bytes bits
      ∙ begins-sim c (good_count bytes bits) (selecting (probing bytes bits))

  pub deselect-started : Code.start_deselect (client_of c) ≡ started_as (Machine.start_deselect c)
  unfolding Machine.start_deselect
  deselect-started = deselect-begins (client_of c) ∙ begins-sim c true (selecting parting)

  pub attach-started : Code.start_attach (client_of c) ≡ started_as (Machine.start_attach c none)
  unfolding Machine.start_attach
  attach-started = attach-begins (client_of c) ∙ begins-sim c true (selecting (seeking none))

  pub attach-to-started : (bytes : Paper.Id)
      → Code.start_attach_to (client_of c) bytes ≡ started_as (Machine.start_attach c (some bytes))
  unfolding Machine.start_attach
  attach-to-started bytes = attach-to-begins (client_of c) bytes
      ∙ begins-sim c (within_longest bytes) (selecting (seeking (some bytes)))

  pub discover-started : (bytes : Paper.Id) → All (λ b. b < 256) bytes
      → Code.start_discover (client_of c) bytes ≡ started_as (Machine.start_discover c bytes)
  unfolding Machine.start_discover
  discover-started bytes small =
      discover-begins (client_of c) bytes
      ∙ begins-next (client_of c) _ _ (within_longest bytes)
      (λ e. ap (λ (w : Walk). begun (client_of c) (Ready (Select (Walking Asked))) no_id 0 w)
      (begin-sim bytes (leb-true (length bytes) 16 e) small))
      ∙ begins-sim c (within_longest bytes) (selecting (walking (starting (bits_of bytes))))

  pub info-started : Code.start_info (client_of c) ≡ started_as (Machine.start_info c)
  unfolding Machine.start_info
  info-started = info-begins (client_of c) ∙ begins-sim c true (demanding (informing tell))

  pub erase-started : Code.start_erase (client_of c) ≡ started_as (Machine.start_erase c)
  unfolding Machine.start_erase
  erase-started = erase-begins (client_of c) ∙ begins-sim c true (demanding (informing clear))

  pub flash-started : (image : List ℕ) → Code.start_flash (client_of c) image ≡ started_as (Machine.start_flash c image)
  unfolding Machine.start_flash
  flash-started image = flash-begins (client_of c) image
      ∙ begins-sim c true (demanding (informing (load (length image))))

  resets-sim : (bootloader : Bool) (baud : Option ℕ) (in_boot : Bool)
      → begins (client_of c) true (asking (client_of c) (reset_phase (reset_in bootloader baud) in_boot))
      ≡ started_as (Machine.start c true (Machine.resets bootloader baud in_boot))
  resets-sim bootloader baud true = begins-sim c true (demanding (resetting bootloader baud))
  resets-sim bootloader baud false = begins-sim c true (leaving bootloader baud)

  pub reset-started : (bootloader in_boot : Bool)
      → Code.start_reset (client_of c) bootloader in_boot ≡ started_as (Machine.start_reset c bootloader in_boot)
  unfolding Machine.start_reset
  reset-started bootloader in_boot = reset-begins (client_of c) bootloader in_boot ∙ resets-sim bootloader none in_boot

  pub baud-started : (baud : ℕ) (bootloader in_boot : Bool)
      → Code.start_set_baud (client_of c) baud bootloader in_boot
      ≡ started_as (Machine.start_set_baud c baud bootloader in_boot)
  unfolding Machine.start_set_baud
  baud-started baud bootloader in_boot =
      set-baud-begins (client_of c) baud bootloader in_boot ∙ resets-sim bootloader (some baud) in_boot
