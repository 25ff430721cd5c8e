-- The client after a refusal, and the answer to each start, for every value of the client.
use Prim.Native.Nat.{ℕ, ◌*◌, ◌≤◌}
use mathlib.Core.Bool.{Bool, true, false, ◌&&◌, cond}
use mathlib.Core.List.{List}
use mathlib.Core.Path.{◌≡◌, refl, sym, ◌∙◌, ap}
use native.Mathlib.Omega.{arith}
use lib.Dec.{leb, ltb}
use lib.ListN.{length}
use borrow.Author.Tests.{ltb-true, ltb-false, le-leb, lt-leb}
use Rattle.paper.specs.Client.{within_longest}
use Rattle.lore.proofs.Choice.{and_yes, and-not-left, and-not-right, either}
use Rattle.ids.specs.declared.Id.{Id}
use Rattle.ids.specs.Ids.{no_id, id_from}
use Rattle.walk.specs.declared.Walk.{Walk}
use Rattle.walk.specs.declared.Phase.TheVariants.{Asked}
use Rattle.walk.specs.Moves.{no_walk, begin}
use Rattle.client.specs.declared.Client.{Client}
use Rattle.client.specs.declared.Job.TheVariants.{Informing}
use Rattle.client.specs.declared.Phase.{Phase}
use Rattle.client.specs.declared.Phase.TheVariants.{Select, Demand}
use Rattle.client.specs.declared.Purpose.TheVariants.{Tell, Clear, Load}
use Rattle.client.specs.declared.Refusal.{Refusal}
use Rattle.client.specs.declared.Refusal.TheVariants.{BadPrefix, OutOfTurn}
use Rattle.client.specs.declared.Reset.{Reset}
use Rattle.client.specs.declared.Says.TheVariants.{Onward, Refused}
use Rattle.client.specs.declared.Search.TheVariants.{Probing, Parting, Seeking, Walking}
use Rattle.client.specs.declared.Started.{Started}
use Rattle.client.specs.declared.Turn.TheVariants.{Idle, Ready}
use Rattle.client.specs.Clients.{begun, idle, cleared, running, refuse}
use Rattle.client_start.specs.Start.{starts, demands, bad_prefix, start_select, start_deselect, start_attach, start_attach_to}
use Rattle.client_start.specs.Start.{start_discover, start_info, start_erase, start_flash, resets, start_reset, start_set_baud}
use Rattle.refinement.specs.Refusals.{keeps, parts, leaves, begins, good_count, asking, reset_phase}
use Rattle.refinement.proofs.refused.TurnCases.{unrefused}

-- The client after a refusal.
module _ (r : Refusal) (c : Client) where
  pub leaves_kept : keeps r ≡ true → leaves r c ≡ c
  unfolding leaves
  leaves_kept h = rw h

  pub leaves-ended : keeps r ≡ false → (leaves r c).front.turn ≡ Idle
  unfolding leaves idle
  leaves-ended h = rw h

  pub leaves-seed : (leaves r c).front.seed ≡ c.front.seed
  unfolding leaves idle cleared
  leaves-seed = either (λ (d : Client). d.front.seed ≡ c.front.seed) (keeps r) refl
      (either (λ (d : Client). (idle d).front.seed ≡ c.front.seed) (parts r) refl refl)

  pub leaves-attached : parts r ≡ false → ((leaves r c).front.attached ≡ c.front.attached) × ((leaves r c).front.id ≡ c.front.id)
  unfolding leaves idle
  leaves-attached h = either (λ (d : Client). (d.front.attached ≡ c.front.attached) × (d.front.id ≡ c.front.id)) (keeps r) (refl, refl)
      (rw h (refl, refl))

-- A start that is refused changes nothing.
pub begins-kept : (c : Client) (good : Bool) (next : Client) (r : Refusal) → (begins c good next).says ≡ Refused r
    → (begins c good next).client ≡ c
unfolding begins
begins-kept c good next r e = go (running c.front.turn) good e
  where
    begun-or : Bool → Bool → Started
    begun-or late good = cond late (refuse c OutOfTurn)
        (cond good (record { says = Onward; client = next }) (refuse c BadPrefix))

    go : (late good : Bool) → (begun-or late good).says ≡ Refused r → (begun-or late good).client ≡ c
    go true good e = refl
    go false true e = unrefused Onward r refl e
    go false false e = refl

-- A start is refused with 21, then with 13; else it begins.
module _ (c : Client) where
  starts-begins : (p : Phase) (x : Id) (bits : ℕ) (w : Walk)
      → starts c p x bits w ≡ begins c true (begun c (Ready p) x bits w)
  unfolding starts begins
  starts-begins p x bits w = refl

  bad-begins : (next : Client) → bad_prefix c ≡ begins c false next
  unfolding bad_prefix begins
  bad-begins next = refl

  -- A start with a test of its arguments.
  module _ (next : Client) (test : Bool) where
    good : (s : Started) → s ≡ begins c true next → test ≡ true → s ≡ begins c test next
    good s f e = f ∙ ap (λ (b : Bool). begins c b next) (sym e)

    bad : test ≡ false → bad_prefix c ≡ begins c test next
    bad e = bad-begins next ∙ ap (λ (b : Bool). begins c b next) (sym e)

  by_length : (bytes : List ℕ) (next : Client) (s : Started) → s ≡ begins c true next
      → cond (ltb 16 (length bytes)) (bad_prefix c) s ≡ begins c (within_longest bytes) next
  by_length bytes next s f = go (ltb 16 (length bytes)) refl
    where
      go : (b : Bool) → ltb 16 (length bytes) ≡ b → cond b (bad_prefix c) s ≡ begins c (within_longest bytes) next
      go true e = bad next (within_longest bytes) (lt-leb (length bytes) 16 (ltb-true 16 (length bytes) e))
      go false e = good next (within_longest bytes) s f (le-leb (length bytes) 16 (ltb-false 16 (length bytes) e))

  pub select-begins : (bytes : List ℕ) (bits : ℕ)
      → start_select c bytes bits ≡ begins c (good_count bytes bits)
      (begun c (Ready (Select Probing)) (id_from bytes) bits no_walk)
  unfolding start_select
  select-begins bytes bits = go (ltb 16 (length bytes)) refl (ltb (8 * length bytes) bits) refl
    where
      next : Client
      next = begun c (Ready (Select Probing)) (id_from bytes) bits no_walk

      go : (a : Bool) → ltb 16 (length bytes) ≡ a → (b : Bool) → ltb (8 * length bytes) bits ≡ b
          → cond a (bad_prefix c) (cond b (bad_prefix c) (starts c (Select Probing) (id_from bytes) bits no_walk))
          ≡ begins c (good_count bytes bits) next
      go true e b f = bad next (good_count bytes bits)
          (and-not-left (within_longest bytes) (leb bits 128 && leb bits (8 * length bytes))
          (lt-leb (length bytes) 16 (ltb-true 16 (length bytes) e)))
      go false e true f =
          bad next (good_count bytes bits)
          (and-not-right (within_longest bytes) (leb bits 128 && leb bits (8 * length bytes))
          (and-not-right (leb bits 128) (leb bits (8 * length bytes))
          (lt-leb bits (8 * length bytes) (ltb-true (8 * length bytes) bits f))))
      go false e false f =
          let l : length bytes ≤ 16 = ltb-false 16 (length bytes) e in
          let m : bits ≤ 8 * length bytes = ltb-false (8 * length bytes) bits f in
          good next (good_count bytes bits) (starts c (Select Probing) (id_from bytes) bits no_walk)
          (starts-begins (Select Probing) (id_from bytes) bits no_walk)
          (and_yes (within_longest bytes) (leb bits 128 && leb bits (8 * length bytes)) (le-leb (length bytes) 16 l)
          (and_yes (leb bits 128) (leb bits (8 * length bytes)) (le-leb bits 128 (omega arith))
          (le-leb bits (8 * length bytes) m)))

  pub deselect-begins : start_deselect c ≡ begins c true (begun c (Ready (Select Parting)) no_id 0 no_walk)
  unfolding start_deselect
  deselect-begins = starts-begins _ _ _ _

  pub attach-begins : start_attach c ≡ begins c true (begun c (Ready (Select (Seeking false))) no_id 0 no_walk)
  unfolding start_attach
  attach-begins = starts-begins _ _ _ _

  pub attach-to-begins : (bytes : List ℕ)
      → start_attach_to c bytes ≡ begins c (within_longest bytes)
      (begun c (Ready (Select (Seeking true))) (id_from bytes) 0 no_walk)
  unfolding start_attach_to
  attach-to-begins bytes = by_length bytes _ _ (starts-begins _ _ _ _)

  pub discover-begins : (bytes : List ℕ)
      → start_discover c bytes ≡ begins c (within_longest bytes)
      (begun c (Ready (Select (Walking Asked))) no_id 0 (begin (id_from bytes)))
  unfolding start_discover
  discover-begins bytes = by_length bytes _ _ (starts-begins _ _ _ _)

  demands-begins : (p : Phase) → demands c p ≡ begins c true (asking c p)
  unfolding demands
  demands-begins p = starts-begins p _ _ _

  pub info-begins : start_info c ≡ begins c true (asking c (Demand (Informing Tell)))
  unfolding start_info
  info-begins = demands-begins _

  pub erase-begins : start_erase c ≡ begins c true (asking c (Demand (Informing Clear)))
  unfolding start_erase
  erase-begins = demands-begins _

  pub flash-begins : (image : List ℕ)
      → start_flash c image ≡ begins c true (asking c (Demand (Informing (Load (length image)))))
  unfolding start_flash
  flash-begins image = demands-begins _

  resets-begins : (reset : Reset) (in_boot : Bool)
      → resets c reset in_boot ≡ begins c true (asking c (reset_phase reset in_boot))
  unfolding resets
  resets-begins reset true = demands-begins _
  resets-begins reset false = demands-begins _

  pub reset-begins : (bootloader in_boot : Bool)
      → start_reset c bootloader in_boot
      ≡ begins c true (asking c (reset_phase (record { bootloader = bootloader; given = false; baud = 0 }) in_boot))
  unfolding start_reset
  reset-begins bootloader in_boot = resets-begins _ in_boot

  pub set-baud-begins : (baud : ℕ) (bootloader in_boot : Bool)
      → start_set_baud c baud bootloader in_boot
      ≡ begins c true (asking c (reset_phase (record { bootloader = bootloader; given = true; baud = baud }) in_boot))
  unfolding start_set_baud
  set-baud-begins baud bootloader in_boot = resets-begins _ in_boot
