-- The answer of each start, and the client after it.
use Rattle.std.specs.Prelude.{ℕ, ◌*◌, Bool, true, false, cond, List, ltb, length}
use Rattle.ids.specs.declared.Id.{Id}
use Rattle.ids.specs.Ids.{no_id, id_from}
use Rattle.walk.specs.declared.Walk.{Walk}
use Rattle.walk.specs.declared.Phase.TheVariants.{Asked}
use Rattle.walk.specs.Moves.{no_walk, begin}
use Rattle.client.specs.declared.Phase.{Phase}
use Rattle.client.specs.declared.Phase.TheVariants.{Select, Demand, Leave}
use Rattle.client.specs.declared.Search.TheVariants.{Probing, Parting, Seeking, Walking}
use Rattle.client.specs.declared.Job.TheVariants.{Informing, Resetting}
use Rattle.client.specs.declared.Purpose.TheVariants.{Tell, Clear, Load}
use Rattle.client.specs.declared.Reset.{Reset}
use Rattle.client.specs.declared.Turn.TheVariants.{Ready}
use Rattle.client.specs.declared.Client.{Client}
use Rattle.client.specs.declared.Refusal.TheVariants.{BadPrefix, OutOfTurn}
use Rattle.client.specs.declared.Says.TheVariants.{Onward}
use Rattle.client.specs.declared.Started.{Started}
use Rattle.client.specs.Clients.{begun, running, refuse}

-- An operation starts in its first phase, with a prefix, a bit count and a walk, unless one runs.
unfoldable pub starts : Client → Phase → Id → ℕ → Walk → Started
starts c p x bits w = cond (running c.front.turn) (refuse c OutOfTurn)
    (record { says = Onward; client = begun c (Ready p) x bits w })

-- An operation without a prefix or a walk.
unfoldable pub demands : Client → Phase → Started
demands c p = starts c p no_id 0 no_walk

-- A bad prefix is refused. A call out of turn is refused before that.
unfoldable pub bad_prefix : Client → Started
bad_prefix c = cond (running c.front.turn) (refuse c OutOfTurn) (refuse c BadPrefix)

unfoldable pub start_select : Client → List ℕ → ℕ → Started
start_select c bytes bits =
    cond (ltb 16 (length bytes)) (bad_prefix c)
    (cond (ltb (8 * length bytes) bits) (bad_prefix c) (starts c (Select Probing) (id_from bytes) bits no_walk))

unfoldable pub start_deselect : Client → Started
start_deselect c = starts c (Select Parting) no_id 0 no_walk

unfoldable pub start_attach : Client → Started
start_attach c = starts c (Select (Seeking false)) no_id 0 no_walk

unfoldable pub start_attach_to : Client → List ℕ → Started
start_attach_to c bytes = cond (ltb 16 (length bytes)) (bad_prefix c)
    (starts c (Select (Seeking true)) (id_from bytes) 0 no_walk)

unfoldable pub start_discover : Client → List ℕ → Started
start_discover c bytes = cond (ltb 16 (length bytes)) (bad_prefix c)
    (starts c (Select (Walking Asked)) no_id 0 (begin (id_from bytes)))

unfoldable pub start_info : Client → Started
start_info c = demands c (Demand (Informing Tell))

unfoldable pub start_erase : Client → Started
start_erase c = demands c (Demand (Informing Clear))

unfoldable pub start_flash : Client → List ℕ → Started
start_flash c image = demands c (Demand (Informing (Load (length image))))

-- In the bootloader the reply is awaited.
unfoldable pub resets : Client → Reset → Bool → Started
resets c reset in_boot = cond in_boot (demands c (Demand (Resetting reset))) (demands c (Leave reset))

unfoldable pub start_reset : Client → Bool → Bool → Started
start_reset c bootloader in_boot = resets c (record { bootloader = bootloader; given = false; baud = 0 }) in_boot

unfoldable pub start_set_baud : Client → ℕ → Bool → Bool → Started
start_set_baud c baud bootloader in_boot = resets c (record { bootloader = bootloader; given = true; baud = baud }) in_boot
