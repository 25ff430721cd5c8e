-- Document 01, "Refusal numbers": the client after each refusal, and the answer to each start.
use Rattle.std.specs.Prelude.{ℕ, ◌*◌, Bool, ◌&&◌, ◌||◌, cond, List, leb, eqb, length}
use Rattle.paper.specs.Client.{within_longest}
use Rattle.ids.specs.Ids.{no_id}
use Rattle.walk.specs.Moves.{no_walk}
use Rattle.client.specs.declared.Client.{Client}
use Rattle.client.specs.declared.Job.TheVariants.{Resetting}
use Rattle.client.specs.declared.Phase.{Phase}
use Rattle.client.specs.declared.Phase.TheVariants.{Demand, Leave}
use Rattle.client.specs.declared.Refusal.{Refusal}
use Rattle.client.specs.declared.Refusal.TheVariants.{BadPrefix, OutOfTurn}
use Rattle.client.specs.declared.Reset.{Reset}
use Rattle.client.specs.declared.Says.TheVariants.{Onward}
use Rattle.client.specs.declared.Started.{Started}
use Rattle.client.specs.declared.Turn.TheVariants.{Ready}
use Rattle.client.specs.Clients.{begun, idle, cleared, running, refuse}
use Rattle.client.specs.Numbers.{number_of, changes_no_state}

-- Whether a refusal changes no state.
unfoldable pub keeps : Refusal → Bool
keeps r = changes_no_state (number_of r)

-- "deselect, then 10 with a prefix, 8 without.": whether a deselect came before the refusal.
unfoldable pub parts : Refusal → Bool
parts r = eqb (number_of r) 8 || eqb (number_of r) 10

-- "The others end the operation; seed and (but for deselects) attached id stay as they are then": the client after a
-- refusal.
unfoldable pub leaves : Refusal → Client → Client
leaves r c = cond (keeps r) c (idle (cond (parts r) (cleared c) c))

-- "Out of turn is: a start while an operation runs"; "Order: 21, 20, 13": the answer to a start, by whether its
-- arguments are good and by the client that it would begin.
unfoldable pub begins : Client → Bool → Client → Started
begins c good next = cond (running c.front.turn) (refuse c OutOfTurn)
    (cond good (record { says = Onward; client = next }) (refuse c BadPrefix))

-- "a count over 128 or over 8 times the bytes given is 13", and so is a "prefix or id given over 16 bytes".
abbrev pub good_count : List ℕ → ℕ → Bool
good_count bytes bits = within_longest bytes && (leb bits 128 && leb bits (8 * length bytes))

-- The client at the first request of an operation that does not select.
abbrev pub asking : Client → Phase → Client
asking c p = begun c (Ready p) no_id 0 no_walk

-- "In boot the reply is awaited".
abbrev pub reset_phase : Reset → Bool → Phase
reset_phase reset in_boot = cond in_boot (Demand (Resetting reset)) (Leave reset)
