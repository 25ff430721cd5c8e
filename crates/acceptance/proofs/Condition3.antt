-- The customer's condition 3, for a client driven over a wire of bytes: a discovery ends, and on an honest wire it
-- finds exactly the matching ids.
use Prim.Native.Nat.{ℕ, ◌+◌, ◌-◌, ◌*◌, ◌≤◌, ◌<◌}
use mathlib.Core.Bool.{false}
use mathlib.Core.List.{List}
use mathlib.Core.Option.{Option}
use mathlib.Core.Path.{◌≡◌}
use lib.ListN.{length}
use Rattle.paper.specs.Count.{matching, All, Pods, count, selects, limit}
use Rattle.paper.specs.Hearing.{Id, bits_of}
use Rattle.paper.specs.Walk.{sort, discover, run}
use Rattle.paper.proofs.Words.{Bytes}
use Rattle.theory.specs.ClientMachine.{Brief}
use Rattle.client.specs.declared.Outcome.TheVariants.{Found}
use Rattle.client.specs.declared.Says.TheVariants.{Over}
use Rattle.client.specs.declared.Turn.TheVariants.{Idle}
use Rattle.client.specs.Clients.{fresh}
use Rattle.refinement.specs.Calls.{Call, Good, reached, Rests}
use Rattle.refinement.specs.ClientServed.{Wire, is_onward, discovered, resting, heard_by, Honest, EndsAs, Finds, Lists}
use Rattle.refinement.specs.ClientServed.{devices}
use Rattle.refinement.proofs.client.CallsAgree as CallsAgree
use Rattle.refinement.proofs.wire.DevicesHonest as Devices
use Rattle.refinement.proofs.wire.EndsAndFinds as EndsAndFinds

-- A client with no operation running is fixed by its seed and its attached id, if any, whatever calls came before. So
-- the theorems below, which begin with `resting seed id`, cover every such client.
pub idle-rests : (calls : List Call) → All Good calls → (reached fresh calls).front.turn ≡ Idle
    → Rests (reached fresh calls)
idle-rests = CallsAgree.idle-rests

-- For any buffer that holds every Select, any seed, an attached id or none, and any prefix of at most 16 bytes.
module _ (buffer : List ℕ) (room : 31 ≤ length buffer) (seed : ℕ) (byte : seed < 256) (id : Option Id)
    (brief : Brief id) (given : Id) (short : length given ≤ 16) (bytes : Bytes given) where
  module _ (wire : Wire) where
    -- Whatever the wire returns, the discovery ends, after at most 132 + 260 * (128 - p) Selects for a prefix of p
    -- bits.
    pub ends-within : (is_onward (discovered buffer wire (resting seed id) given).0.says ≡ false)
        × ((discovered buffer wire (resting seed id) given).1 ≤ limit (bits_of given))
    ends-within = EndsAndFinds.ends-within buffer room wire seed byte id brief given short bytes

    -- It ends as document 01's discovery does, after the same number of Selects.
    pub ends_as : EndsAs seed id (run (heard_by wire seed) 0 (discover (bits_of given)))
        (discovered buffer wire (resting seed id) given)
    ends_as = EndsAndFinds.ends_as buffer room wire seed byte id brief given short bytes

    -- The ids found are sorted, distinct, at most 64, and each begins with the prefix.
    pub lists : (discovered buffer wire (resting seed id) given).0.says ≡ Over Found
        → Lists (bits_of given) (discovered buffer wire (resting seed id) given)
    lists = EndsAndFinds.lists buffer room wire seed byte id brief given short bytes

    -- On an honest wire of the ids S: it finds exactly the ids that match, sorted, after exactly the number of Selects
    -- that document 01 counts. That number is at most 2, plus 8L - p + 2 for each id found.
    pub finds : (S : List Id) (L : ℕ) → Honest wire seed (bits_of given) S → Pods L (matching (bits_of given) S)
        → Finds seed (sort (matching (bits_of given) S)) (selects S L (bits_of given))
        (discovered buffer wire (resting seed id) given)
        × (selects S L (bits_of given) ≤ 2 + count S (bits_of given) * (8 * L - length (bits_of given) + 2))
    finds = EndsAndFinds.finds buffer room wire seed byte id brief given short bytes

  -- There is an honest wire for any ids whose matching ones are as `Pods` asks, whatever the others are.
  pub finds-devices : (S : List Id) (L : ℕ) → Pods L (matching (bits_of given) S)
      → Finds seed (sort (matching (bits_of given) S)) (selects S L (bits_of given))
      (discovered buffer (devices S) (resting seed id) given)
  finds-devices S L pods = (finds (devices S) S L (Devices.pods-honest S L seed (bits_of given) pods) pods).0
