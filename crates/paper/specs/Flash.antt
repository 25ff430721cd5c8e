-- Document 01, "Requests with one answer": info, erase, flash and reset, each as a conversation.
use Rattle.std.specs.Prelude.{ℕ, zero, suc, ◌+◌, ◌-◌, ◌/◌, Bool, true, false, not, cond, List, [], ◌∷◌, leb, ltb, eqb, length}
use Rattle.std.proofs.Math.Option.{Option}
use Rattle.paper.specs.Frame.{le, field, check, Info, command-Info, command-Erase, command-Write, command-Verify}
use Rattle.paper.specs.Frame.{command-Reset, status-CrcMismatch, flag-FLUSH, flag-BOOTLOADER, flag-BAUD}
use Rattle.paper.specs.Hearing.{on_some}
use Rattle.paper.specs.Answers.{Reply, ok, device, informed, steps, below, spans_too_far, erase_addresses}
use Rattle.paper.specs.Answers.{erase_progress, too_large, reported, key, incompatible, chunk, padded}
use Rattle.paper.specs.Talk.{these, piece, Demand, demand, leave, Talk, return, stop, report, ask, ◌>>=◌, ◌>>◌}
use Rattle.paper.specs.Talk.{each, Outcome, quiet, knows}

-- The requests.

-- Of the next: a request whose payload is given as bytes.
abbrev pub plain : ℕ → ℕ → ℕ → List ℕ → Demand
plain command flags address bytes =
    record { command = command; flags = flags; address = address; payload = these bytes }

-- "Info payload": the request for it. Here and below, addresses and flags that document 01 does not fix are those of
-- client.rs.
abbrev pub info_request : Demand
info_request = plain command-Info 0 0 []

-- "addresses 0, e, 2e... below capacity, payload e as 2 bytes".
abbrev pub erase_request : Info → ℕ → Demand
erase_request info address = plain command-Erase 0 address (le 2 info.erase_size)

-- "a chunk or what is left".
abbrev pub write_size : Info → ℕ → ℕ → ℕ
write_size info n offset = cond (leb (chunk info.max_payload) (padded n - offset)) (chunk info.max_payload)
    (padded n - offset)

-- "FLUSH on the last".
abbrev pub write_flags : Info → ℕ → ℕ → ℕ
write_flags info n offset = cond (leb (padded n) (offset + chunk info.max_payload)) flag-FLUSH 0

-- "each Write carries the image from its offset on": the Write at an offset of an image of n bytes.
abbrev pub write_request : Info → ℕ → ℕ → Demand
write_request info n offset =
    record {
      command = command-Write;
      flags = write_flags info n offset;
      address = offset;
      payload = piece offset (write_size info n offset);
    }

-- "Verify has address = image length".
abbrev pub verify_request : ℕ → Demand
verify_request n = plain command-Verify 0 n []

-- "Flags: .. BOOTLOADER 1, BAUD 2."; "BAUD set if one was given".
unfoldable pub reset_flags : Bool → Option ℕ → ℕ
reset_flags bootloader baud = cond bootloader flag-BOOTLOADER 0 + on_some baud 0 (λ given. flag-BAUD)

-- "Reset: address is the baud or 0, BAUD set if one was given."
abbrev pub reset_request : Bool → Option ℕ → Demand
reset_request bootloader baud = plain command-Reset (reset_flags bootloader baud) (on_some baud 0 (λ given. given)) []

-- The conversations.

-- "Status other than Ok: 2 with it": else the payload of the reply, and the image lent with it.
unfoldable pub accepted : Reply → List ℕ → Talk (List ℕ × List ℕ)
accepted (ok payload) image = return (payload, image)
accepted (device status) image = stop 2 (status ∷ [])

-- "Requests with one answer": sends a request; returns the payload of its reply, and the image lent with it.
unfoldable pub transact : Demand → Talk (List ℕ × List ℕ)
transact d = ask (demand d) (λ a. accepted a.reply a.image)

-- "Requests with one answer": a refusal if the test holds; else it goes on.
unfoldable pub refuse_if : Bool → ℕ → List ℕ → Talk (Unit {0})
refuse_if true n carries = stop n carries
refuse_if false n carries = return tt

-- "Info: payload under 18, or erase_size 0, capacity 0, or max_payload under 4: 5."
unfoldable pub inform : Talk (Info × List ℕ)
inform = do
  (payload, image) ← transact info_request
  on_some (informed payload) (stop 5 []) (λ info. return (info, image))

-- "payload e as 2 bytes; progress is the address plus e, uncut": one Erase.
unfoldable pub erase_one : Info → ℕ → Talk (Unit {0})
erase_one info address = do
  transact (erase_request info address)
  report (erase_progress info address) info.capacity (return tt)

-- "then 19, then addresses 0, e, 2e... below capacity".
unfoldable pub erase_all : Info → Talk (Unit {0})
erase_all info = do
  refuse_if (spans_too_far info) 19 []
  each (erase_addresses info) (erase_one info)

-- "both keys": the device's, then the image's; only the device's if the image has none.
abbrev pub keys : Info → List ℕ → List ℕ
keys info image = info.compat ∷ on_some (key image) [] (λ k. k ∷ [])

-- "Info; 3 if the image exceeds capacity .. 6 if compat is set and the image's key is missing or different; 19; all
-- Erases".
unfoldable pub prepare : ℕ → Talk Info
prepare n = do
  (info, image) ← inform
  refuse_if (too_large info n) 3 (reported n ∷ info.capacity ∷ [])
  refuse_if (incompatible info image) 6 (keys info image)
  erase_all info
  return info

-- Of the next: "Status 3 repeats the same Write"; a status other than that and Ok ends the operation.
unfoldable pub repeated : Reply → Talk (Unit {0}) → Talk (Unit {0})
repeated (ok payload) again = return tt
repeated (device status) again = cond (eqb status status-CrcMismatch) again (stop 2 (status ∷ []))

-- "Status 3 repeats the same Write; the 17th in a row for one offset gives 17": a request; times is how often it may be
-- sent.
unfoldable pub persist : ℕ → Demand → Talk (Unit {0})
persist zero d = stop 17 []
persist (suc times) d = ask (demand d) (λ a. repeated a.reply (persist times d))

-- "Write progress: chunks answered Ok, and their total": one Write; times is how often it may be sent.
unfoldable pub write_within : ℕ → Info → ℕ → ℕ → Talk (Unit {0})
write_within times info n offset = do
  persist times (write_request info n offset)
  report (offset / chunk info.max_payload + 1) (steps (chunk info.max_payload) (padded n)) (return tt)

-- "the 17th in a row for one offset gives 17".
abbrev pub write_one : Info → ℕ → ℕ → Talk (Unit {0})
write_one info n offset = write_within 17 info n offset

-- "each Write's address": the addresses of all Writes.
unfoldable pub offsets : Info → ℕ → List ℕ
offsets info n = below (chunk info.max_payload) (padded n) 0

-- "all Erases; Writes; Verify": all Writes.
unfoldable pub write_all : Info → ℕ → Talk (Unit {0})
write_all info n = each (offsets info n) (write_one info n)

-- "the check expected is that of the image lent with the Verify reply"; "its reply's first two bytes are the check,
-- else 4; under two bytes is 18".
unfoldable pub verify : ℕ → Talk (Unit {0})
verify n = do
  (payload, image) ← transact (verify_request n)
  refuse_if (ltb (length payload) 2) 18 []
  refuse_if (not (eqb (check image) (field 0 2 payload))) 4 (check image ∷ field 0 2 payload ∷ [])

-- The operations.

-- Of the next: success with the device information.
abbrev pub known : Info → Talk Outcome
known info = return (knows info)

-- "Requests with one answer": Info as an operation.
unfoldable pub inform_only : Talk Outcome
inform_only = do
  (info, image) ← inform
  known info

-- "Erase: Info, then 19, then addresses 0, e, 2e... below capacity".
unfoldable pub erase : Talk Outcome
erase = do
  (info, image) ← inform
  erase_all info
  known info

-- "Flash, in order: Info .. all Erases; Writes; Verify": of an image of n bytes.
unfoldable pub flash : ℕ → Talk Outcome
flash n = do
  info ← prepare n
  write_all info n
  verify n
  known info

-- "In boot the reply is awaited; otherwise the operation succeeds on handing out the request."
unfoldable pub reset : Bool → Option ℕ → Bool → Talk Outcome
reset bootloader baud true = do
  transact (reset_request bootloader baud)
  return quiet
reset bootloader baud false = ask (leave (reset_request bootloader baud)) (λ _. return quiet)
