-- Document 01, "Requests with one answer": the frame that answers, the device information, and the rules on images.
use Rattle.std.specs.Prelude.{ℕ, zero, suc, ◌+◌, ◌-◌, ◌*◌, ◌/◌, ◌%◌, Bool, false, ◌&&◌, not, cond, List, [], ◌∷◌, leb, ltb, eqb, length, drop}
use Rattle.std.proofs.Math.Option.{Option, none, some}
use Rattle.paper.specs.Frame.{field, Frame, size, most, on_reading, read, status-Request, status-Ok}
use Rattle.paper.specs.Frame.{status-CrcMismatch, Info, info_of, unset}

-- "Status other than Ok: 2 with it": the payload that came with Ok, or the status.
pub data Reply : Type 0 where
  ok : List ℕ → Reply
  device : ℕ → Reply

-- "to the first other one": no frame answers (lost); or one does, with its reply and the place where the unread rest
-- begins.
pub data Answer : Type 0 where
  lost : Answer
  answered : Reply → ℕ → Answer

-- "Status other than Ok: 2 with it."
abbrev pub reply_of : Frame → Reply
reply_of f = cond (eqb f.status status-Ok) (ok f.payload) (device f.status)

-- "skipping every frame of status Request, even with a bad check".
abbrev pub unless_echo : Frame → Answer → Answer → Answer
unless_echo f more this = cond (eqb f.status status-Request) more this

-- "Short or too long, of any status: 1. Bad check: 2 with status 3. Status other than Ok: 2 with it": reading from a
-- place on, at most n frames.
unfoldable pub answer_from : ℕ → ℕ → List ℕ → Answer
answer_from zero at bytes = lost
answer_from (suc n) at bytes =
    on_reading (read (drop at bytes)) lost lost
    (λ k f. unless_echo f (answer_from n (at + (k + size f)) bytes)
    (answered (device status-CrcMismatch) (at + (k + size f))))
    (λ k f. unless_echo f (answer_from n (at + (k + size f)) bytes) (answered (reply_of f) (at + (k + size f))))

-- "Read frames, skipping every frame of status Request, even with a bad check, to the first other one."
unfoldable pub answer : List ℕ → Answer
answer bytes = answer_from (length bytes) 0 bytes

-- "the unread rest of the lent record .. empty if the place is past the end" (of "The port and its edges").
abbrev pub rest : List ℕ → ℕ → List ℕ
rest bytes at = drop at bytes

-- Of the next: the conditions on the fields.
unfoldable pub sound : Info → Bool
sound info = ltb 0 info.erase_size && (ltb 0 info.capacity && leb 4 info.max_payload)

-- "Info: payload under 18, or erase_size 0, capacity 0, or max_payload under 4: 5": none in these cases.
unfoldable pub informed : List ℕ → Option Info
informed payload = cond (leb 18 (length payload) && sound (info_of payload)) (some (info_of payload)) none

-- Of the next: how many steps of size e cover c.
unfoldable pub steps : ℕ → ℕ → ℕ
steps e c = (c + (e - 1)) / e

-- "capacity rounded up to erase_size is above 2^32 - 1" (refusal 19).
unfoldable pub spans_too_far : Info → Bool
spans_too_far info = ltb 0xFFFFFFFF (steps info.erase_size info.capacity * info.erase_size)

-- Of the next: the k numbers a, a + e, a + 2e ..
unfoldable pub apart : ℕ → ℕ → ℕ → List ℕ
apart e zero a = []
apart e (suc k) a = a ∷ apart e k (a + e)

-- Of the next: the numbers a, a + e, a + 2e .. below c.
unfoldable pub below : ℕ → ℕ → ℕ → List ℕ
below e c a = apart e (steps e (c - a)) a

-- "addresses 0, e, 2e... below capacity".
unfoldable pub erase_addresses : Info → List ℕ
erase_addresses info = below info.erase_size info.capacity 0

-- "progress is the address plus e, uncut".
abbrev pub erase_progress : Info → ℕ → ℕ
erase_progress info address = address + info.erase_size

-- "3 if the image exceeds capacity".
unfoldable pub too_large : Info → ℕ → Bool
too_large info n = ltb info.capacity n

-- "lengths from 2^32 on report 4,294,967,295".
unfoldable pub reported : ℕ → ℕ
reported n = cond (leb n 0xFFFFFFFF) n 0xFFFFFFFF

-- "The key exists if the length is at least 6 and leaves 2 on division by 4: the four bytes that begin six before the
-- end."
unfoldable pub key : List ℕ → Option ℕ
key image = cond (leb 6 (length image) && eqb (length image % 4) 2) (some (field (length image - 6) 4 image)) none

-- Of the next: whether the image has a key, and it equals the device's.
abbrev pub same_key : ℕ → Option ℕ → Bool
same_key compat none = false
same_key compat (some k) = eqb k compat

-- "6 if compat is set and the image's key is missing or different".
unfoldable pub incompatible : Info → List ℕ → Bool
incompatible info image = not (eqb info.compat unset) && not (same_key info.compat (key image))

-- "A chunk is the smaller of 1,024 and max_payload, rounded down to a multiple of 4."
unfoldable pub chunk : ℕ → ℕ
chunk max_payload = cond (leb max_payload most) max_payload most / 4 * 4

-- "The image is padded with FF to a multiple of 4": by how many bytes.
unfoldable pub padding : ℕ → ℕ
padding n = (4 - n % 4) % 4

-- "the padded length".
abbrev pub padded : ℕ → ℕ
padded n = n + padding n
