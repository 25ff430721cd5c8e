-- Document 01, "The port and its edges" and "Refusal numbers": what each call answers, and the client after it.
use Rattle.std.specs.Prelude.{ℕ, ◌+◌, ◌-◌, ◌*◌, ◌%◌, Bool, true, false, ◌&&◌, not, cond, List, [], ◌∷◌, ◌++◌, leb, ltb, eqb, length, take, drop, replicate}
use Rattle.std.proofs.Math.Option.{Option, none, some}
use Rattle.paper.specs.Frame.{Frame, frame_bytes, status-Request}
use Rattle.paper.specs.Hearing.{Id, bits_of, select_frame, hear, longest, on_some}
use Rattle.paper.specs.Answers as Answers
use Rattle.paper.specs.Answers.{lost, answered, answer}
use Rattle.paper.specs.Talk.{Payload, these, piece, Demand, Ask, select, demand, leave, Answered, AnswerTo, Talk}
use Rattle.paper.specs.Talk.{return, stop, report, ask, Outcome, quiet, heard, attached, found, knows}
use Rattle.paper.specs.Attach.{select_only, deselect, attach, discover}
use Rattle.paper.specs.Flash.{inform_only, erase, flash, reset}

-- "The port and its edges": what is left to do. Either no operation runs, or a request is ready to be asked for, or a
-- request is out; a request comes with how the operation goes on after its answer.
pub data Left : Type 0 where
  idle : Left
  ready : (q : Ask) → (AnswerTo q → Talk Outcome) → Left
  waiting : (q : Ask) → (AnswerTo q → Talk Outcome) → Left

-- "a client by value": its seed, the attached id or none, the length of the image that a running flash was started
-- with, and what is left to do.
pub record Client : Type 0 where
  pub seed : ℕ
  pub id : Option Id
  pub image : Option ℕ
  pub left : Left

-- "fresh client: 0".
unfoldable pub fresh : Client
fresh = record { seed = 0; id = none; image = none; left = idle }

-- "The port and its edges": what a call answers. refused: a number and the values that it carries. granted: a request
-- of this length, whose answer is awaited. closing: a request of this length, with which the operation has succeeded.
-- onward: the operation goes on, with the progress made, if any. over: the operation has ended, with the progress made,
-- if any, and its outcome.
pub data Says : Type 0 where
  refused : ℕ → List ℕ → Says
  granted : ℕ → Says
  closing : ℕ → Says
  onward : Option (ℕ × ℕ) → Says
  over : Option (ℕ × ℕ) → Outcome → Says

-- "the answer says where it starts": a call's answer, the client after it, and where the unread rest begins.
pub record Told : Type 0 where
  pub says : Says
  pub client : Client
  pub rest : ℕ

-- "end the operation": the client with no operation running.
abbrev pub ended : Client → Option Id → Client
ended c id = record { seed = c.seed; id = id; image = none; left = idle }

-- "One: attached. Unaddressed: success with no id": the attached id after an outcome.
unfoldable pub id_after : Outcome → Option Id → Option Id
id_after quiet id = id
id_after (heard h) id = id
id_after (attached new) id = new
id_after (found ids) id = id
id_after (knows info) id = id

-- "The others end the operation; seed and (but for deselects) attached id stay as they are then": a conversation is run
-- up to its next request or its end.
unfoldable pub proceed : Client → Option (ℕ × ℕ) → Talk Outcome → ℕ → Told
proceed c progress (return o) at = record { says = over progress o; client = ended c (id_after o c.id); rest = at }
proceed c progress (stop n carries) at = record { says = refused n carries; client = ended c c.id; rest = at }
proceed c progress (report a b m) at = proceed c (some (a, b)) m at
proceed c progress (ask q f) at =
    record {
      says = onward progress;
      client = record { seed = c.seed; id = c.id; image = c.image; left = ready q f };
      rest = at;
    }

-- "13, 16, 20, 21, 22 change no state."; "the unread rest is .. the whole record after 20 or 21".
abbrev pub refuses : Client → ℕ → List ℕ → Told
refuses c n carries = record { says = refused n carries; client = c; rest = 0 }

-- "The port and its edges": a result for each case of what is left to do.
abbrev pub on_left {ℓ} : {A : Type ℓ} → Left → A → ((q : Ask) → (AnswerTo q → Talk Outcome) → A)
    → ((q : Ask) → (AnswerTo q → Talk Outcome) → A) → A
on_left idle i r w = i
on_left (ready q f) i r w = r q f
on_left (waiting q f) i r w = w q f

-- "Out of turn is: a start while an operation runs"; "Order: 21, 20, 13". A flash gives the length of its image; good
-- is false where the arguments give 13.
unfoldable pub start_with : Option ℕ → Client → Bool → Talk Outcome → Told
start_with image c good talk =
    on_left c.left
    (cond good (proceed (record { seed = c.seed; id = c.id; image = image; left = idle }) none talk 0)
    (refuses c 13 []))
    (λ q f. refuses c 21 []) (λ q f. refuses c 21 [])

-- "the host starts an operation": any except a flash.
abbrev pub start : Client → Bool → Talk Outcome → Told
start c good talk = start_with none c good talk

-- "prefix or id given over 16 bytes": whether there are at most 16.
abbrev pub within_longest : Id → Bool
within_longest bytes = leb (length bytes) longest

-- "The plain select takes prefix bytes and a bit count; a count over 128 or over 8 times the bytes given is 13", and so
-- is a "prefix or id given over 16 bytes".
unfoldable pub start_select : Client → Id → ℕ → Told
start_select c bytes bits = start c (within_longest bytes && (leb bits 128 && leb bits (8 * length bytes)))
    (select_only (take bits (bits_of bytes)))

-- "Deselect is a Select of 129 zero bits".
unfoldable pub start_deselect : Client → Told
start_deselect c = start c true deselect

-- "Select the prefix (empty if none given)."
unfoldable pub start_attach : Client → Option Id → Told
start_attach c uid = start c (on_some uid true within_longest) (attach uid)

-- "The walk": a discovery is started.
unfoldable pub start_discover : Client → Id → Told
start_discover c bytes = start c (within_longest bytes) (discover bytes)

-- "Requests with one answer": Info.
unfoldable pub start_info : Client → Told
start_info c = start c true inform_only

-- "Erase: Info, then 19".
unfoldable pub start_erase : Client → Told
start_erase c = start c true erase

-- "Flash, in order: Info".
unfoldable pub start_flash : Client → List ℕ → Told
start_flash c image = start_with (some (length image)) c true (flash (length image))

-- "Reset: address is .. 0".
unfoldable pub start_reset : Client → Bool → Bool → Told
start_reset c bootloader in_boot = start c true (reset bootloader none in_boot)

-- "Reset: address is the baud .. BAUD set if one was given."
unfoldable pub start_set_baud : Client → ℕ → Bool → Bool → Told
start_set_baud c baud bootloader in_boot = start c true (reset bootloader (some baud) in_boot)

-- "image length differs from the one at the start" (refusal 20).
abbrev pub other_length : Option ℕ → List ℕ → Bool
other_length none image = false
other_length (some n) image = not (eqb n (length image))

-- "A Select adds 1 to the seed, wrapping at 256".
abbrev pub seed_after : Ask → ℕ → ℕ
seed_after (select p) seed = (seed + 1) % 256
seed_after (demand d) seed = seed
seed_after (leave d) seed = seed

-- "The image is padded with FF to a multiple of 4; each Write carries the image from its offset on".
unfoldable pub payload_of : Payload → List ℕ → List ℕ
payload_of (these bytes) image = bytes
payload_of (piece offset k) image = take k (drop offset image) ++ replicate (k - (length image - offset)) 0xFF

-- "Requests have status 0": the frame of a request, with the image lent.
abbrev pub demand_frame : Demand → List ℕ → Frame
demand_frame d image =
    record {
      command = d.command;
      status = status-Request;
      flags = d.flags;
      address = d.address;
      payload = payload_of d.payload image;
    }

-- "asks for a request": its bytes, from the seed that a Select carries and the image lent.
unfoldable pub bytes_of : Ask → ℕ → List ℕ → List ℕ
bytes_of (select p) seed image = frame_bytes (select_frame seed p)
bytes_of (demand d) seed image = frame_bytes (demand_frame d image)
bytes_of (leave d) seed image = frame_bytes (demand_frame d image)

-- "its answer, the next state and every byte of the request buffer" (of "Holding the contracts to account").
pub record Asked : Type 0 where
  pub says : Says
  pub client : Client
  pub buffer : List ℕ

-- "In boot the reply is awaited; otherwise the operation succeeds on handing out the request": the answer for a request
-- of n bytes.
abbrev pub handing : Ask → ℕ → Says
handing (select p) n = granted n
handing (demand d) n = granted n
handing (leave d) n = closing n

-- "otherwise the operation succeeds on handing out the request": the client after that. If the answer is not awaited,
-- the operation goes on at once.
unfoldable pub handed_out : Client → ℕ → (q : Ask) → (AnswerTo q → Talk Outcome) → Client
handed_out c seed (select p) f = record { seed = seed; id = c.id; image = c.image; left = waiting (select p) f }
handed_out c seed (demand d) f = record { seed = seed; id = c.id; image = c.image; left = waiting (demand d) f }
handed_out c seed (leave d) f =
    (proceed (record { seed = seed; id = c.id; image = c.image; left = c.left }) none (f tt) 0).client

-- "13, 16, 20, 21, 22 change no state": nor is any byte written.
abbrev pub withholds : Client → ℕ → List ℕ → List ℕ → Asked
withholds c n carries buffer = record { says = refused n carries; client = c; buffer = buffer }

-- "A granted request fills its own length of the buffer and changes no byte after it."; "request or text buffer too
-- short .. length needed".
unfoldable pub grant : Client → List ℕ → ℕ → (q : Ask) → (AnswerTo q → Talk Outcome) → List ℕ → Asked
grant c bytes seed q f buffer =
    cond (ltb (length buffer) (length bytes)) (withholds c 16 (length bytes ∷ []) buffer)
    (record {
      says = handing q (length bytes);
      client = handed_out c seed q f;
      buffer = bytes ++ drop (length bytes) buffer;
    })

-- "asking with none running or with a request unanswered"; "Order: 21, 20, 13, 16".
unfoldable pub request : Client → List ℕ → List ℕ → Asked
request c image buffer =
    on_left c.left (withholds c 21 [] buffer)
    (λ q f. cond (other_length c.image image) (withholds c 20 [] buffer)
    (grant c (bytes_of q (seed_after q c.seed) image) (seed_after q c.seed) q f buffer))
    (λ q f. withholds c 21 [] buffer)

-- "Deselect .. its record, once handed in, clears the attached id": only a deselect has more than 128 bits.
abbrev pub cleared : Ask → Option Id → Option Id
cleared (select p) id = cond (ltb 128 (length p)) none id
cleared (demand d) id = id
cleared (leave d) id = id

-- Of the next: the reply in a record, if there is one, with the image lent.
abbrev pub replied : Answers.Answer → List ℕ → Option Answered
replied lost image = none
replied (answered r end) image = some (record { reply = r; image = image })

-- "hands back the bytes heard": what they say to a request, if they answer it.
abbrev pub reading : (q : Ask) → List ℕ → List ℕ → Option (AnswerTo q)
reading (select p) image bytes = some (hear bytes)
reading (demand d) image bytes = replied (answer bytes) image
reading (leave d) image bytes = some tt

-- Of the next: "the unread rest is empty after 1".
abbrev pub end_of : Answers.Answer → ℕ → ℕ
end_of lost all = all
end_of (answered r end) all = end

-- "Bytes after the frame that answered a request stay unread"; "A Select consumes everything."
abbrev pub place : Ask → List ℕ → ℕ
place (select p) bytes = length bytes
place (demand d) bytes = end_of (answer bytes) (length bytes)
place (leave d) bytes = length bytes

-- "Io, or link failed" (refusal 1).
abbrev pub fails : Client → ℕ → Told
fails c at = record { says = refused 1 []; client = ended c c.id; rest = at }

-- "a record or link failure with no request out"; "Order: 21, 20, 13, 16, then the record."
unfoldable pub record' : Client → List ℕ → List ℕ → Told
record' c image bytes =
    on_left c.left (refuses c 21 []) (λ q f. refuses c 21 [])
    (λ q f.
    cond (other_length c.image image) (refuses c 20 [])
    (on_some (reading q image bytes) (fails c (place q bytes))
    (λ a. proceed (record { seed = c.seed; id = cleared q c.id; image = c.image; left = c.left }) none (f a)
    (place q bytes))))

-- "or says that the link failed": there is no record, so the rest begins at 0.
unfoldable pub link_failed : Client → Told
link_failed c = on_left c.left (refuses c 21 []) (λ q f. refuses c 21 []) (λ q f. fails c 0)
