-- A frame from its head and payload, and what a frame's writer answers and leaves in the buffer.
use Rattle.std.specs.Prelude.{ℕ, ◌+◌, Result, Ok, Err, cond, List, [], ◌∷◌, ◌++◌, ltb, length, take, drop}
use Rattle.paper.specs.Frame.{le, Frame, most, frame_check, frame_bytes}
use Rattle.wire.specs.declared.Short.{Short}
use Rattle.wire.specs.declared.Unwritten.{Unwritten}
use Rattle.frame.specs.declared.Head.{Head}

abbrev pub frame_of : Head → List ℕ → Frame
frame_of h payload = record {
  command = h.command;
  status = h.status;
  flags = h.flags;
  address = h.address;
  payload = payload;
}

-- The first four bytes of a frame.
abbrev pub tag_of : Head → List ℕ
tag_of h = 0xA5 ∷ h.command ∷ h.status ∷ h.flags ∷ []

-- The ten bytes before a payload of n bytes.
unfoldable pub head_of : Head → ℕ → List ℕ
head_of h n = tag_of h ++ le 4 h.address ++ le 2 n

-- The answer of the writer of a request, and the buffer after it.
pub record Placing : Type 0 where
  pub answer : Result ℕ Short
  pub bytes : List ℕ

-- "fills its own length of the buffer and changes no byte after it"; if the buffer is too short, nothing is written.
unfoldable pub placed : List ℕ → List ℕ → Placing
placed bytes buffer =
    cond (ltb (length buffer) (length bytes))
    (record { answer = Err (record { needed = length bytes }); bytes = buffer })
    (record { answer = Ok (length bytes); bytes = bytes ++ drop (length bytes) buffer })

-- The answer of the writer of any frame, and the buffer after it.
pub record Outcome : Type 0 where
  pub answer : Result ℕ Unwritten
  pub bytes : List ℕ

-- A result for each answer.
abbrev pub on_placed {ℓ} : {A : Type ℓ} → Result ℕ Short → (ℕ → A) → (ℕ → A) → A
on_placed (Ok n) d s = d n
on_placed (Err short) d s = s short.needed

-- The same answer of a writer that may refuse its input too.
unfoldable pub answer_of : Result ℕ Short → Result ℕ Unwritten
answer_of p = on_placed p Ok (λ n. Err (Unwritten.Short n))

abbrev pub outcome : Placing → Outcome
outcome p = record { answer = answer_of p.answer; bytes = p.bytes }

-- The buffer with a frame's check written after the frame's first n bytes.
unfoldable pub sealed : ℕ → List ℕ → List ℕ
sealed n buffer = take n buffer ++ le 2 (frame_check (take n buffer)) ++ drop (n + 2) buffer

-- A payload of over 1,024 bytes is too long for any buffer.
unfoldable pub written : Frame → List ℕ → Outcome
written f buffer = cond (ltb most (length f.payload)) (record { answer = Err Unwritten.TooLong; bytes = buffer })
    (outcome (placed (frame_bytes f) buffer))
