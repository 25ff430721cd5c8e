-- The order of a flash, read from the bytes handed out: document 01's reader reads each request, and the event after it
-- gives the answer.
use Rattle.std.specs.Prelude.{ℕ, ◌+◌, ◌&&◌, cond, List, [], ◌∷◌, ◌++◌, ◌≡◌, eqb, length}
use Rattle.std.proofs.Math.Option.{Option, none, some}
use Rattle.paper.specs.Answers.{answer, erase_addresses, padded}
use Rattle.paper.specs.Client.{Says, over, replied}
use Rattle.paper.specs.Count.{All}
use Rattle.paper.specs.Frame.{Frame, size, whole, read, on_reading, Info, command-Info, command-Erase, command-Write}
use Rattle.paper.specs.Hearing.{on_some}
use Rattle.paper.specs.Talk.{Answered, knows}
use Rattle.theory.specs.FlashOrder.{Event, heard, failed, told_by, is_ok, Passed}
use Rattle.theory.specs.ClientDriven.{Sent}

-- "Read frames .. to the first other one": the answer to a request, if there is one.
unfoldable pub answered_by : Option Event → Option Answered
answered_by none = none
answered_by (some (heard image bytes)) = replied (answer bytes) image
answered_by (some failed) = none

-- What f gives for a request's frame and its answer; `nothing` where there is no frame or no answer.
unfoldable pub said : {A : Type 0} → Sent → A → (Frame → Answered → A) → A
said s nothing f = on_reading (read s.bytes) nothing nothing (λ k g. nothing)
    (λ k g. on_some (answered_by s.then) nothing (f g))

-- The first device information received, with the image lent with it.
unfoldable pub told_in : Sent → Option (Info × List ℕ)
told_in s = said s none (λ f a. cond (eqb f.command command-Info) (told_by a.reply a.image) none)

unfoldable pub told : List Sent → Option (Info × List ℕ)
told [] = none
told (s ∷ ss) = on_some (told_in s) (told ss) some

-- The addresses of the Erases answered Ok, the first one first.
unfoldable pub erased_in : Sent → List ℕ
erased_in s = said s [] (λ f a. cond (eqb f.command command-Erase && is_ok a.reply) (f.address ∷ []) [])

unfoldable pub erased : List Sent → List ℕ
erased [] = []
erased (s ∷ ss) = erased_in s ++ erased ss

-- "the total length of Writes answered Ok".
unfoldable pub written_in : Sent → ℕ
written_in s = said s 0 (λ f a. cond (eqb f.command command-Write && is_ok a.reply) (length f.payload) 0)

unfoldable pub written : List Sent → ℕ
written [] = 0
written (s ∷ ss) = written_in s + written ss

-- The bytes are exactly one whole frame.
pub record IsFrame (s : Sent) : Type 0 where
  pub frame : Frame
  pub reads : read s.bytes ≡ whole 0 frame
  pub all : length s.bytes ≡ size frame

-- A request with this frame was handed out, after the requests `before`.
pub record Hands (handed before : List Sent) (f : Frame) : Type 0 where
  pub sent : Sent
  pub later : List Sent
  pub cut : handed ≡ before ++ (sent ∷ later)
  pub frame : read sent.bytes ≡ whole 0 f

-- The device information received allows a flash of n bytes.
pub record Passes (n : ℕ) (before : List Sent) : Type 0 where
  pub info : Info
  pub passed : Passed n (told before) info

-- The same, and every address to erase has been erased.
pub record Cleared (n : ℕ) (before : List Sent) : Type 0 where
  pub info : Info
  pub passed : Passed n (told before) info
  pub erases : erased before ≡ erase_addresses info

-- What a flash of an image of n bytes hands out, and its last answer.
pub record FlashOrder (n : ℕ) (handed : List Sent) (says : Says) : Type 0 where
  -- Each request is a frame.
  pub frames : All IsFrame handed
  -- "no Erase before Info and image pass".
  pub erases : (before : List Sent) (f : Frame) → Hands handed before f → f.command ≡ command-Erase → Passes n before
  -- "no Write before the last Erase is answered".
  pub writes : (before : List Sent) (f : Frame) → Hands handed before f → f.command ≡ command-Write → Cleared n before
  -- "each Write's address is the total length of Writes answered Ok so far".
  pub addresses : (before : List Sent) (f : Frame) → Hands handed before f → f.command ≡ command-Write
      → f.address ≡ written before
  -- "and on success that total is the padded length".
  pub total : (p : Option (ℕ × ℕ)) (info : Info) → says ≡ over p (knows info) → written handed ≡ padded n
