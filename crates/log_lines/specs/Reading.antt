-- The reader and its buffer after one character, and after a piece.
use Rattle.std.specs.Prelude.{ℕ, ◌+◌, ◌*◌, ◌%◌, Bool, true, false, ◌||◌, not, cond, List, [], ◌∷◌, length, set, ltb, eqb}
use Rattle.paper.specs.Text.{digit}
use Rattle.log_lines.specs.declared.Place.{Place}
use Rattle.log_lines.specs.declared.Place.TheVariants.{Start, Even, Odd}
use Rattle.log_lines.specs.declared.Turn.{Turn}
use Rattle.log_lines.specs.declared.Turn.TheVariants.{Half, Whole}
use Rattle.log_lines.specs.declared.Event.{Event}
use Rattle.log_lines.specs.declared.Event.TheVariants.{More, Line, Empty, Bad}
use Rattle.log_lines.specs.declared.Reader.{Reader}
use Rattle.log_lines.specs.declared.Step.{Step}
use Rattle.log_lines.specs.declared.Fed.{Fed}

-- A value for each case.
abbrev pub on_place {ℓ} : {A : Type ℓ} → Place → A → A → (ℕ → A) → A
on_place Start s e o = s
on_place Even s e o = e
on_place (Odd h) s e o = o h

abbrev pub on_turn {ℓ} : {A : Type ℓ} → Turn → (ℕ → A) → (ℕ → A) → A → A → A → A
on_turn (Half h) f g l e b = f h
on_turn (Whole v) f g l e b = g v
on_turn Turn.Line f g l e b = l
on_turn Turn.Empty f g l e b = e
on_turn Turn.Bad f g l e b = b

abbrev pub on_event {ℓ} : {A : Type ℓ} → Event → A → A → A → A → A
on_event More m l e b = m
on_event Line m l e b = l
on_event Empty m l e b = e
on_event Bad m l e b = b

-- What a character is at a place in a line.
unfoldable pub turn : Place → ℕ → Turn
turn p b =
    cond (eqb b 10) (on_place p Turn.Empty Turn.Line (λ h. Turn.Bad))
    (cond (ltb (digit b) 16)
    (on_place p (Half (digit b)) (Half (digit b)) (λ h. Whole (h % 16 * 16 + digit b)))
    Turn.Bad)

-- A step, and the buffer after it.
pub record Stepped : Type 0 where
  pub step : Step
  pub bytes : List ℕ

-- The reader at another place in the line.
abbrev pub at : Reader → Place → Reader
at r p = record { place = p; len = r.len; over = r.over }

abbrev pub told : Reader → Event → List ℕ → Stepped
told r e buf = record { step = record { reader = r; event = e }; bytes = buf }

-- A byte is added to the buffer. If there is no room, only over is set.
unfoldable pub keep : Reader → ℕ → List ℕ → Stepped
keep r v buf =
    cond (ltb r.len (length buf))
    (told (record { place = Even; len = r.len + 1; over = r.over }) More (set buf r.len v))
    (told (record { place = Even; len = r.len; over = true }) More buf)

-- One character is read.
unfoldable pub step : Reader → List ℕ → ℕ → Stepped
step r buf b =
    on_turn (turn r.place b)
    (λ h. told (at r (Odd h)) More buf)
    (λ v. keep r v buf)
    (told (at r Start) Line buf)
    (told (at r Start) Empty buf)
    (told r Bad buf)

-- The result of reading a piece, and the buffer after it.
pub record Read : Type 0 where
  pub fed : Fed
  pub bytes : List ℕ

-- The result of reading a piece up to place i, after this step.
abbrev pub went : ℕ → Stepped → Read
went i s = record { fed = record { reader = s.step.reader; at = i; event = s.step.event }; bytes = s.bytes }

-- Whether reading stops after a character. At the end of a line it goes on if lines are joined and there was room.
abbrev pub halts : Event → Bool → Bool → Bool
halts e joined over = on_event e false (over || not joined) true true

-- A piece is read from place i on, up to the first empty line or bad character, or its end. Reading also stops at the
-- end of a line, unless lines are joined and every byte had room.
unfoldable pub feed : Bool → ℕ → Reader → List ℕ → List ℕ → Read
feed joined i r buf [] = went i (told r More buf)
feed joined i r buf (b ∷ bs) =
    cond (halts (step r buf b).step.event joined (step r buf b).step.reader.over)
    (went (i + 1) (step r buf b))
    (feed joined (i + 1) (step r buf b).step.reader (step r buf b).bytes bs)
