-- What is heard in a record, and which frame in it answers: for a single reply, for an echo before other bytes, and for
-- an example of each kind.
use Prim.Native.Nat.{ℕ, zero, suc, ◌+◌, ◌<◌, ◌≤◌}
use mathlib.Core.Bool.{Bool, true, false, cond}
use mathlib.Core.List.{List, [], ◌∷◌, ◌++◌, append-nil}
use mathlib.Core.Option.{Option, none, some}
use mathlib.Core.Path.{◌≡◌, refl, sym, ◌∙◌, ap}
use native.Mathlib.Omega.{arith}
use native.Mathlib.Nat.{add-zero, add_assoc}
use lib.ListN.{length, drop, length-append, length-drop, drop_of_length-le}
use lib.Seq.{drop_at, drop-append-add}
use lib.Dec.{eqb}
use borrow.Author.Tests.{eq-eqb, ne_eqb}
use Rattle.paper.proofs.Readings.{frames-first, frames-none}
use Rattle.paper.specs.Frame.{Frame, size, frame_bytes, Reading, short, too_long, bad_check, whole, read, on_reading}
use Rattle.paper.specs.Frame.{read_sized, read_synced, skipped, number, right_check, check, crc_from, crc_byte, crc_bit}
use Rattle.paper.specs.Frame.{status-CrcMismatch}
use Rattle.paper.specs.Hearing.{nothing, one, unaddressed, garble, clean, frames, replies, replies_heard, hear, on_some}
use Rattle.paper.specs.Answers.{Answer, lost, answered, Reply, device, reply_of, unless_echo, answer_from, answer}
use Rattle.paper.proofs.Frames.{frame-length}
use Rattle.theory.proofs.frames.FramesReadBack.{Fits, read-written}

-- Any bound on the number of frames gives the same frames, if it is at least the record's length.
pub frames-fuel : (m n : ℕ) (s : List ℕ) → length s ≤ m → length s ≤ n → frames m s ≡ frames n s
unfolding frames
frames-fuel zero n s h k = go s h
  where
    go : (s : List ℕ) → length s ≤ 0 → some [] ≡ frames n s
    go [] h = sym (frames-none n)
    go (b ∷ bs) h = absurd (omega arith)
frames-fuel (suc m) n s h k = go n s h k (frames-fuel m)
  where
    step : (n : ℕ) (s : List ℕ) (o : Option Frame)
        → ((f : Frame) → frames m (drop (size f) s) ≡ frames n (drop (size f) s))
        → on_some o none (λ f. on_some (frames m (drop (size f) s)) none (λ fs. some (f ∷ fs)))
        ≡ on_some o none (λ f. on_some (frames n (drop (size f) s)) none (λ fs. some (f ∷ fs)))
    step n s none same = refl
    step n s (some f) same = ap (λ (o : Option (List Frame)). on_some o none (λ fs. some (f ∷ fs))) (same f)

    go : (n : ℕ) (s : List ℕ) → length s ≤ suc m → length s ≤ n
        → ((n : ℕ) (s : List ℕ) → length s ≤ m → length s ≤ n → frames m s ≡ frames n s)
        → frames (suc m) s ≡ frames n s
    go n [] h k same = sym (frames-none n)
    go zero (b ∷ bs) h k same = absurd (omega arith)
    go (suc n) (b ∷ bs) h k same =
        step n (b ∷ bs) (clean (read (b ∷ bs)))
        (λ f.
        same n (drop (size f) (b ∷ bs)) (omega (arith, length-drop (size f) (b ∷ bs)))
        (omega (arith, length-drop (size f) (b ∷ bs))))

module _ (f : Frame) (h : Fits f) (more : List ℕ) where
  long : length (frame_bytes f ++ more) ≡ size f + length more
  long = length-append (frame_bytes f) more ∙ ap (λ (n : ℕ). n + length more) (frame-length f)

  rest : drop (size f) (frame_bytes f ++ more) ≡ more
  rest = drop_at (frame_bytes f) more (size f) (frame-length f)

  pub frames-written : frames (length (frame_bytes f ++ more)) (frame_bytes f ++ more)
      ≡ on_some (frames (length more) more) none (λ fs. some (f ∷ fs))
  unfolding clean
  frames-written = go (length (frame_bytes f ++ more)) refl
    where
      go : (n : ℕ) → length (frame_bytes f ++ more) ≡ n
          → frames n (frame_bytes f ++ more) ≡ on_some (frames (length more) more) none (λ fs. some (f ∷ fs))
      go zero e = absurd (omega (arith, long))
      go (suc n) e =
          frames-first n (frame_bytes f ++ more) (omega (arith, long))
          ∙ (rw (read-written f h more, rest)
          (ap (λ (o : Option (List Frame)). on_some o none (λ fs. some (f ∷ fs)))
          (frames-fuel n (length more) more (omega (arith, long)) (omega arith))))

  -- What is heard in a frame and the bytes after it.
  hear-written : hear (frame_bytes f ++ more)
      ≡ on_some (frames (length more) more) garble (λ fs. replies_heard (replies (f ∷ fs)))
  unfolding hear
  hear-written = ap (λ (o : Option (List Frame)). on_some o garble (λ fs. replies_heard (replies fs))) frames-written
      ∙ go (frames (length more) more)
    where
      go : (o : Option (List Frame))
          → on_some (on_some o none (λ fs. some (f ∷ fs))) garble (λ fs. replies_heard (replies fs))
          ≡ on_some o garble (λ fs. replies_heard (replies (f ∷ fs)))
      go none = refl
      go (some fs) = refl

  pub hear-echo : f.status ≡ 0 → hear (frame_bytes f ++ more) ≡ hear more
  unfolding hear replies
  hear-echo z = hear-written ∙ go (frames (length more) more)
    where
      go : (o : Option (List Frame))
          → on_some o garble (λ fs. replies_heard (replies (f ∷ fs))) ≡ on_some o garble (λ fs. replies_heard (replies fs))
      go none = refl
      go (some fs) = rw (eq-eqb f.status 0 z)

pub hear-reply : (f : Frame) → Fits f → (f.status ≡ 0 → ⊥) → hear (frame_bytes f) ≡ replies_heard (f ∷ [])
unfolding frames replies
hear-reply f h z = ap hear (sym (append-nil (frame_bytes f))) ∙ hear-written f h [] ∙ rw (ne_eqb f.status 0 z)

module _ (f : Frame) (h : Fits f) where
  pub hear-ok : f.status ≡ 1 → hear (frame_bytes f) ≡ one f.payload
  unfolding replies_heard
  hear-ok e = hear-reply f h (omega arith) ∙ rw (eq-eqb f.status 1 e)

  pub hear-unsupported : f.status ≡ 2 → hear (frame_bytes f) ≡ unaddressed
  unfolding replies_heard
  hear-unsupported e = hear-reply f h (omega arith) ∙ rw (ne_eqb f.status 1 (omega arith), eq-eqb f.status 2 e)

  pub hear-other : 2 < f.status → hear (frame_bytes f) ≡ garble
  unfolding replies_heard
  hear-other l = hear-reply f h (omega arith)
      ∙ rw (ne_eqb f.status 1 (omega arith), ne_eqb f.status 2 (omega arith))

-- The answer from one reading at a place, given the answers from later places.
abbrev turn : ℕ → (ℕ → Answer) → Reading → Answer
turn at next y =
    on_reading y lost lost
    (λ k f. unless_echo f (next (at + (k + size f))) (answered (device status-CrcMismatch) (at + (k + size f))))
    (λ k f. unless_echo f (next (at + (k + size f))) (answered (reply_of f) (at + (k + size f))))

turn-same : (at : ℕ) (next next' : ℕ → Answer) → ((p : ℕ) → at < p → next p ≡ next' p) → (y : Reading)
    → turn at next y ≡ turn at next' y
turn-same at next next' same short = refl
turn-same at next next' same too_long = refl
turn-same at next next' same (bad_check k f) =
    ap (λ (a : Answer). unless_echo f a (answered (device status-CrcMismatch) (at + (k + size f))))
    (same (at + (k + size f)) (omega arith))
turn-same at next next' same (whole k f) =
    ap (λ (a : Answer). unless_echo f a (answered (reply_of f) (at + (k + size f))))
    (same (at + (k + size f)) (omega arith))

answer-past : (n at : ℕ) (s : List ℕ) → length s ≤ at → answer_from n at s ≡ lost
unfolding answer_from read read_synced skipped
answer-past zero at s h = refl
answer-past (suc n) at s h = rw (drop_of_length-le s {i = at} h)

-- Any bound on the number of frames gives the same answer, if it is at least the length left.
pub answer-fuel : (m n at : ℕ) (s : List ℕ) → length s ≤ at + m → length s ≤ at + n
    → answer_from m at s ≡ answer_from n at s
unfolding answer_from
answer-fuel zero n at s h k = sym (answer-past n at s (omega arith))
answer-fuel (suc m) zero at s h k = answer-past (suc m) at s (omega arith)
answer-fuel (suc m) (suc n) at s h k =
    turn-same at (λ p. answer_from m p s) (λ p. answer_from n p s)
    (λ p l. answer-fuel m n p s (omega arith) (omega arith)) (read (drop at s))

-- The same answer, with its place moved by k.
abbrev pub moved : ℕ → Answer → Answer
moved k lost = lost
moved k (answered r at) = answered r (k + at)

module _ (k at : ℕ) (next next' : ℕ → Answer) (same : (p : ℕ) → next (k + p) ≡ moved k (next' p)) where
  echo-moved : (b : Bool) (i : ℕ) (r : Reply)
      → cond b (next (k + at + i)) (answered r (k + at + i)) ≡ moved k (cond b (next' (at + i)) (answered r (at + i)))
  echo-moved true i r = ap next (add_assoc k at i) ∙ same (at + i)
  echo-moved false i r = ap (answered r) (add_assoc k at i)

  turn_moved : (y : Reading) → turn (k + at) next y ≡ moved k (turn at next' y)
  turn_moved short = refl
  turn_moved too_long = refl
  turn_moved (bad_check i f) = echo-moved (eqb f.status 0) (i + size f) (device status-CrcMismatch)
  turn_moved (whole i f) = echo-moved (eqb f.status 0) (i + size f) (reply_of f)

answer-moved : (before : List ℕ) (n at : ℕ) (s : List ℕ)
    → answer_from n (length before + at) (before ++ s) ≡ moved (length before) (answer_from n at s)
unfolding answer_from
answer-moved before zero at s = refl
answer-moved before (suc n) at s =
    ap (λ (t : List ℕ). turn (length before + at) (λ p. answer_from n p (before ++ s)) (read t))
    (drop-append-add before s at)
    ∙ turn_moved (length before) at (λ p. answer_from n p (before ++ s)) (λ p. answer_from n p s)
    (λ p. answer-moved before n p s) (read (drop at s))

module _ (f : Frame) (h : Fits f) (more : List ℕ) where
  answer-written : answer (frame_bytes f ++ more)
      ≡ unless_echo f (moved (size f) (answer more)) (answered (reply_of f) (size f))
  unfolding answer answer_from
  answer-written = go (length (frame_bytes f ++ more)) refl
    where
      plain : (n : ℕ) → 0 + (0 + n) ≡ n
      plain n = omega arith

      go : (n : ℕ) → length (frame_bytes f ++ more) ≡ n
          → answer_from n 0 (frame_bytes f ++ more)
          ≡ unless_echo f (moved (size f) (answer more)) (answered (reply_of f) (size f))
      go zero e = absurd (omega (arith, long f h more))
      go (suc n) e =
          ap (turn 0 (λ p. answer_from n p (frame_bytes f ++ more))) (read-written f h more)
          ∙ ap (λ (p : ℕ). unless_echo f (answer_from n p (frame_bytes f ++ more)) (answered (reply_of f) p))
          (plain (size f))
          ∙ ap (λ (a : Answer). unless_echo f a (answered (reply_of f) (size f)))
          (answer-fuel n (length more) (size f) (frame_bytes f ++ more) (omega (arith, long f h more))
          (omega (arith, long f h more))
          ∙ (rw (add-zero, frame-length f) at (answer-moved (frame_bytes f) (length more) 0 more)))

  pub answer-reply : (f.status ≡ 0 → ⊥) → answer (frame_bytes f ++ more) ≡ answered (reply_of f) (size f)
  answer-reply z = rw (ne_eqb f.status 0 z) at answer-written

  pub answer-echo : f.status ≡ 0 → answer (frame_bytes f ++ more) ≡ moved (size f) (answer more)
  answer-echo z = rw (eq-eqb f.status 0 z) at answer-written

-- A record of each kind, as bytes. The last is the second with one bit of its check changed.
pub nothing-heard : hear [] ≡ nothing
unfolding hear frames replies replies_heard
nothing-heard = refl

pub one-heard : hear (0xA5 ∷ 0x05 ∷ 0x01 ∷ 0x00 ∷ 0x00 ∷ 0x00 ∷ 0x00 ∷ 0x00 ∷ 0x01 ∷ 0x00 ∷ 0x07 ∷ 0xBD ∷ 0x8F ∷ [])
    ≡ one (7 ∷ [])
unfolding hear frames replies replies_heard clean read read_synced read_sized skipped number right_check check crc_from
    crc_byte crc_bit
one-heard = refl

pub unaddressed-heard : hear (0xA5 ∷ 0x05 ∷ 0x02 ∷ 0x00 ∷ 0x00 ∷ 0x00 ∷ 0x00 ∷ 0x00 ∷ 0x00 ∷ 0x00 ∷ 0x18 ∷ 0xE0 ∷ [])
    ≡ unaddressed
unfolding hear frames replies replies_heard clean read read_synced read_sized skipped number right_check check crc_from
    crc_byte crc_bit
unaddressed-heard = refl

pub garble-heard : hear (0xA5 ∷ 0x05 ∷ 0x01 ∷ 0x00 ∷ 0x00 ∷ 0x00 ∷ 0x00 ∷ 0x00 ∷ 0x01 ∷ 0x00 ∷ 0x07 ∷ 0xBD ∷ 0x8E ∷ [])
    ≡ garble
unfolding hear frames replies replies_heard clean read read_synced read_sized skipped number right_check check crc_from
    crc_byte crc_bit
garble-heard = refl
