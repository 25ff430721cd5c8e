-- No frame is good under both rules for its check. A frame with the old check is read as one of bad check, and a record
-- that begins with one is heard as Garble.
use Prim.Native.Nat.{ℕ, zero, suc, ◌+◌}
use mathlib.Core.List.{List, ◌++◌}
use mathlib.Core.Path.{◌≡◌, refl, ap}
use native.Mathlib.Omega.{arith}
use lib.ListN.{length, length-append}
use borrow.Author.Tests.{ne_eqb}
use Rattle.paper.proofs.Frames.{body-length}
use Rattle.paper.proofs.Readings.{frames-first}
use Rattle.paper.proofs.Words.{le-length}
use Rattle.paper.specs.Answers.{answer_from, answer, answered, device}
use Rattle.paper.specs.Frame.{le, check, Frame, size, frame_body}
use Rattle.paper.specs.Frame.{status-CrcMismatch}
use Rattle.paper.specs.Hearing.{garble, clean, frames, replies, replies_heard, hear, on_some}
use Rattle.theory.specs.OldCheck.{old_bytes}
use Rattle.theory.proofs.frames.FramesReadBack.{Fits}
pub use Rattle.theory.proofs.frames.OldRead.{checks-differ, old-read}

module _ (f : Frame) (h : Fits f) (more : List ℕ) where
  old-long : length (old_bytes f ++ more) ≡ size f + length more
  old-long = omega (
    arith,
    length-append (old_bytes f) more,
    length-append (frame_body f) (le 2 (check (frame_body f))),
    body-length f,
    le-length 2 (check (frame_body f)),
  )

  pub old-heard : hear (old_bytes f ++ more) ≡ garble
  unfolding hear clean
  old-heard = go (length (old_bytes f ++ more)) refl
    where
      go : (n : ℕ) → length (old_bytes f ++ more) ≡ n
          → on_some (frames n (old_bytes f ++ more)) garble (λ fs. replies_heard (replies fs)) ≡ garble
      go zero e = absurd (omega (arith, old-long))
      go (suc n) e = rw (frames-first n (old_bytes f ++ more) (omega (arith, old-long)), old-read f h more)

  pub old-answered : (f.status ≡ 0 → ⊥) → answer (old_bytes f ++ more) ≡ answered (device status-CrcMismatch) (size f)
  unfolding answer answer_from
  old-answered z = go (length (old_bytes f ++ more)) refl
    where
      go : (n : ℕ) → length (old_bytes f ++ more) ≡ n
          → answer_from n 0 (old_bytes f ++ more) ≡ answered (device status-CrcMismatch) (size f)
      go zero e = absurd (omega (arith, old-long))
      go (suc n) e = rw (old-read f h more, ne_eqb f.status 0 z) (ap (answered (device status-CrcMismatch)) (omega arith))
