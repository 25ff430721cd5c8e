-- A frame with the old check is read as one of bad check, whatever follows it.
use Prim.Native.Nat.{ℕ}
use mathlib.Core.Bool.{false}
use mathlib.Core.List.{List, [], ◌∷◌, ◌++◌}
use mathlib.Core.Path.{◌≡◌, refl, sym}
use native.Mathlib.Omega.{arith}
use lib.Dec.{lit<}
use borrow.Author.Tests.{ne_eqb}
use Rattle.paper.proofs.Words.{Bytes}
use Rattle.paper.specs.Frame.{byte, crc_byte, crc_bit, crc_from, check, Frame, frame_head, frame_body, frame_check}
use Rattle.paper.specs.Frame.{read, bad_check}
use Rattle.theory.specs.OldCheck.{old_bytes}
use Rattle.theory.proofs.frames.CheckParts.{check-fits, crc-one-to-one}
use Rattle.theory.proofs.frames.FramesReadBack.{Fits, body_bytes, read-checked}

-- The check's state goes one-to-one through each byte, and A5 takes FFFF to 04BF.
pub checks-differ : (body : List ℕ) → Bytes body → byte 0 body ≡ 0xA5 → check body ≡ frame_check body → ⊥
unfolding check crc_from crc_byte crc_bit
checks-differ [] h e q = omega arith
checks-differ (b ∷ bs) h e q =
    let same : ◌≡◌ {A = ℕ} 0x04BF 0xFFFF = crc-one-to-one 0x04BF 0xFFFF bs (lit< tt) (lit< tt) h.1 (rw e at q) in
    omega arith

module _ (f : Frame) (h : Fits f) where
  apart : frame_check (frame_body f) ≡ check (frame_body f) → ⊥
  unfolding frame_body frame_head
  apart e = checks-differ (frame_body f) (body_bytes f h) refl (sym e)

  pub old-read : (more : List ℕ) → read (old_bytes f ++ more) ≡ bad_check 0 f
  old-read more =
      read-checked f h (check (frame_body f)) (check-fits (frame_body f) (body_bytes f h)) more false
      (ne_eqb (frame_check (frame_body f)) (check (frame_body f)) apart)
