-- The lengths of a frame's parts.
use Prim.Native.Nat.{ℕ, ◌+◌}
use mathlib.Core.Path.{◌≡◌, refl, ◌∙◌, ap}
use native.Mathlib.Omega.{arith}
use lib.ListN.{length, length-append}
use Rattle.paper.specs.Frame.{le, Frame, size, frame_head, frame_body, frame_check, frame_bytes}
use Rattle.paper.proofs.Words.{le-length}

pub head-length : (f : Frame) → length (frame_head f) ≡ 10
unfolding frame_head le
head-length f = refl

pub body-length : (f : Frame) → length (frame_body f) ≡ 10 + length f.payload
unfolding frame_body
body-length f = length-append (frame_head f) f.payload ∙ ap (λ (n : ℕ). n + length f.payload) (head-length f)

pub frame-length : (f : Frame) → length (frame_bytes f) ≡ size f
unfolding frame_bytes
frame-length f = omega (
  arith,
  length-append (frame_body f) (le 2 (frame_check (frame_body f))),
  body-length f,
  le-length 2 (frame_check (frame_body f)),
)
