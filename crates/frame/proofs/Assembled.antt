-- A frame made of its head, a payload written to the part of the buffer from byte 10 on, and its check.
use Prim.Native.Nat.{ℕ, ◌+◌, ◌-◌, ◌<◌, ◌≤◌}
use mathlib.Core.List.{List, ◌++◌, append_assoc}
use mathlib.Core.Path.{◌≡◌, sym, ◌∙◌, ap, ap₂}
use native.Mathlib.Nat.{add_comm}
use native.Mathlib.Omega.{arith}
use lib.ListN.{length, take, drop}
use lib.Seq.{take_at, drop_at, drop-drop}
use borrow.Author.Tests.{lt-ltb, le-ltb}
use borrow.Rule.Slice.PartMut.{put_mid}
use Rattle.paper.specs.Frame.{le, Frame, frame_head, frame_body, frame_check, frame_bytes}
use Rattle.lore.proofs.Parts.{part-all, mid-all}
use Rattle.paper.proofs.Frames.{head-length, body-length, frame-length}
use Rattle.std.specs.Prelude.{Ok, Err}
use Rattle.frame.specs.declared.Head.{Head}
use Rattle.frame.specs.Writing.{frame_of, tag_of, head_of, placed, sealed}

twelve : (n : ℕ) → n + 10 + 2 ≡ n + 12
twelve n = omega arith

module _ (h : Head) (load buf : List ℕ) (n : ℕ) (en : length load ≡ n) where
  abbrev f : Frame
  f = frame_of h load

  head-is : head_of h n ≡ frame_head f
  unfolding head_of frame_head
  head-is = ap (λ (k : ℕ). tag_of h ++ le 4 h.address ++ le 2 k) (sym en)

  body_is : length (frame_body f) ≡ n + 10
  body_is = body-length f ∙ ap (λ (k : ℕ). 10 + k) en ∙ add_comm 10 n

  frame_is : length (frame_bytes f) ≡ n + 12
  frame_is = frame-length f ∙ ap (λ (k : ℕ). 12 + k) en ∙ add_comm 12 n

  pub too_short : length buf < n + 12 → record { answer = Err (record { needed = n + 12 }); bytes = buf } ≡ placed (frame_bytes f) buf
  unfolding placed
  too_short k = rw (frame_is, lt-ltb (length buf) (n + 12) k)

  module _ (d₁ d₂ d₃ : List ℕ) (e₁ : d₁ ≡ head_of h n ++ drop 10 buf)
      (e₂ : d₂ ≡ load ++ drop n (take (length d₁ - 10) (drop 10 d₁))) where
    abbrev filled : List ℕ
    filled = put_mid 10 (length d₁ - 10) d₁ d₂

    filled_is : filled ≡ frame_body f ++ drop (n + 10) buf
    unfolding frame_body
    filled_is =
        mid-all 10 d₁ d₂
        ∙ ap₂ (λ (x y : List ℕ). x ++ y) (ap (take 10) head ∙ take_at (frame_head f) (drop 10 buf) 10 (head-length f))
        (e₂ ∙ ap (λ (r : List ℕ). load ++ drop n r)
        (part-all 10 d₁ ∙ ap (drop 10) head ∙ drop_at (frame_head f) (drop 10 buf) 10 (head-length f))
        ∙ ap (λ (r : List ℕ). load ++ r) (drop-drop n 10 buf ∙ ap (λ (k : ℕ). drop k buf) (add_comm 10 n)))
        ∙ sym (append_assoc (frame_head f) load (drop (n + 10) buf))
      where
        head : d₁ ≡ frame_head f ++ drop 10 buf
        head = e₁ ∙ ap (λ (x : List ℕ). x ++ drop 10 buf) head-is

    front : take (n + 10) filled ≡ frame_body f
    front = ap (take (n + 10)) filled_is ∙ take_at (frame_body f) (drop (n + 10) buf) (n + 10) body_is

    back : drop (n + 10 + 2) filled ≡ drop (n + 12) buf
    back =
        ap (drop (n + 10 + 2)) filled_is
        ∙ sym (drop-drop 2 (n + 10) (frame_body f ++ drop (n + 10) buf))
        ∙ ap (drop 2) (drop_at (frame_body f) (drop (n + 10) buf) (n + 10) body_is)
        ∙ drop-drop 2 (n + 10) buf
        ∙ ap (λ (k : ℕ). drop k buf) (twelve n)

    pub assembled : n + 12 ≤ length buf
        → d₃ ≡ sealed (n + 10) filled
        → record { answer = Ok (n + 12); bytes = d₃ } ≡ placed (frame_bytes f) buf
    unfolding placed sealed frame_bytes
    assembled room e₃ =
        rw (frame_is, le-ltb (length buf) (n + 12) room)
        (ap (λ (l : List ℕ). record { answer = Ok (n + 12); bytes = l })
        (e₃ ∙ ap₂ (λ (x y : List ℕ). x ++ le 2 (frame_check x) ++ y) front back))
