-- Lemmas for each path through the frame's writers: the head, the padded payload, the check, and a frame with its
-- refusals.
use Prim.Native.Nat.{ℕ, ◌+◌, ◌-◌, ◌<◌, ◌≤◌}
use mathlib.Core.List.{List, ◌++◌}
use mathlib.Core.Path.{◌≡◌, sym, ◌∙◌, ap, ap₂}
use native.Mathlib.Omega.{arith}
use lib.ListN.{length, take, drop, replicate, length-append, length-drop, length-replicate}
use lib.Seq.{take-append_seam, drop-append_seam, drop-drop}
use borrow.Author.Tests.{lt-ltb, le-ltb}
use borrow.Rule.Slice.PartMut.{put_mid}
use Rattle.paper.specs.Frame.{le, crc_from, check, Frame, most, frame_bytes}
use Rattle.lore.proofs.Parts.{part-between, mid-is, part-filled}
use Rattle.frame.proofs.Assembled.{too_short, assembled}
use Rattle.std.specs.Prelude.{Result, Ok, Err, IsErr, IsErrAnd}
use Rattle.wire.specs.declared.Short.{Short}
use Rattle.wire.specs.declared.Unwritten.{Unwritten}
use Rattle.frame.specs.declared.Head.{Head}
use Rattle.frame.specs.Writing.{frame_of, tag_of, head_of, placed, sealed, answer_of, outcome, written}

module _ (h : Head) (n : ℕ) (b d₁ d₂ d₃ : List ℕ) where
  pub headed : d₁ ≡ tag_of h ++ drop 4 b → d₂ ≡ take 4 d₁ ++ le 4 h.address ++ drop 8 d₁
      → d₃ ≡ take 8 d₂ ++ le 2 n ++ drop 10 d₂
      → d₃ ≡ head_of h n ++ drop 10 b
  unfolding head_of le
  headed e₁ e₂ e₃ = rw (e₃, e₂, e₁) (ap (λ (r : List ℕ). head_of h n ++ r) (drop-drop 2 4 (drop 4 b) ∙ drop-drop 6 4 b))

-- Bytes at the front, then pad bytes FF written to the part after them.
module _ (p dst d₁ d₂ : List ℕ) (pad : ℕ) (room : length p + pad ≤ length dst)
    (e₁ : d₁ ≡ p ++ drop (length p) dst) where
  abbrev rest : List ℕ
  rest = drop (length p) dst

  pub padded : d₂ ≡ replicate (length (take (length p + pad - length p) (drop (length p) d₁))) 0xFF
      → put_mid (length p) (length p + pad - length p) d₁ d₂ ≡ p ++ replicate pad 0xFF ++ drop (length p + pad) dst
  padded e₂ =
      mid-is (length p) (length p + pad - length p) d₁ d₂
      ∙ ap₂ (λ (x y : List ℕ). x ++ y) (ap₂ (λ (x y : List ℕ). x ++ y) front filled) back
    where
      size : length p + pad - length p ≡ pad
      size = omega arith

      front : take (length p) d₁ ≡ p
      front = ap (take (length p)) e₁ ∙ take-append_seam p rest

      filled : d₂ ≡ replicate pad 0xFF
      filled =
          part-filled (length p) (length p + pad - length p) 0xFF d₁ d₂
          (omega (arith, size, ap length e₁, length-append p rest, length-drop (length p) dst)) e₂
          ∙ ap (λ (n : ℕ). replicate n 0xFF) size

      back : drop (length p + (length p + pad - length p)) d₁ ≡ drop (length p + pad) dst
      back =
          ap₂ (λ (n : ℕ) (x : List ℕ). drop (length p + n) x) size e₁
          ∙ sym (drop-drop pad (length p) (p ++ rest)) ∙ ap (drop pad) (drop-append_seam p rest)
          ∙ drop-drop pad (length p) dst

pub seals : (b d : List ℕ) (n c : ℕ) → c ≡ crc_from 0xFFFF (take (n - 1) (drop 1 b))
    → d ≡ take n b ++ le 2 c ++ drop (n + 2) b
    → d ≡ sealed n b
unfolding sealed check
seals b d n c ec ed = rw (← part-between 1 n b, ← ec) ed

-- A frame whose payload is bytes and padding.
module _ (h : Head) (p : List ℕ) (pad : ℕ) (buf : List ℕ) where
  abbrev load : List ℕ
  load = p ++ replicate pad 0xFF

  abbrev f : Frame
  f = frame_of h load

  load-length : length load ≡ length p + pad
  load-length = length-append p (replicate pad 0xFF) ∙ ap (λ (k : ℕ). length p + k) (length-replicate pad 0xFF)

  pub no_room : length buf < length p + pad + 12
      → record { answer = Err (record { needed = length p + pad + 12 }); bytes = buf } ≡ placed (frame_bytes f) buf
  no_room k = too_short h load buf (length p + pad) load-length k

  pub wrote : (d₁ d₂ d₃ : List ℕ) → length p + pad + 12 ≤ length buf → d₁ ≡ head_of h (length p + pad) ++ drop 10 buf
      → d₂ ≡ load ++ drop (length p + pad) (take (length d₁ - 10) (drop 10 d₁))
      → d₃ ≡ sealed (length p + pad + 10) (put_mid 10 (length d₁ - 10) d₁ d₂)
      → record { answer = Ok (length p + pad + 12); bytes = d₃ } ≡ placed (frame_bytes f) buf
  wrote d₁ d₂ d₃ room e₁ e₂ e₃ = assembled h load buf (length p + pad) load-length d₁ d₂ d₃ e₁ e₂ room e₃

  too-long : most < length p + pad → record { answer = Err Unwritten.TooLong; bytes = buf } ≡ written f buf
  unfolding written
  too-long k = rw (load-length, lt-ltb most (length p + pad) k)

  pub long-bytes : 1024 < length p → record { answer = Err Unwritten.TooLong; bytes = buf } ≡ written f buf
  long-bytes k = too-long (omega arith)

  pub long-padding : length p ≤ 1024 → 1024 - length p < pad
      → record { answer = Err Unwritten.TooLong; bytes = buf } ≡ written f buf
  long-padding k m = too-long (omega arith)

  not-long : (q : Result ℕ Short) (d : List ℕ) → length p ≤ 1024 → pad ≤ 1024 - length p
      → record { answer = q; bytes = d } ≡ placed (frame_bytes f) buf
      → record { answer = answer_of q; bytes = d } ≡ written f buf
  unfolding written
  not-long q d k m e = rw (load-length, le-ltb most (length p + pad) (omega arith)) (ap outcome e)

  pub was-written : (n : ℕ) (d : List ℕ) → length p ≤ 1024 → pad ≤ 1024 - length p
      → record { answer = Ok n; bytes = d } ≡ placed (frame_bytes f) buf
      → record { answer = Ok n; bytes = d } ≡ written f buf
  unfolding answer_of
  was-written n d k m e = not-long (Ok n) d k m e

  pub was-short : (short : Short) (r : Result ℕ Unwritten) (d : List ℕ) → length p ≤ 1024 → pad ≤ 1024 - length p
      → record { answer = Err short; bytes = d } ≡ placed (frame_bytes f) buf
      → IsErr r × IsErrAnd r (λ why. why ≡ Unwritten.Short short.needed)
      → record { answer = r; bytes = d } ≡ written f buf
  unfolding answer_of
  was-short short (Ok n) d k m e w = absurd w.1
  was-short short (Err why) d k m e w =
      ap (λ (x : Unwritten). record { answer = Err x; bytes = d }) w.1 ∙ not-long (Err short) d k m e
