-- A lemma for each way through the writers of requests, with the facts known there as its premises.
use Prim.Native.Nat.{ℕ, ◌+◌, ◌-◌, ◌/◌, ◌%◌, ◌^◌, ◌<◌, ◌≤◌}
use mathlib.Core.Bool.{Bool, true, false, cond}
use mathlib.Core.List.{List, [], ◌∷◌, ◌++◌}
use mathlib.Core.Option.{none, some}
use mathlib.Core.Path.{◌≡◌, refl, sym, ◌∙◌, ap, ap₂}
use native.Mathlib.Decide.{dec_le}
use native.Mathlib.Omega.{arith}
use lib.Dec.{leb}
use lib.ListN.{length, drop, replicate, length-take, length-drop}
use borrow.Author.Tests.{le-leb, lt-leb}
use Rattle.paper.specs.Frame.{le, Info, frame_head, frame_body, frame_bytes}
use Rattle.paper.specs.Hearing.{on_some}
use Rattle.paper.specs.Answers.{chunk, padded}
use Rattle.paper.specs.Talk.{piece}
use Rattle.paper.specs.Flash.{plain, info_request, erase_request, write_size, write_flags, write_request, verify_request}
use Rattle.paper.specs.Flash.{reset_flags}
use Rattle.paper.specs.Client.{payload_of, demand_frame}
use Rattle.paper.proofs.Chunks.{chunk-most, write-size}
use Rattle.paper.proofs.Words.{le-cut}
use Rattle.std.specs.Prelude.{Result}
use Rattle.wire.specs.declared.Short.{Short}
use Rattle.frame.specs.declared.Head.{Head}
use Rattle.frame.specs.Writing.{frame_of, Placing, placed}
use Rattle.image.specs.declared.Info as Code
use Rattle.image.specs.Images.{paper_info}
use Rattle.image.specs.Pieces.{is_last, image_bytes, part}
use Rattle.client.specs.declared.Purpose.{Purpose}
use Rattle.client.specs.declared.Reset.{Reset}
use Rattle.client.specs.declared.Job.{Job}
use Rattle.client.specs.declared.Job.TheVariants.{Informing, Erasing, Writing, Verifying, Resetting}
use Rattle.client_demand.specs.Demands.{head_for, flags_of, reset_of, demand_of}

-- A frame has only the low four bytes of an address.
placed-cut : (h : Head) (address : ℕ) (load buf : List ℕ) → h.address ≡ address % 2 ^ 32
    → placed (frame_bytes (frame_of h load)) buf
    ≡ placed (frame_bytes (record {
      command = h.command;
      status = h.status;
      flags = h.flags;
      address = address;
      payload = load;
    })) buf
unfolding frame_bytes frame_body frame_head
placed-cut h address load buf e = rw (e, le-cut 4 address)

-- How many bytes of padding a Write has, and whether it is the last.
module _ (n o k : ℕ) where
  pub held-within : (held : ℕ) → held ≡ image_bytes n o k → held ≤ k
  unfolding image_bytes
  held-within held e = rw e (go (dec_le k (n - o)))
    where
      go : Dec (k ≤ n - o) → cond (leb k (n - o)) k (n - o) ≤ k
      go (yes l) = rw (le-leb k (n - o) l) (omega arith)
      go (no l) = rw (lt-leb k (n - o) (omega arith)) (omega arith)

  pad-is : (held : ℕ) → held ≡ image_bytes n o k → k - held ≡ k - (n - o)
  unfolding image_bytes
  pad-is held e = rw e (go (dec_le k (n - o)))
    where
      go : Dec (k ≤ n - o) → k - cond (leb k (n - o)) k (n - o) ≡ k - (n - o)
      go (yes l) = rw (le-leb k (n - o) l) (omega arith)
      go (no l) = rw (lt-leb k (n - o) (omega arith))

  ends : leb (n - o) k ≡ leb n (o + k)
  ends = go (dec_le n (o + k))
    where
      go : Dec (n ≤ o + k) → leb (n - o) k ≡ leb n (o + k)
      go (yes l) = le-leb (n - o) k (omega arith) ∙ sym (le-leb n (o + k) l)
      go (no l) = lt-leb (n - o) k (omega arith) ∙ sym (lt-leb n (o + k) (omega arith))

-- A Write's bytes and padding fit in a frame.
pub write-fits : (info : Info) (o : ℕ) (image : List ℕ) (k held : ℕ) (bytes : List ℕ)
    → k ≡ write_size info (length image) o → held ≡ image_bytes (length image) o k → bytes ≡ part o k image
    → length bytes + (k - held) ≤ 1024
write-fits info o image k held bytes ek eheld eb =
    rw eb
    (omega (
      arith,
      length-take k (drop o image),
      length-drop o image,
      pad-is (length image) o k held eheld,
      ek,
      write-size info (length image) o,
      chunk-most info.max_payload,
    ))

module _ (r : Result ℕ Short) (h : Head) (buf after : List ℕ) where
  pub sent : (command flags address : ℕ) → h ≡ head_for command flags address
      → record { answer = r; bytes = after } ≡ placed (frame_bytes (frame_of h [])) buf
      → record { answer = r; bytes = after } ≡ placed (frame_bytes (demand_frame (plain command flags address []) [])) buf
  unfolding payload_of
  sent command flags address eh e = rw eh at e

  pub sent-verify : (n : ℕ) → h ≡ head_for 3 0 (n % 2 ^ 32)
      → record { answer = r; bytes = after } ≡ placed (frame_bytes (frame_of h [])) buf
      → record { answer = r; bytes = after } ≡ placed (frame_bytes (demand_frame (verify_request n) [])) buf
  unfolding payload_of
  sent-verify n eh e = (rw eh at e) ∙ placed-cut (head_for 3 0 (n % 2 ^ 32)) n [] buf refl

  pub sent-erase : (info : Code.Info) (address : ℕ) (size : List ℕ) → size ≡ le 2 info.erase_size
      → h ≡ head_for 1 0 address
      → record { answer = r; bytes = after } ≡ placed (frame_bytes (frame_of h size)) buf
      → record { answer = r; bytes = after }
      ≡ placed (frame_bytes (demand_frame (erase_request (paper_info info) address) [])) buf
  unfolding payload_of
  sent-erase info address size es eh q = rw (eh, es) at q

  module _ (info : Info) (o : ℕ) (image : List ℕ) where
    abbrev n : ℕ
    n = length image

    load_is : (k held : ℕ) → held ≡ image_bytes n o k
        → part o k image ++ replicate (k - held) 0xFF ≡ payload_of (piece o k) image
    unfolding payload_of
    load_is k held e = ap (λ (p : ℕ). part o k image ++ replicate p 0xFF) (pad-is n o k held e)

    flags-are : (last : Bool) (flags : ℕ) → last ≡ is_last info n o → flags ≡ cond last 1 0 → flags ≡ write_flags info n o
    unfolding is_last
    flags-are last flags el ef = ef ∙ ap (λ (b : Bool). cond b 1 0) (el ∙ ends (padded n) o (chunk info.max_payload))

    pub sent-write : (k held flags : ℕ) (last : Bool) (bytes : List ℕ) → k ≡ write_size info n o
        → held ≡ image_bytes n o k → last ≡ is_last info n o → flags ≡ cond last 1 0
        → bytes ≡ part o k image → h ≡ head_for 2 flags (o % 2 ^ 32)
        → record { answer = r; bytes = after }
        ≡ placed (frame_bytes (frame_of h (bytes ++ replicate (k - held) 0xFF))) buf
        → record { answer = r; bytes = after } ≡ placed (frame_bytes (demand_frame (write_request info n o) image)) buf
    sent-write k held flags last bytes ek eheld el ef eb eh e =
        e
        ∙ ap₂ (λ (x : Head) (load : List ℕ). placed (frame_bytes (frame_of x load)) buf) eh
        (ap (λ (b : List ℕ). b ++ replicate (k - held) 0xFF) eb ∙ load_is k held eheld
        ∙ ap (λ (size : ℕ). payload_of (piece o size) image) ek)
        ∙ placed-cut (head_for 2 flags (o % 2 ^ 32)) o (payload_of (piece o (write_size info n o)) image) buf refl
        ∙ ap (λ (f : ℕ). placed (frame_bytes (frame_of (head_for 2 f o) (payload_of (piece o (write_size info n o)) image)))
        buf) (flags-are last flags el ef)

module _ (reset : Reset) (into baud : ℕ) (ei : into ≡ cond reset.bootloader 1 0)
    (eb : baud ≡ cond reset.given 2 0) where
  pub flags-fit : into + baud < 256
  flags-fit = rw (ei, eb) (go reset.bootloader reset.given)
    where
      go : (a b : Bool) → cond a 1 0 + cond b 2 0 < 256
      go true true = omega arith
      go true false = omega arith
      go false true = omega arith
      go false false = omega arith

  pub flags-sum : into + baud ≡ flags_of reset
  unfolding flags_of reset_flags
  flags-sum = rw (ei, eb) (go reset.given)
    where
      go : (b : Bool) → cond reset.bootloader 1 0 + cond b 2 0
          ≡ cond reset.bootloader 1 0 + on_some (cond b (some reset.baud) none) 0 (λ given. 2)
      go true = refl
      go false = refl

pub sent-reset : (r : Result ℕ Short) (h : Head) (buf after : List ℕ) (reset : Reset) (flags address : ℕ)
    → flags ≡ flags_of reset → address ≡ cond reset.given reset.baud 0
    → h ≡ head_for 4 flags address → record { answer = r; bytes = after } ≡ placed (frame_bytes (frame_of h [])) buf
    → record { answer = r; bytes = after } ≡ placed (frame_bytes (demand_frame (reset_of reset) [])) buf
unfolding flags_of
sent-reset r h buf after reset flags address ef ea eh e =
    sent r h buf after 4 _ _ (eh ∙ ap₂ (head_for 4) ef (ea ∙ go reset.given)) e
  where
    go : (b : Bool) → cond b reset.baud 0 ≡ on_some (cond b (some reset.baud) none) 0 (λ given. given)
    go true = refl
    go false = refl

-- The writer of each job.
module _ (j : Job) (image buf : List ℕ) (o : Placing) where
  pub demand-info : (why : Purpose) → j ≡ Informing why → o ≡ placed (frame_bytes (demand_frame info_request [])) buf
      → o ≡ placed (frame_bytes (demand_frame (demand_of j (length image)) image)) buf
  unfolding demand_of payload_of
  demand-info why ej e = rw ej e

  pub demand-erase : (why : Purpose) (info : Code.Info) (address : ℕ) → j ≡ Erasing why info address
      → o ≡ placed (frame_bytes (demand_frame (erase_request (paper_info info) address) [])) buf
      → o ≡ placed (frame_bytes (demand_frame (demand_of j (length image)) image)) buf
  unfolding demand_of payload_of
  demand-erase why info address ej e = rw ej e

  pub demand-write : (m : ℕ) (info : Code.Info) (offset retries : ℕ) → j ≡ Writing m info offset retries
      → o ≡ placed (frame_bytes (demand_frame (write_request (paper_info info) (length image) offset) image)) buf
      → o ≡ placed (frame_bytes (demand_frame (demand_of j (length image)) image)) buf
  unfolding demand_of
  demand-write m info offset retries ej e = rw ej e

  pub demand-verify : (m : ℕ) (info : Code.Info) → j ≡ Verifying m info
      → o ≡ placed (frame_bytes (demand_frame (verify_request (length image)) [])) buf
      → o ≡ placed (frame_bytes (demand_frame (demand_of j (length image)) image)) buf
  unfolding demand_of payload_of
  demand-verify m info ej e = rw ej e

  pub demand-reset : (reset : Reset) → j ≡ Resetting reset
      → o ≡ placed (frame_bytes (demand_frame (reset_of reset) [])) buf
      → o ≡ placed (frame_bytes (demand_frame (demand_of j (length image)) image)) buf
  unfolding demand_of payload_of
  demand-reset reset ej e = rw ej e
