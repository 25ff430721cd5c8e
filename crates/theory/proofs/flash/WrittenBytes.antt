-- The Writes of a flash carry the image padded with FF, each from its own offset on.
use Prim.Native.Nat.{ℕ, ◌-◌, ◌≤◌}
use mathlib.Core.List.{List, [], ◌++◌}
use mathlib.Core.Path.{◌≡◌, sym, ◌∙◌, ap}
use native.Mathlib.Omega.{arith}
use lib.ListN.{length, take, drop, replicate, length-append, length-take, length-drop, length-replicate}
use Rattle.lore.proofs.Lists.{drop-replicate, take-replicate, take-append, drop-append}
use Rattle.paper.specs.Frame.{Info, most, command-Write}
use Rattle.paper.specs.Answers.{padding, padded}
use Rattle.paper.specs.Count.{All}
use Rattle.paper.specs.Talk.{piece, Demand, Ask, select, demand, leave}
use Rattle.paper.specs.Flash.{write_size, write_request, flash}
use Rattle.paper.specs.Client.{payload_of}
use Rattle.theory.specs.FlashOrder.{Past, Event, play, everything, carried, written, InOrder, to_inform, to_erase}
use Rattle.theory.specs.FlashOrder.{to_write, to_verify, Ordered, Allowed, Flashed}
use Rattle.theory.proofs.flash.FlashOrder.{flash-in-order}
use Rattle.theory.proofs.talk.TalkRules.{each-asked}
use Rattle.paper.proofs.Chunks.{chunk-most, write-size}

-- A piece of the image, of any size that the padding allows.
piece-padded : (image : List ℕ) (o k : ℕ) → k ≤ padded (length image) - o
    → payload_of (piece o k) image ≡ take k (drop o (image ++ replicate (padding (length image)) 0xFF))
unfolding payload_of
piece-padded image o k h =
    sym
    (ap (take k) (drop-append o image pad
    ∙ ap (λ (l : List ℕ). drop o image ++ l) (drop-replicate (padding (length image)) 0xFF (o - length image)))
    ∙ take-append k (drop o image) (replicate (padding (length image) - (o - length image)) 0xFF)
    ∙ ap (λ (l : List ℕ). take k (drop o image) ++ l)
    (take-replicate (padding (length image) - (o - length image)) 0xFF (k - length (drop o image))
    (omega (arith, length-drop o image))
    ∙ ap (λ (m : ℕ). replicate (k - m) 0xFF) (length-drop o image)))
  where
    pad : List ℕ
    pad = replicate (padding (length image)) 0xFF

pub piece-length : (image : List ℕ) (o k : ℕ) → length (payload_of (piece o k) image) ≡ k
unfolding payload_of
piece-length image o k =
    omega (
      arith,
      length-append (take k (drop o image)) (replicate (k - (length image - o)) 0xFF),
      length-take k (drop o image),
      length-drop o image,
      length-replicate {A = ℕ} (k - (length image - o)) 0xFF,
    )

-- The payload of a Write: the next bytes of the padded image, at most as many as fit a frame.
pub record Carries (image : List ℕ) (offset size : ℕ) (bytes : List ℕ) : Type 0 where
  pub same : bytes ≡ take size (drop offset (image ++ replicate (padding (length image)) 0xFF))
  pub all : length bytes ≡ size
  pub fits : size ≤ most

pub write-carries : (info : Info) (image : List ℕ) (offset : ℕ)
    → Carries image offset (write_size info (length image) offset)
    (payload_of (write_request info (length image) offset).payload image)
write-carries info image offset =
    record {
      same = piece-padded image offset _ (omega (arith, write-size info (length image) offset));
      all = piece-length image offset _;
      fits = omega (arith, write-size info (length image) offset, chunk-most info.max_payload);
    }

-- Every Write of a flash, answered or out, carries the padded image from its address on.
abbrev pub CarriesIn : List ℕ → Ask → Type 0
CarriesIn image (select p) = Unit {0}
CarriesIn image (demand d) = d.command ≡ command-Write
    → Carries image d.address (carried d.payload) (payload_of d.payload image)
CarriesIn image (leave d) = Unit {0}

carries-demand : (image : List ℕ) (past : Past) (d : Demand) → InOrder (length image) past d
    → CarriesIn image (demand d)
unfolding carried
carries-demand image past d (to_inform _ e) w = absurd (let z : ◌≡◌ {A = ℕ} 0 2 = cc in omega arith)
carries-demand image past d (to_erase _ e) w =
    absurd (let z : ◌≡◌ {A = ℕ} 1 2 = ap (λ (d : Demand). d.command) (sym e) ∙ w in omega arith)
carries-demand image past d (to_write may _ e) w = rw e (write-carries may.info image (written past))
carries-demand image past d (to_verify _ _ e) w = absurd (let z : ◌≡◌ {A = ℕ} 3 2 = cc in omega arith)

carries-in : (image : List ℕ) (past : Past) (q : Ask) → Ordered (length image) past q → CarriesIn image q
carries-in image past (select p) h = tt
carries-in image past (demand d) h = carries-demand image past d h
carries-in image past (leave d) h = tt

pub flash-carries : (image : List ℕ) (es : List Event)
    → All (CarriesIn image) (everything (play (flash (length image)) es []))
flash-carries image es =
    each-asked (Allowed (length image)) (Flashed (length image)) (CarriesIn image)
    (λ past q h. carries-in image past q h.ordered)
    (play (flash (length image)) es []) (flash-in-order (length image) es)
