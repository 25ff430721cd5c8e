-- The loop of `hearing::answer`, compared with the paper's answer.
use Prim.Native.Nat.{ℕ, zero, suc, ◌+◌, ◌-◌, ◌≤◌}
use mathlib.Core.Bool.{Bool, true, false, cond}
use mathlib.Core.List.{List}
use mathlib.Core.Path.{◌≡◌, refl, sym, ◌∙◌, ap}
use native.Mathlib.Omega.{arith}
use lib.ListN.{length, drop}
use lib.Dec.{eqb}
use borrow.Author.Tests.{eq-eqb, ne_eqb}
use Rattle.std.specs.Prelude.{Result, Ok, Err}
use Rattle.paper.specs.Frame as PaperFrame
use Rattle.paper.specs.Frame.{read, short, too_long, bad_check, whole, status-CrcMismatch}
use Rattle.paper.specs.Answers as PaperAnswers
use Rattle.paper.specs.Answers.{answer_from, answer, lost, answered, device, ok, reply_of}
use Rattle.reader.specs.declared.Frame.{Frame}
use Rattle.reader.specs.declared.Unread.{Unread}
use Rattle.reader.specs.declared.Unread.TheVariants.{Short, TooLong}
use Rattle.reader.specs.Shown.{frame_at, shown_from}
use Rattle.hearing.specs.declared.Reply.{Reply}
use Rattle.hearing.specs.declared.NoReply.{NoReply}
use Rattle.hearing.specs.declared.NoReply.TheVariants.{Lost, Device}
use Rattle.hearing.specs.Heard.{replied_by, shown_answer}
use Rattle.hearing.proofs.Shows.{Shows, read_as, shows, end_is, end_after, inside}

-- The loop at a place: the answer from there on, within the frames left, is that of the whole record.
pub record Reach (bytes : List ℕ) (at : ℕ) : Type 0 where
  pub left : ℕ
  pub enough : length bytes ≤ at + left
  pub same : answer_from left at bytes ≡ answer bytes

pub begun : (bytes : List ℕ) → Reach bytes 0
unfolding answer
begun bytes = record { left = length bytes; enough = omega arith; same = refl }

-- The reply of a frame that is no echo: its own, or CrcMismatch if its check is wrong.
abbrev reply : Bool → PaperFrame.Frame → PaperAnswers.Reply
reply true f = reply_of f
reply false f = device status-CrcMismatch

module _ (right : Bool) (bytes : List ℕ) (at : ℕ) (x : Result Frame Unread) (e : x ≡ shown_from at (read (drop at bytes)))
    (f : Frame) (c : x ≡ read_as right f) where
  found : Shows bytes at f right
  found = shows right bytes at x e f c

  next : (n : ℕ) → answer_from (suc n) at bytes
      ≡ cond (eqb f.status 0) (answer_from n f.end bytes) (answered (reply right found.frame) f.end)
  unfolding answer_from
  next n = go right found
    where
      go : (right : Bool) (s : Shows bytes at f right)
          → answer_from (suc n) at bytes ≡ cond (eqb f.status 0) (answer_from n f.end bytes)
          (answered (reply right s.frame) f.end)
      go true s = rw (s.came, end_is bytes at f true s) (rw s.shown)
      go false s = rw (s.came, end_is bytes at f false s) (rw s.shown)

  module _ (r : Reach bytes at) where
    pub further : f.status ≡ 0 → Reach bytes f.end
    further z = go r.left r.enough r.same
      where
        go : (n : ℕ) → length bytes ≤ at + n → answer_from n at bytes ≡ answer bytes → Reach bytes f.end
        go zero h q = absurd (omega (arith, inside right bytes at x e f c, end_after bytes at f right found))
        go (suc n) h q =
            record {
              left = n;
              enough = omega (arith, end_after bytes at f right found);
              same = sym (next n ∙ simp (eq-eqb _ _ z)) ∙ q;
            }

    halted : (f.status ≡ 0 → ⊥) → answered (reply right found.frame) f.end ≡ answer bytes
    halted z = go r.left r.enough r.same
      where
        go : (n : ℕ) → length bytes ≤ at + n → answer_from n at bytes ≡ answer bytes
            → answered (reply right found.frame) f.end ≡ answer bytes
        go zero h q = absurd (omega (arith, inside right bytes at x e f c, end_after bytes at f right found))
        go (suc n) h q = sym (next n ∙ simp (ne_eqb _ _ z)) ∙ q

abbrev reply_at : ℕ → ℕ → ℕ → Reply
reply_at from len end = record { payload = from; len = len; end = end }

-- The code's answer of a frame is the paper's. The payload is between the head and the check.
replied-shown : (at : ℕ) (f : PaperFrame.Frame)
    → replied_by (frame_at at f) ≡ shown_answer (answered (reply_of f) (at + PaperFrame.size f))
unfolding replied_by
replied-shown at f = go (eqb f.status 1)
  where
    place : (at n : ℕ) → at + 10 ≡ at + (12 + n) - (2 + n)
    place at n = omega arith

    go : (b : Bool) → cond b (Ok (reply_at (at + 10) (length f.payload) (at + PaperFrame.size f)))
        (Err (Device f.status (at + PaperFrame.size f)))
        ≡ shown_answer (answered (cond b (ok f.payload) (device f.status)) (at + PaperFrame.size f))
    go true = ap (λ (i : ℕ). Ok (reply_at i (length f.payload) (at + PaperFrame.size f))) (place at (length f.payload))
    go false = refl

module _ (bytes : List ℕ) (at : ℕ) (x : Result Frame Unread) (e : x ≡ shown_from at (read (drop at bytes)))
    (r : Reach bytes at) where
  pub answers-whole : (f : Frame) → x ≡ read_as true f → (f.status ≡ 0 → ⊥) → (a : Result Reply NoReply) → a ≡ replied_by f
      → a ≡ shown_answer (answer bytes)
  answers-whole f c z a ea =
      let s = found true bytes at x e f c in
      ea
      ∙ ap replied_by s.shown
      ∙ replied-shown (at + s.skip) s.frame
      ∙ ap (λ (end : ℕ). shown_answer (answered (reply_of s.frame) end)) (sym (ap (λ (g : Frame). g.end) s.shown))
      ∙ ap shown_answer (halted true bytes at x e f c r z)

  pub answers-bad : (f : Frame) → x ≡ read_as false f → (f.status ≡ 0 → ⊥)
      → Err (Device 3 f.end) ≡ shown_answer (answer bytes)
  answers-bad f c z = ap shown_answer (halted false bytes at x e f c r z)

-- The readings without a frame: too long, or short.
abbrev pub lost_as : Bool → Result Frame Unread
lost_as true = Err TooLong
lost_as false = Err Short

pub ended : (long : Bool) (bytes : List ℕ) (at : ℕ) (x : Result Frame Unread) → x ≡ shown_from at (read (drop at bytes))
    → Reach bytes at → x ≡ lost_as long → Err Lost ≡ shown_answer (answer bytes)
unfolding answer_from
ended long bytes at x e r c = ap shown_answer (go long (read (drop at bytes)) refl (sym e ∙ c) r.left r.same)
  where
    go : (long : Bool) (y : PaperFrame.Reading) → read (drop at bytes) ≡ y → shown_from at y ≡ lost_as long → (n : ℕ)
        → answer_from n at bytes ≡ answer bytes → lost ≡ answer bytes
    go long y q h zero k = k
    go long short q h (suc n) k = rw q at k
    go long too_long q h (suc n) k = rw q at k
    go true (bad_check i f) q h (suc n) k = absurd (let z : ◌≡◌ {A = ℕ} 0 1 = cc in omega arith)
    go true (whole i f) q h (suc n) k = absurd (let z : ◌≡◌ {A = ℕ} 0 1 = cc in omega arith)
    go false (bad_check i f) q h (suc n) k = absurd (let z : ◌≡◌ {A = ℕ} 0 1 = cc in omega arith)
    go false (whole i f) q h (suc n) k = absurd (let z : ◌≡◌ {A = ℕ} 0 1 = cc in omega arith)
