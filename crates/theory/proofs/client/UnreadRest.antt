-- Bytes after an answer do not change it, so a host may hand them in with it or with its next record.
use Prim.Native.Nat.{ℕ, zero, suc, ◌+◌, ◌<◌, ◌≤◌}
use mathlib.Core.Bool.{Bool, true, false, cond}
use mathlib.Core.List.{List, [], ◌∷◌, ◌++◌, append_assoc}
use mathlib.Core.Option.{Option, none, some}
use mathlib.Core.Path.{◌≡◌, refl, sym, ◌∙◌, ap}
use native.Mathlib.Omega.{arith}
use lib.Dec.{eqb}
use lib.ListN.{length, take, drop, length-append, length-drop, get_or-append}
use lib.Seq.{take-append-le, drop-append-le}
use borrow.Author.Tests.{le-ltb}
use Rattle.paper.proofs.Answered.{answer-end}
use Rattle.paper.proofs.Readings.{Read, framed, read_known}
use Rattle.paper.specs.Frame.{number, Frame, size, fields, most, right_check, skipped, read_sized, read_synced, read}
use Rattle.paper.specs.Frame.{Reading, short, too_long, bad_check, whole, on_reading, status-Request, status-CrcMismatch}
use Rattle.paper.specs.Answers.{Reply, device, Answer, lost, answered, reply_of, unless_echo, answer_from, answer, rest}
use Rattle.paper.specs.Hearing.{on_some}
use Rattle.paper.specs.Talk.{Demand, demand, Answered, Talk, return, stop, report, ask, Outcome}
use Rattle.paper.specs.Client.{Left, waiting, Client, Told, Asked, proceed, refuses, on_left, other_length, cleared}
use Rattle.paper.specs.Client.{reading, place, fails, request, record'}
use Rattle.theory.specs.RestKept.{Round, host_run}

-- What the reader returns, from what is known of the frame.
known_read : (s : List ℕ) (k : ℕ) (f : Frame) (right : Bool) → Read s k f right → read s ≡ framed right k f
unfolding read read_synced read_sized
known_read s k f right h =
    rw (
      ← h.skip,
      le-ltb (length (drop k s)) 10 (omega (arith, room)),
      h.sized,
      le-ltb most n h.small,
      le-ltb (length (drop k s)) (12 + n) room,
      h.check,
    ) (go right)
  where
    n : ℕ
    n = length f.payload

    room : 12 + n ≤ length (drop k s)
    room = omega (arith, h.room, length-drop k s)

    go : (right : Bool) → cond right (whole k (fields n (drop k s))) (bad_check k (fields n (drop k s)))
        ≡ framed right k f
    go true = ap (whole k) (sym h.frame)
    go false = ap (bad_check k) (sym h.frame)

-- More bytes at the end of a record.
module _ (x : List ℕ) where
  part-appends : (at k : ℕ) (t : List ℕ) → at + k ≤ length t → take k (drop at (t ++ x)) ≡ take k (drop at t)
  part-appends at k t h = ap (take k) (drop-append-le at t x (omega arith))
      ∙ take-append-le k (drop at t) x (omega (arith, length-drop at t))

  skipped-appends : (s : List ℕ) → skipped s < length s → skipped (s ++ x) ≡ skipped s
  unfolding skipped
  skipped-appends [] h = absurd (omega arith)
  skipped-appends (b ∷ bs) h = go (skipped-appends bs) (eqb b 0xA5) h
    where
      go : (skipped bs < length bs → skipped (bs ++ x) ≡ skipped bs) → (t : Bool)
          → cond t 0 (1 + skipped bs) < suc (length bs)
          → cond t 0 (1 + skipped (bs ++ x)) ≡ cond t 0 (1 + skipped bs)
      go more true h = refl
      go more false h = ap (λ (n : ℕ). 1 + n) (more (omega arith))

  fields-appends : (n : ℕ) (t : List ℕ) → 12 + n ≤ length t → fields n (t ++ x) ≡ fields n t
  fields-appends n t h =
      rw (
        get_or-append t x 0 1 (omega arith),
        get_or-append t x 0 2 (omega arith),
        get_or-append t x 0 3 (omega arith),
        part-appends 4 4 t (omega arith),
        part-appends 10 n t (omega arith),
      )

  check-appends : (n : ℕ) (t : List ℕ) → 12 + n ≤ length t → right_check n (t ++ x) ≡ right_check n t
  unfolding right_check
  check-appends n t h = rw (take-append-le (10 + n) t x (omega arith), part-appends (10 + n) 2 t (omega arith))

  known-appends : (s : List ℕ) (k : ℕ) (f : Frame) (right : Bool) → Read s k f right → Read (s ++ x) k f right
  known-appends s k f right h =
      record {
        skip = h.skip ∙ sym (skipped-appends s (omega (arith, h.skip, h.room)));
        frame = rw seam (h.frame ∙ sym (fields-appends n t room));
        sized = rw seam (ap number (part-appends 8 2 t (omega (arith, room))) ∙ h.sized);
        small = h.small;
        room = omega (arith, h.room, length-append s x);
        check = rw seam (check-appends n t room ∙ h.check);
      }
    where
      t : List ℕ
      t = drop k s

      n : ℕ
      n = length f.payload

      seam : drop k (s ++ x) ≡ t ++ x
      seam = drop-append-le k s x (omega (arith, h.room))

      room : 12 + n ≤ length t
      room = omega (arith, h.room, length-drop k s)

  read-appends : (at : ℕ) (s : List ℕ) (k : ℕ) (f : Frame) (right : Bool) → read (drop at s) ≡ framed right k f
      → read (drop at (s ++ x)) ≡ framed right k f
  read-appends at s k f right e =
      let h : Read (drop at s) k f right = read_known (drop at s) k f right e in
      ap read (drop-append-le at s x (omega (arith, h.room, length-drop at s)))
      ∙ known_read (drop at s ++ x) k f right (known-appends (drop at s) k f right h)

  answer-from-appends : (m n at : ℕ) (s : List ℕ) (r : Reply) (end : ℕ) → m ≤ n → answer_from m at s ≡ answered r end
      → answer_from n at (s ++ x) ≡ answered r end
  unfolding answer_from
  answer-from-appends zero n at s r end l e = absurd (let z : ◌≡◌ {A = ℕ} 0 1 = cc in omega arith)
  answer-from-appends (suc m) zero at s r end l e = absurd (omega arith)
  answer-from-appends (suc m) (suc n) at s r end l e =
      go (λ later. answer-from-appends m n later s r end (omega arith)) (read (drop at s)) refl e
    where
      More : Type 0
      More = (later : ℕ) → answer_from m later s ≡ answered r end → answer_from n later (s ++ x) ≡ answered r end

      which : More → (k : ℕ) (f : Frame) (this : Answer) (b : Bool)
          → cond b (answer_from m (at + (k + size f)) s) this ≡ answered r end
          → cond b (answer_from n (at + (k + size f)) (s ++ x)) this ≡ answered r end
      which more k f this true e = more (at + (k + size f)) e
      which more k f this false e = e

      turn : (ℕ → Answer) → Reading → Answer
      turn next y =
          on_reading y lost lost (λ k f. unless_echo f (next (at + (k + size f)))
          (answered (device status-CrcMismatch) (at + (k + size f))))
          (λ k f. unless_echo f (next (at + (k + size f))) (answered (reply_of f) (at + (k + size f))))

      go : More → (y : Reading) → read (drop at s) ≡ y → turn (λ p. answer_from m p s) y ≡ answered r end
          → turn (λ p. answer_from n p (s ++ x)) (read (drop at (s ++ x))) ≡ answered r end
      go more short q e = absurd (let z : ◌≡◌ {A = ℕ} 0 1 = cc in omega arith)
      go more too_long q e = absurd (let z : ◌≡◌ {A = ℕ} 0 1 = cc in omega arith)
      go more (bad_check k f) q e = rw (read-appends at s k f false q)
          (which more k f (answered (device status-CrcMismatch) (at + (k + size f))) (eqb f.status status-Request) e)
      go more (whole k f) q e = rw (read-appends at s k f true q)
          (which more k f (answered (reply_of f) (at + (k + size f))) (eqb f.status status-Request) e)

  pub answer-appends : (s : List ℕ) (r : Reply) (end : ℕ) → answer s ≡ answered r end → answer (s ++ x) ≡ answered r end
  unfolding answer
  answer-appends s r end e = answer-from-appends (length s) (length (s ++ x)) 0 s r end
      (omega (arith, length-append s x)) e

  pub rest-appends : (s : List ℕ) (r : Reply) (end : ℕ) → answer s ≡ answered r end
      → rest (s ++ x) end ≡ rest s end ++ x
  rest-appends s r end e = drop-append-le end s x (answer-end s r end e)

-- The answer to a record handed in to a client, by what is left of its operation.
module _ (c : Client) (image : List ℕ) where
  tells : Left → List ℕ → Told
  tells left bytes =
      on_left left (refuses c 21 []) (λ q f. refuses c 21 [])
      (λ q f.
      cond (other_length c.image image) (refuses c 20 [])
      (on_some (reading q image bytes) (fails c (place q bytes))
      (λ a. proceed (record { seed = c.seed; id = cleared q c.id; image = c.image; left = c.left }) none (f a)
      (place q bytes))))

  tells-same : (bytes : List ℕ) → record' c image bytes ≡ tells c.left bytes
  unfolding record' tells
  tells-same bytes = refl

  module _ (d : Demand) (f : Answered → Talk Outcome) (out : c.left ≡ waiting (demand d) f) where
    -- It depends on the record only through the answer in it.
    record-answered : (bytes : List ℕ) (r : Reply) (end : ℕ) → answer bytes ≡ answered r end
        → record' c image bytes ≡ cond (other_length c.image image) (refuses c 20 [])
        (proceed c none (f (record { reply = r; image = image })) end)
    unfolding tells
    record-answered bytes r end e = tells-same bytes ∙ ap (λ (l : Left). tells l bytes) out ∙ rw e

    pub record-appends : (a x : List ℕ) (r : Reply) (end : ℕ) → answer a ≡ answered r end
        → record' c image (a ++ x) ≡ record' c image a
    record-appends a x r end e = record-answered (a ++ x) r end (answer-appends x a r end e)
        ∙ sym (record-answered a r end e)

    proceed-rest : (p : Option (ℕ × ℕ)) (m : Talk Outcome) (at : ℕ) → (proceed c p m at).rest ≡ at
    unfolding proceed
    proceed-rest p (return o) at = refl
    proceed-rest p (stop n carries) at = refl
    proceed-rest p (report a b m) at = proceed-rest (some (a, b)) m at
    proceed-rest p (ask q g) at = refl

    record-rest : (a : List ℕ) (r : Reply) (end : ℕ) → answer a ≡ answered r end → (record' c image a).rest ≤ length a
    record-rest a r end e = rw (record-answered a r end e) (go (other_length c.image image))
      where
        go : (b : Bool) → (cond b (refuses c 20 [])
            (proceed c none (f (record { reply = r; image = image })) end)).rest ≤ length a
        go true = omega arith
        go false = omega (arith, proceed-rest none (f (record { reply = r; image = image })) end, answer-end a r end e)

-- A host's kept rest and the bytes heard after it count only as one sequence.
host-joined : (c : Client) (kept x image buffer heard : List ℕ) (rs : List Round)
    → host_run c (kept ++ x) (record { image = image; buffer = buffer; heard = heard } ∷ rs)
    ≡ host_run c kept (record { image = image; buffer = buffer; heard = x ++ heard } ∷ rs)
unfolding host_run
host-joined c kept x image buffer heard rs = rw (append_assoc kept x heard)

module _ (c : Client) (kept image buffer heard x : List ℕ) (d : Demand) (f : Answered → Talk Outcome)
    (out : (request c image buffer).client.left ≡ waiting (demand d) f)
    (r : Reply) (end : ℕ) (e : answer (kept ++ heard) ≡ answered r end) where
  abbrev told : Told
  told = record' (request c image buffer).client image (kept ++ heard)

  host-later : (rs : List Round) → host_run c kept (record { image = image; buffer = buffer; heard = heard ++ x } ∷ rs)
      ≡ (request c image buffer, told) ∷ host_run told.client (drop told.rest (kept ++ heard) ++ x) rs
  unfolding host_run
  host-later rs =
      rw (
        ← append_assoc kept heard x,
        record-appends (request c image buffer).client image d f out (kept ++ heard) x r end e,
        drop-append-le told.rest (kept ++ heard) x
            (record-rest (request c image buffer).client image d f out (kept ++ heard) r end e),
      )

  -- Bytes after the answer may be handed in with it or with the next record.
  pub host-moves : (image₂ buffer₂ heard₂ : List ℕ) (rs : List Round)
      → host_run c kept (record { image = image; buffer = buffer; heard = heard ++ x }
      ∷ record { image = image₂; buffer = buffer₂; heard = heard₂ } ∷ rs)
      ≡ host_run c kept (record { image = image; buffer = buffer; heard = heard }
      ∷ record { image = image₂; buffer = buffer₂; heard = x ++ heard₂ } ∷ rs)
  unfolding host_run
  host-moves image₂ buffer₂ heard₂ rs =
      host-later (record { image = image₂; buffer = buffer₂; heard = heard₂ } ∷ rs)
      ∙ ap (λ (l : List (Asked × Told)). (request c image buffer, told) ∷ l)
      (host-joined told.client (drop told.rest (kept ++ heard)) x image₂ buffer₂ heard₂ rs)
