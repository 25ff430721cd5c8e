-- A frame with any check is read back, whatever bytes follow it: whole if the check is right, else of bad check. And a
-- frame read whole has the bytes that writing it gives.
use Prim.Native.Nat.{ℕ, zero, suc, ◌+◌, ◌/◌, ◌^◌, ◌<◌, ◌≤◌}
use mathlib.Core.Bool.{Bool, true, false, cond}
use mathlib.Core.List.{List, [], ◌∷◌, ◌++◌, append_assoc}
use mathlib.Core.Path.{◌≡◌, refl, sym, ◌∙◌, ap, ap₂, subst}
use native.Mathlib.Omega.{arith}
use native.Mathlib.Nat.{pow-suc}
use lib.ListN.{length, take, drop, length-append, length-drop, take-append-drop}
use lib.Seq.{take_at, drop_at, take-add, drop-drop, length-take-le}
use lib.Dec.{eqb, lit<}
use borrow.Author.Tests.{le-ltb, eq-eqb, eqb-true}
use Rattle.paper.proofs.Frames.{body-length}
use Rattle.paper.proofs.Readings.{Read, framed, read_known}
use Rattle.paper.proofs.Words.{Bytes, le-length, number-le, le-number}
use Rattle.paper.specs.Frame.{le, number, byte, field, Frame, size, most, frame_head, frame_body, frame_check, frame_bytes}
use Rattle.paper.specs.Frame.{fields, right_check, skipped, read_sized, read_synced, read, bad_check, whole}
use Rattle.theory.proofs.frames.CheckParts.{check-fits}

-- A frame whose fields fit the bytes that they are written in.
pub record Fits (f : Frame) : Type 0 where
  pub command : f.command < 256
  pub status : f.status < 256
  pub flags : f.flags < 256
  pub address : f.address < 256 ^ 4
  pub payload : Bytes f.payload
  pub short : length f.payload ≤ most

pub bytes-append : (xs ys : List ℕ) → Bytes xs → Bytes ys → Bytes (xs ++ ys)
bytes-append [] ys h k = k
bytes-append (x ∷ xs) ys h k = (h.0, bytes-append xs ys h.1 k)

pub bytes_take : (n : ℕ) (xs : List ℕ) → Bytes xs → Bytes (take n xs)
bytes_take zero xs h = tt
bytes_take (suc n) [] h = tt
bytes_take (suc n) (x ∷ xs) h = (h.0, bytes_take n xs h.1)

pub bytes_drop : (n : ℕ) (xs : List ℕ) → Bytes xs → Bytes (drop n xs)
bytes_drop zero xs h = h
bytes_drop (suc n) [] h = tt
bytes_drop (suc n) (x ∷ xs) h = bytes_drop n xs h.1

pub bytes-at : (xs : List ℕ) (i : ℕ) → Bytes xs → byte i xs < 256
bytes-at [] i h = omega arith
bytes-at (x ∷ xs) zero h = h.0
bytes-at (x ∷ xs) (suc i) h = bytes-at xs i h.1

pub bytes_le : (k x : ℕ) → Bytes (le k x)
unfolding le
bytes_le zero x = tt
bytes_le (suc k) x = (omega arith, bytes_le k (x / 256))

number_fits : (xs : List ℕ) → Bytes xs → number xs < 256 ^ length xs
unfolding number
number_fits [] h = omega arith
number_fits (x ∷ xs) h = rw (pow-suc 256 (length xs)) (omega (arith, number_fits xs h.1, h.0))

-- The frame that is read, from what is known of the bytes.
read_made : (s : List ℕ) (n : ℕ) (b : Bool) → skipped s ≡ 0 → field 8 2 s ≡ n → n ≤ most → 12 + n ≤ length s
    → right_check n s ≡ b → read s ≡ framed b 0 (fields n s)
unfolding read read_synced read_sized
read_made s n b e en small room right =
    rw (e, en, le-ltb (length s) 10 (omega arith), le-ltb most n small, le-ltb (length s) (12 + n) room, right)
    (go b)
  where
    go : (b : Bool) → cond b (whole 0 (fields n s)) (bad_check 0 (fields n s)) ≡ framed b 0 (fields n s)
    go true = refl
    go false = refl

pub body_bytes : (f : Frame) → Fits f → Bytes (frame_body f)
unfolding frame_body frame_head
body_bytes f h =
    bytes-append (frame_head f) f.payload
    (bytes-append (0xA5 ∷ f.command ∷ f.status ∷ f.flags ∷ le 4 f.address) (le 2 (length f.payload))
    (lit< tt, (h.command, (h.status, (h.flags, bytes_le 4 f.address))))
    (bytes_le 2 (length f.payload)))
    h.payload

-- A frame with any check c.
module _ (f : Frame) (h : Fits f) (c : ℕ) (two : c < 256 ^ 2) (more : List ℕ) where
  abbrev written : List ℕ
  written = frame_body f ++ le 2 c ++ more

  abbrev n : ℕ
  n = length f.payload

  -- The body, then the check and what follows.
  written-parts : written ≡ frame_body f ++ (le 2 c ++ more)
  written-parts = append_assoc (frame_body f) (le 2 c) more

  written-synced : skipped written ≡ 0
  unfolding skipped frame_body frame_head
  written-synced = refl

  written-sized : field 8 2 written ≡ n
  unfolding frame_body frame_head le
  written-sized = number-le 2 (length f.payload) (omega (arith, h.short))

  written-payload : take n (drop 10 written) ≡ f.payload
  unfolding frame_body frame_head le
  written-payload = ap (take n) (append_assoc f.payload (le 2 c) more) ∙ take_at f.payload (le 2 c ++ more) n refl

  written-fields : fields n written ≡ f
  unfolding frame_body frame_head le
  written-fields =
      ap₂ (λ (a : ℕ) (p : List ℕ). record
      { command = f.command; status = f.status; flags = f.flags; address = a; payload = p })
      (number-le 4 f.address h.address)
      written-payload

  written-checked : right_check n written ≡ eqb (frame_check (frame_body f)) c
  unfolding right_check
  written-checked =
      ap₂ eqb
      (ap frame_check
      (ap (take (10 + n)) written-parts ∙ take_at (frame_body f) (le 2 c ++ more) (10 + n) (body-length f)))
      (ap (λ (t : List ℕ). number (take 2 t))
      (ap (drop (10 + n)) written-parts ∙ drop_at (frame_body f) (le 2 c ++ more) (10 + n) (body-length f))
      ∙ ap number (take_at (le 2 c) more 2 (le-length 2 c))
      ∙ number-le 2 c two)

  pub read-checked : (b : Bool) → eqb (frame_check (frame_body f)) c ≡ b
      → read (frame_body f ++ le 2 c ++ more) ≡ framed b 0 f
  read-checked b e =
      read_made written n b written-synced written-sized h.short
      (omega (
        arith,
        ap length written-parts,
        length-append (frame_body f) (le 2 c ++ more),
        body-length f,
        length-append (le 2 c) more,
        le-length 2 c,
      )) (written-checked ∙ e)
      ∙ ap (framed b 0) written-fields

pub read-written : (f : Frame) → Fits f → (more : List ℕ) → read (frame_bytes f ++ more) ≡ whole 0 f
unfolding frame_bytes
read-written f h more =
    read-checked f h (frame_check (frame_body f))
    (check-fits (drop 1 (frame_body f)) (bytes_drop 1 (frame_body f) (body_bytes f h))) more true
    (eq-eqb (frame_check (frame_body f)) (frame_check (frame_body f)) refl)

-- The byte after those skipped is A5.
synced : (s : List ℕ) → skipped s < length s → byte 0 (drop (skipped s) s) ≡ 0xA5
unfolding skipped
synced [] h = absurd (omega arith)
synced (b ∷ bs) h = go (synced bs) (eqb b 0xA5) refl h
  where
    one_more : (n : ℕ) → 1 + n ≡ suc n
    one_more n = omega arith

    go : (skipped bs < length bs → byte 0 (drop (skipped bs) bs) ≡ 0xA5) → (t : Bool) → eqb b 0xA5 ≡ t
        → cond t 0 (1 + skipped bs) < suc (length bs)
        → byte 0 (drop (cond t 0 (1 + skipped bs)) (b ∷ bs)) ≡ 0xA5
    go more true e h = eqb-true b 0xA5 e
    go more false e h = ap (λ (n : ℕ). byte 0 (drop n (b ∷ bs))) (one_more (skipped bs)) ∙ more (omega arith)

field_fits : (at k : ℕ) (s : List ℕ) → Bytes s → at + k ≤ length s → field at k s < 256 ^ k
field_fits at k s h room =
    subst (λ (n : ℕ). field at k s < 256 ^ n) (length-take-le k (drop at s) (omega (arith, length-drop at s)))
    (number_fits (take k (drop at s)) (bytes_take k (drop at s) (bytes_drop at s h)))

-- Writing a field that was read gives its bytes again.
le-field : (at k : ℕ) (s : List ℕ) → Bytes s → at + k ≤ length s → le k (field at k s) ≡ take k (drop at s)
le-field at k s h room =
    ap (λ (n : ℕ). le n (field at k s)) (sym (length-take-le k (drop at s) (omega (arith, length-drop at s))))
    ∙ le-number (take k (drop at s)) (bytes_take k (drop at s) (bytes_drop at s h))

-- Writing the head that was read gives its bytes again.
head_read : (t : List ℕ) → Bytes t → 10 ≤ length t → byte 0 t ≡ 0xA5
    → 0xA5 ∷ byte 1 t ∷ byte 2 t ∷ byte 3 t ∷ le 4 (field 4 4 t) ++ le 2 (field 8 2 t) ≡ take 10 t
head_read t h room e =
    rw (le-field 4 4 t h (omega arith), le-field 8 2 t h (omega arith), ← e)
    (ap (λ (x : List ℕ). x ++ take 4 (drop 4 t) ++ take 2 (drop 8 t)) (front t (omega arith))
    ∙ append_assoc (take 4 t) (take 4 (drop 4 t)) (take 2 (drop 8 t))
    ∙ ap (λ (x : List ℕ). take 4 t ++ (take 4 (drop 4 t) ++ take 2 x)) (sym (drop-drop 4 4 t))
    ∙ ap (λ (x : List ℕ). take 4 t ++ x) (sym (take-add 4 2 (drop 4 t)))
    ∙ sym (take-add 4 6 t))
  where
    front : (t : List ℕ) → 4 ≤ length t → byte 0 t ∷ byte 1 t ∷ byte 2 t ∷ byte 3 t ∷ [] ≡ take 4 t
    front [] h = absurd (omega arith)
    front (a ∷ []) h = absurd (omega arith)
    front (a ∷ b ∷ []) h = absurd (omega arith)
    front (a ∷ b ∷ c ∷ []) h = absurd (omega arith)
    front (a ∷ b ∷ c ∷ d ∷ t) h = refl

module _ (n : ℕ) (t : List ℕ) (h : Bytes t) (room : 12 + n ≤ length t) where
  payload-length : length (take n (drop 10 t)) ≡ n
  payload-length = length-take-le n (drop 10 t) (omega (arith, length-drop 10 t))

  fields_fit : n ≤ most → Fits (fields n t)
  fields_fit small =
      record {
        command = bytes-at t 1 h;
        status = bytes-at t 2 h;
        flags = bytes-at t 3 h;
        address = field_fits 4 4 t h (omega arith);
        payload = bytes_take n (drop 10 t) (bytes_drop 10 t h);
        short = rw payload-length small;
      }

  fields-body : byte 0 t ≡ 0xA5 → field 8 2 t ≡ n → frame_body (fields n t) ≡ take (10 + n) t
  unfolding frame_body frame_head
  fields-body e en =
      ap (λ (x : ℕ). (0xA5 ∷ byte 1 t ∷ byte 2 t ∷ byte 3 t ∷ le 4 (field 4 4 t) ++ le 2 x) ++ take n (drop 10 t))
      (payload-length ∙ sym en)
      ∙ ap (λ (x : List ℕ). x ++ take n (drop 10 t)) (head_read t h (omega arith) e)
      ∙ sym (take-add 10 n t)

  fields-bytes : byte 0 t ≡ 0xA5 → field 8 2 t ≡ n → right_check n t ≡ true → frame_bytes (fields n t) ≡ take (12 + n) t
  unfolding frame_bytes right_check
  fields-bytes e en right =
      ap (λ (x : List ℕ). x ++ le 2 (frame_check x)) (fields-body e en)
      ∙ ap (λ (x : ℕ). take (10 + n) t ++ le 2 x) (eqb-true _ _ right)
      ∙ ap (λ (x : List ℕ). take (10 + n) t ++ x) (le-field (10 + n) 2 t h (omega arith))
      ∙ sym (take-add (10 + n) 2 t)
      ∙ ap (λ (x : ℕ). take x t) (twelve n)
    where
      twelve : (n : ℕ) → 10 + n + 2 ≡ 12 + n
      twelve n = omega arith

module _ (s : List ℕ) (h : Bytes s) (k : ℕ) (f : Frame) (e : read s ≡ whole k f) where
  known : Read s k f true
  known = read_known s k f true e

  room : size f ≤ length (drop k s)
  room = omega (arith, known.room, length-drop k s)

  pub fits_read : Fits f
  fits_read = rw known.frame (fields_fit (length f.payload) (drop k s) (bytes_drop k s h) room known.small)

  bytes_read : frame_bytes f ≡ take (size f) (drop k s)
  bytes_read =
      ap frame_bytes known.frame
      ∙ fields-bytes (length f.payload) (drop k s) (bytes_drop k s h) room
      (rw known.skip (synced s (omega (arith, known.skip, known.room)))) known.sized known.check

  pub written_read : s ≡ take k s ++ (frame_bytes f ++ drop (k + size f) s)
  written_read =
      sym
      (ap (λ (x : List ℕ). take k s ++ (x ++ drop (k + size f) s)) bytes_read
      ∙ ap (λ (x : List ℕ). take k s ++ (take (size f) (drop k s) ++ x)) (sym (drop-drop (size f) k s))
      ∙ ap (λ (x : List ℕ). take k s ++ x) (take-append-drop (size f) (drop k s))
      ∙ take-append-drop k s)
