-- What is known of a frame that was read: its place, length, fields and check. Then the frames of a record, one at a
-- time.
use Prim.Native.Nat.{ℕ, zero, suc, ◌+◌, ◌<◌, ◌≤◌}
use mathlib.Core.Bool.{Bool, true, false, cond}
use mathlib.Core.List.{List, [], ◌∷◌}
use mathlib.Core.Option.{none, some}
use mathlib.Core.Path.{◌≡◌, refl}
use native.Mathlib.Omega.{arith}
use lib.ListN.{length, take, drop, length-drop}
use lib.Seq.{length-take-le}
use lib.Dec.{ltb}
use borrow.Author.Tests.{ltb-false}
use Rattle.paper.specs.Frame.{field, skipped, Frame, fields, most, size, right_check, read_sized, read_synced, read}
use Rattle.paper.specs.Frame.{Reading, short, too_long, bad_check, whole}
use Rattle.paper.specs.Hearing.{clean, frames, on_some}

-- A frame f read from s: it begins after k bytes, and right is whether its check is right.
pub record Read (s : List ℕ) (k : ℕ) (f : Frame) (right : Bool) : Type 0 where
  pub skip : k ≡ skipped s
  pub frame : f ≡ fields (length f.payload) (drop k s)
  pub sized : field 8 2 (drop k s) ≡ length f.payload
  pub small : length f.payload ≤ most
  pub room : k + size f ≤ length s
  pub check : right_check (length f.payload) (drop k s) ≡ right

-- The reading of a frame, by whether its check is right.
abbrev pub framed : Bool → ℕ → Frame → Reading
framed true k f = whole k f
framed false k f = bad_check k f

same-framed : (d r : Bool) (k l : ℕ) (f g : Frame) → framed d k f ≡ framed r l g → (d ≡ r) × (k ≡ l) × (f ≡ g)
same-framed true true k l f g e = (refl, cc, cc)
same-framed true false k l f g e = absurd (let z : ◌≡◌ {A = ℕ} 0 1 = cc in omega arith)
same-framed false true k l f g e = absurd (let z : ◌≡◌ {A = ℕ} 0 1 = cc in omega arith)
same-framed false false k l f g e = (refl, cc, cc)

no_short : (r : Bool) (k : ℕ) (f : Frame) → short ≡ framed r k f → ⊥
no_short true k f e = let z : ◌≡◌ {A = ℕ} 0 1 = cc in omega arith
no_short false k f e = let z : ◌≡◌ {A = ℕ} 0 1 = cc in omega arith

no-long : (r : Bool) (k : ℕ) (f : Frame) → too_long ≡ framed r k f → ⊥
no-long true k f e = let z : ◌≡◌ {A = ℕ} 0 1 = cc in omega arith
no-long false k f e = let z : ◌≡◌ {A = ℕ} 0 1 = cc in omega arith

-- Read for the fields with n bytes of payload, straight from the bytes.
known : (s : List ℕ) (k n : ℕ) (d : Bool) → k ≡ skipped s → field 8 2 (drop k s) ≡ n → n ≤ most
    → 12 + n ≤ length (drop k s)
    → right_check n (drop k s) ≡ d → Read s k (fields n (drop k s)) d
known s k n d ek en small room ed =
    let long : length (take n (drop 10 (drop k s))) ≡ n =
    length-take-le n (drop 10 (drop k s)) (omega (arith, length-drop 10 (drop k s))) in
    record {
      skip = ek;
      frame = rw long;
      sized = rw long en;
      small = rw long small;
      room = rw long (omega (arith, length-drop k s));
      check = rw long ed;
    }

pub read_known : (s : List ℕ) (k : ℕ) (f : Frame) (right : Bool) → read s ≡ framed right k f → Read s k f right
unfolding read read_synced read_sized
read_known s k f right e =
    go (ltb (length t) 10) (ltb most n) (ltb (length t) (12 + n)) (right_check n t) refl refl refl refl e
  where
    t : List ℕ
    t = drop (skipped s) s

    n : ℕ
    n = field 8 2 t

    found : (d : Bool) → ltb most n ≡ false → ltb (length t) (12 + n) ≡ false → right_check n t ≡ d
        → (d ≡ right) × (skipped s ≡ k) × (fields n t ≡ f) → Read s k f right
    found d eb ec ed (er, ek, ef) =
        rw (← er, ← ek, ← ef) (known s (skipped s) n d refl refl (ltb-false _ _ eb) (ltb-false _ _ ec) ed)

    go : (a b c d : Bool) → ltb (length t) 10 ≡ a → ltb most n ≡ b → ltb (length t) (12 + n) ≡ c → right_check n t ≡ d
        → cond a short (cond b too_long
        (cond c short (cond d (whole (skipped s) (fields n t)) (bad_check (skipped s) (fields n t))))) ≡ framed right k f
        → Read s k f right
    go true b c d ea eb ec ed q = absurd (no_short right k f q)
    go false true c d ea eb ec ed q = absurd (no-long right k f q)
    go false false true d ea eb ec ed q = absurd (no_short right k f q)
    go false false false true ea eb ec ed q =
        found true eb ec ed (same-framed true right (skipped s) k (fields n t) f q)
    go false false false false ea eb ec ed q =
        found false eb ec ed (same-framed false right (skipped s) k (fields n t) f q)

-- A record's frames, one at a time.
pub frames-first : (n : ℕ) (s : List ℕ) → 0 < length s
    → frames (suc n) s ≡ on_some (clean (read s)) none
    (λ f. on_some (frames n (drop (size f) s)) none (λ fs. some (f ∷ fs)))
unfolding frames
frames-first n [] h = absurd (omega arith)
frames-first n (b ∷ bs) h = refl

pub frames-none : (n : ℕ) → frames n [] ≡ some []
unfolding frames
frames-none zero = refl
frames-none (suc n) = refl
