-- A frame that the code read, and the paper's frame at the same place.
use Prim.Native.Nat.{ℕ, ◌+◌, ◌-◌, ◌<◌, ◌≤◌}
use mathlib.Core.Bool.{Bool, true, false}
use mathlib.Core.List.{List}
use mathlib.Core.Path.{◌≡◌, refl, sym, ◌∙◌, ap}
use native.Mathlib.Omega.{arith}
use native.Mathlib.Nat.{add_assoc}
use lib.ListN.{length, drop, length-drop}
use Rattle.std.specs.Prelude.{Result, Ok, Err}
use Rattle.paper.proofs.Readings.{framed, read_known}
use Rattle.paper.specs.Frame as Paper
use Rattle.paper.specs.Frame.{read, size, short, too_long, bad_check, whole}
use Rattle.reader.specs.declared.Frame.{Frame}
use Rattle.reader.specs.declared.Unread.{Unread}
use Rattle.reader.specs.declared.Unread.TheVariants.{BadCheck}
use Rattle.reader.specs.Shown.{frame_at, shown_from}

-- The code's reading of a frame, by whether its check is right.
abbrev pub read_as : Bool → Frame → Result Frame Unread
read_as true f = Ok f
read_as false f = Err (BadCheck f)

-- f is the frame that the paper reads from the place at on, after skip bytes.
pub record Shows (bytes : List ℕ) (at : ℕ) (f : Frame) (right : Bool) : Type 0 where
  pub skip : ℕ
  pub frame : Paper.Frame
  pub shown : f ≡ frame_at (at + skip) frame
  pub came : read (drop at bytes) ≡ framed right skip frame

pub shows : (right : Bool) (bytes : List ℕ) (at : ℕ) (x : Result Frame Unread) → x ≡ shown_from at (read (drop at bytes))
    → (f : Frame) → x ≡ read_as right f → Shows bytes at f right
shows right bytes at x e f c = go right (read (drop at bytes)) refl (sym e ∙ c)
  where
    go : (right : Bool) (r : Paper.Reading) → read (drop at bytes) ≡ r → shown_from at r ≡ read_as right f
        → Shows bytes at f right
    go true short q h = absurd (let z : ◌≡◌ {A = ℕ} 0 1 = cc in omega arith)
    go true too_long q h = absurd (let z : ◌≡◌ {A = ℕ} 0 1 = cc in omega arith)
    go true (bad_check k p) q h = absurd (let z : ◌≡◌ {A = ℕ} 0 1 = cc in omega arith)
    go true (whole k p) q h = record { skip = k; frame = p; shown = cc; came = q }
    go false short q h = absurd (let z : ◌≡◌ {A = ℕ} 0 1 = cc in omega arith)
    go false too_long q h = absurd (let z : ◌≡◌ {A = ℕ} 0 1 = cc in omega arith)
    go false (bad_check k p) q h = record { skip = k; frame = p; shown = cc; came = q }
    go false (whole k p) q h = absurd (let z : ◌≡◌ {A = ℕ} 0 1 = cc in omega arith)

module _ (bytes : List ℕ) (at : ℕ) (f : Frame) (right : Bool) (s : Shows bytes at f right) where
  -- The end of the frame, from the bytes skipped and the paper's size.
  pub end_is : f.end ≡ at + (s.skip + size s.frame)
  end_is = ap (λ (g : Frame). g.end) s.shown ∙ add_assoc at s.skip (size s.frame)

  pub end_after : at < f.end
  end_after = omega (arith, end_is)

  pub end-within : f.end ≤ length bytes
  end-within =
      omega (arith, end_is, length-drop at bytes, (read_known (drop at bytes) s.skip s.frame right s.came).room)

module _ (right : Bool) (bytes : List ℕ) (at : ℕ) (x : Result Frame Unread) (e : x ≡ shown_from at (read (drop at bytes)))
    (f : Frame) (c : x ≡ read_as right f) where
  pub inside : f.end ≤ length bytes
  inside = end-within bytes at f right (shows right bytes at x e f c)

  pub less : length bytes - f.end < length bytes - at
  less = omega (arith, inside, end_after bytes at f right (shows right bytes at x e f c))
