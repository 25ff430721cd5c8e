-- Lists written one after another at a place of a list, and read back from there, each by its width.
use Prim.Native.Nat.{ℕ, zero, suc, ◌+◌, ◌^◌, ◌<◌, ◌≤◌}
use mathlib.Core.List.{List, [], ◌∷◌, ◌++◌, append_assoc}
use mathlib.Core.Path.{◌≡◌, refl, sym, ◌∙◌, ap, ap₂}
use native.Mathlib.Nat.{add_assoc, add-zero, pow-suc}
use native.Mathlib.Omega.{arith}
use lib.ListN.{length, get_or, take, drop, replicate, length-append, length-drop, take-append-drop}
use lib.ListN.{replicate-append-replicate}
use lib.Seq.{take_at, drop_at, drop-drop, get_or-drop, get_or-take, length-take-le, take-add, take-take}
use Rattle.paper.specs.Frame.{le, number, field}
use Rattle.paper.proofs.Words.{Bytes, le-length, number-le, field-none, field-suc}

-- d is b with s in place of its n elements from a place on.
pub record Put (at n : ℕ) (s b d : List ℕ) : Type 0 where
  pub sized : length s ≡ n
  pub holds : d ≡ take at b ++ s ++ drop (at + n) b

-- Put of a number in k bytes, and of one byte.
pub num : {at : ℕ} (k x : ℕ) {b d : List ℕ} → d ≡ take at b ++ le k x ++ drop (at + k) b → Put at k (le k x) b d
num k x e = record { sized = le-length k x; holds = e }

pub one : {at x : ℕ} {b d : List ℕ} → d ≡ take at b ++ (x ∷ []) ++ drop (at + 1) b → Put at 1 (x ∷ []) b d
one e = record { sized = refl; holds = e }

-- Putting two lists one right after the other is putting them joined.
pub behind : {at n k : ℕ} {s t b d e : List ℕ} → at ≤ length b → Put at n s b d → Put (at + n) k t d e
    → Put at (n + k) (s ++ t) b e
behind {at} {n} {k} {s} {t} {b} {d} {e} room p q = record {
  sized = length-append s t ∙ ap₂ ◌+◌ p.sized q.sized;
  holds =
      q.holds
      ∙ rw (
        p.holds,
        take_at (take at b ++ s) (drop (at + n) b) (at + n) front,
        ← drop-drop k (at + n) (take at b ++ s ++ drop (at + n) b),
        drop_at (take at b ++ s) (drop (at + n) b) (at + n) front,
        drop-drop k (at + n) b,
        add_assoc at n k,
        append_assoc (take at b) s t,
      );
}
  where
    front : length (take at b ++ s) ≡ at + n
    front = length-append (take at b) s ∙ ap₂ ◌+◌ (length-take-le at b room) p.sized

-- What is before and after the list stays as it was, and the list is found at its place.
module _ {at n : ℕ} {s b d : List ℕ} (room : at ≤ length b) (p : Put at n s b d) where
  inner : d ≡ take at b ++ (s ++ drop (at + n) b)
  inner = p.holds ∙ append_assoc (take at b) s (drop (at + n) b)

  pub before : take at d ≡ take at b
  before = ap (take at) inner ∙ take_at (take at b) (s ++ drop (at + n) b) at (length-take-le at b room)

  pub found : take n (drop at d) ≡ s
  found = ap (λ (x : List ℕ). take n (drop at x)) inner
      ∙ ap (take n) (drop_at (take at b) (s ++ drop (at + n) b) at (length-take-le at b room))
      ∙ take_at s (drop (at + n) b) n p.sized

  pub after : drop (at + n) d ≡ drop (at + n) b
  after = ap (drop (at + n)) p.holds
      ∙ drop_at (take at b ++ s) (drop (at + n) b) (at + n)
      (length-append (take at b) s ∙ ap₂ ◌+◌ (length-take-le at b room) p.sized)

  pub put-length : at + n ≤ length b → length d ≡ length b
  put-length h =
      omega (
        arith,
        ap length p.holds
            ∙ length-append (take at b ++ s) (drop (at + n) b),
        length-append (take at b) s,
        length-take-le at b room,
        length-drop (at + n) b,
        p.sized,
      )

-- Putting what is already at a place changes nothing.
pub own : (at n : ℕ) (b : List ℕ) → at + n ≤ length b → Put at n (take n (drop at b)) b b
own at n b h = record {
  sized = length-take-le n (drop at b) (omega (arith, length-drop at b));
  holds = sym (take-append-drop (at + n) b) ∙ ap (λ (s : List ℕ). s ++ drop (at + n) b) (take-add at n b);
}

-- Lists with their widths: joined after a list, their total width, each of its own width (Sized), each found at its
-- place (Spread).
abbrev pub joined : List ℕ → List (ℕ × List ℕ) → List ℕ
joined s [] = s
joined s ((k, x) ∷ fs) = joined (s ++ x) fs

abbrev pub total : ℕ → List (ℕ × List ℕ) → ℕ
total n [] = n
total n ((k, x) ∷ fs) = total (n + k) fs

abbrev pub Sized : List (ℕ × List ℕ) → Type 0
Sized [] = Unit {0}
Sized ((k, x) ∷ fs) = (length x ≡ k) × Sized fs

abbrev pub Spread : ℕ → ℕ → List (ℕ × List ℕ) → List ℕ → Type 0
Spread at n [] b = Unit {0}
Spread at n ((k, x) ∷ fs) b = (take k (drop (at + n) b) ≡ x) × Spread at (n + k) fs b

pub joined_length : (fs : List (ℕ × List ℕ)) (s : List ℕ) (n : ℕ) → length s ≡ n → Sized fs
    → length (joined s fs) ≡ total n fs
joined_length [] s n e h = e
joined_length ((k, x) ∷ fs) s n e h = joined_length fs (s ++ x) (n + k) (length-append s x ∙ ap₂ ◌+◌ e h.0) h.1

pub spread : (at : ℕ) (b : List ℕ) (fs : List (ℕ × List ℕ)) (s : List ℕ) (n : ℕ) → length s ≡ n → Sized fs
    → take (total n fs) (drop at b) ≡ joined s fs
    → (take n (drop at b) ≡ s) × Spread at n fs b
spread at b [] s n e h q = (q, tt)
spread at b ((k, x) ∷ fs) s n e h q =
    go (spread at b fs (s ++ x) (n + k) (length-append s x ∙ ap₂ ◌+◌ e h.0) h.1 q)
  where
    go : (take (n + k) (drop at b) ≡ s ++ x) × Spread at (n + k) fs b
        → (take n (drop at b) ≡ s) × ((take k (drop (at + n) b) ≡ x) × Spread at (n + k) fs b)
    go (both, more) = (front, (ap (take k) (sym (drop-drop n at b)) ∙ back, more))
      where
        front : take n (drop at b) ≡ s
        front = sym (take-take n (n + k) (drop at b) (omega arith)) ∙ ap (take n) both ∙ take_at s x n e

        back : take k (drop n (drop at b)) ≡ x
        back =
            sym (drop_at (take n (drop at b)) (take k (drop n (drop at b))) n (ap length front ∙ e))
            ∙ ap (drop n) (sym (take-add n k (drop at b)) ∙ both)
            ∙ drop_at s x n e

-- Every list is all zeros.
abbrev pub Zeros : List (ℕ × List ℕ) → Type 0
Zeros [] = Unit {0}
Zeros ((k, x) ∷ fs) = (x ≡ replicate k 0) × Zeros fs

pub joined-zeros : (fs : List (ℕ × List ℕ)) (n : ℕ) → Zeros fs → joined (replicate n 0) fs ≡ replicate (total n fs) 0
joined-zeros [] n h = refl
joined-zeros ((k, x) ∷ fs) n h =
    ap (λ (s : List ℕ). joined s fs)
    (ap (λ (y : List ℕ). replicate n 0 ++ y) h.0 ∙ replicate-append-replicate n k 0) ∙ joined-zeros fs (n + k) h.1

-- What is at a place, read as a number and byte by byte.
pub field_at : (at k x : ℕ) (b : List ℕ) → x < 256 ^ k → take k (drop at b) ≡ le k x → field at k b ≡ x
field_at at k x b h e = ap number e ∙ number-le k x h

pub byte-in : (at n i : ℕ) (s b : List ℕ) → i < n → take n (drop at b) ≡ s → get_or b (at + i) 0 ≡ get_or s i 0
byte-in at n i s b h e = sym (get_or-drop at b i 0) ∙ sym (get_or-take n (drop at b) i 0 h)
    ∙ ap (λ (l : List ℕ). get_or l i 0) e

pub byte_at : (at n : ℕ) (s b : List ℕ) → 0 < n → take n (drop at b) ≡ s → get_or b at 0 ≡ get_or s 0 0
byte_at at n s b h e = ap (λ (i : ℕ). get_or b i 0) (sym (add-zero at)) ∙ byte-in at n 0 s b h e

-- Lists of bytes: bounds on a byte and a field, and parts that are lists of bytes again.
pub byte-below : (b : List ℕ) (at : ℕ) → Bytes b → get_or b at 0 < 256
byte-below [] at h = omega arith
byte-below (x ∷ b) zero h = h.0
byte-below (x ∷ b) (suc at) h = byte-below b at h.1

pub field_below : (k at : ℕ) (b : List ℕ) → Bytes b → field at k b < 256 ^ k
field_below zero at b h = rw (field-none at b) (omega arith)
field_below (suc k) at b h = rw (field-suc at k b, pow-suc 256 k)
    (omega (arith, byte-below b at h, field_below k (at + 1) b h))

pub bytes_take : (n : ℕ) (b : List ℕ) → Bytes b → Bytes (take n b)
bytes_take zero b h = tt
bytes_take (suc n) [] h = tt
bytes_take (suc n) (x ∷ b) h = (h.0, bytes_take n b h.1)

pub bytes_drop : (n : ℕ) (b : List ℕ) → Bytes b → Bytes (drop n b)
bytes_drop zero b h = h
bytes_drop (suc n) [] h = tt
bytes_drop (suc n) (x ∷ b) h = bytes_drop n b h.1
