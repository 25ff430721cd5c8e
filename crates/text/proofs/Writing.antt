-- Lemmas for each path through writing an id's text, from the facts that hold there.
use Prim.Native.Nat.{ℕ, ◌+◌, ◌*◌, ◌/◌, ◌%◌, ◌<◌, ◌≤◌}
use mathlib.Core.List.{List, [], ◌∷◌, ◌++◌}
use mathlib.Core.Path.{◌≡◌, sym, ◌∙◌, ap, ap₂}
use native.Mathlib.Numerals.{add-one}
use native.Mathlib.Omega.{arith}
use lib.ListN.{length, take, drop, get_or, set, length-drop, length-append}
use lib.Seq.{sets-eq, take-suc, take_at, drop-append-add, drop-drop, length-take-le, take-length}
use mir.Syntax.{w8}
use mir.Val.{Fits}
use borrow.Author.Tests.{lt-ltb, le-ltb}
use Rattle.paper.specs.Text.{hex_digit, hex_text, uid_hex}
use Rattle.paper.proofs.Hex.{hex_text-length, hex_text-append}
use Rattle.std.specs.Prelude.{Ok, Err}
use Rattle.wire.specs.declared.Unwritten.TheVariants.{Short, TooLong}
use Rattle.text.specs.Texts.{Outcome, written}

pub high_digit : (bytes : List ℕ) (i : ℕ) → ((k : ℕ) → Fits w8 (get_or bytes k 0)) → get_or bytes i 0 / 16 < 16
high_digit bytes i h = omega (arith, h i)

module _ (bytes buffer text : List ℕ) (i : ℕ) (e : text ≡ hex_text (take i bytes) ++ drop (2 * i) buffer)
    (h : i < length bytes) (room : 2 * length bytes ≤ length buffer) where
  passed : length (hex_text (take i bytes)) ≡ 2 * i
  passed = omega (arith, hex_text-length (take i bytes), length-take-le i bytes (omega arith))

  pub wrote-more : (a b : ℕ) → a ≡ hex_digit (get_or bytes i 0 / 16) → b ≡ hex_digit (get_or bytes i 0 % 16)
      → set (set text (2 * i) a) (2 * i + 1) b ≡ hex_text (take (i + 1) bytes) ++ drop (2 * (i + 1)) buffer
  unfolding hex_text
  wrote-more a b ea eb =
      rw (add-one (2 * i)) (sets-eq (a ∷ b ∷ []) text (2 * i)
      (omega (arith, rw passed at (simp length-append at (ap length e)), length-drop (2 * i) buffer)))
      ∙ ap₂ (λ (x y : List ℕ). x ++ (a ∷ b ∷ []) ++ y) front back
      ∙ ap (λ (x : List ℕ). x ++ drop (2 * (i + 1)) buffer) (sym more)
    where
      front : take (2 * i) text ≡ hex_text (take i bytes)
      front = rw e (take_at (hex_text (take i bytes)) (drop (2 * i) buffer) (2 * i) passed)

      back : drop (2 * i + 2) text ≡ drop (2 * (i + 1)) buffer
      back =
          rw e
          (ap (λ (k : ℕ). drop (k + 2) (hex_text (take i bytes) ++ drop (2 * i) buffer)) (sym passed)
          ∙ drop-append-add (hex_text (take i bytes)) (drop (2 * i) buffer) 2
          ∙ drop-drop 2 (2 * i) buffer
          ∙ ap (λ (k : ℕ). drop k buffer) next)
        where
          next : 2 * i + 2 ≡ 2 * (i + 1)
          next = omega arith

      more : hex_text (take (i + 1) bytes) ≡ hex_text (take i bytes) ++ (a ∷ b ∷ [])
      more = rw (add-one i, take-suc bytes i 0 h, ea, eb) (hex_text-append (take i bytes) (get_or bytes i 0 ∷ []))

pub wrote-all : (bytes buffer text : List ℕ) (i : ℕ) → text ≡ hex_text (take i bytes) ++ drop (2 * i) buffer
    → i ≤ length bytes → length bytes ≤ i
    → text ≡ hex_text bytes ++ drop (2 * length bytes) buffer
wrote-all bytes buffer text i e h g = let s : i ≡ length bytes = omega arith in rw (s, take-length) at e

-- What writing an id answers: the two refusals, and the text.
module _ (id buffer : List ℕ) where
  pub refuses-long : 16 < length id
      → ◌≡◌ {A = Outcome} (record { answer = Err TooLong; bytes = buffer }) (written id buffer)
  unfolding written uid_hex
  refuses-long h = rw (lt-ltb 16 (length id) h)

  pub refuses-short : length id ≤ 16 → length buffer < 2 * length id
      → ◌≡◌ {A = Outcome} (record { answer = Err (Short (2 * length id)); bytes = buffer }) (written id buffer)
  unfolding written uid_hex
  refuses-short h g = rw (le-ltb 16 (length id) h, hex_text-length id, lt-ltb (length buffer) (2 * length id) g)

  pub writes : (text : List ℕ) → length id ≤ 16 → 2 * length id ≤ length buffer
      → text ≡ hex_text id ++ drop (2 * length id) buffer
      → ◌≡◌ {A = Outcome} (record { answer = Ok (2 * length id); bytes = text }) (written id buffer)
  unfolding written uid_hex
  writes text h g e = rw (
    le-ltb 16 (length id) h,
    hex_text-length id,
    le-ltb (length buffer) (2 * length id) g,
    hex_text-length id,
    e,
  )
