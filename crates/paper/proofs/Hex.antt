-- Hexadecimal digits: the value of a character, the text of bytes and of two lists joined, two characters read.
use Prim.Native.Nat.{ℕ, ◌+◌, ◌-◌, ◌*◌, ◌/◌, ◌%◌, ◌<◌, ◌≤◌}
use mathlib.Core.Bool.{Bool, true, false, ◌&&◌, false≢true}
use mathlib.Core.List.{List, [], ◌∷◌, ◌++◌}
use mathlib.Core.Option.{Option, none, some}
use mathlib.Core.Path.{◌≡◌, refl, ap}
use native.Mathlib.Omega.{arith}
use lib.Dec.{leb, ltb}
use lib.ListN.{length}
use borrow.Author.Tests.{leb-true, lt-ltb, le-ltb, le-leb, lt-leb}
use Rattle.paper.specs.Hearing.{on_some}
use Rattle.paper.specs.Text.{hex_digit, digit, hex_text, unhex}
use Rattle.lore.proofs.Choice.{and_yes, and-not-left, and-not-right}

-- What a character can be: a digit 0 to 9, an upper case or lower case digit, or no digit.
pub data Kind (c : ℕ) : Type 0 where
  number : 48 ≤ c → c ≤ 57 → Kind c
  upper : 65 ≤ c → c ≤ 70 → Kind c
  small : 97 ≤ c → c ≤ 102 → Kind c
  other : digit c ≡ 16 → Kind c

module _ (lo hi c : ℕ) where
  abbrev pub within : Bool
  within = leb lo c && leb c hi

  pub inside : lo ≤ c → c ≤ hi → within ≡ true
  inside h g = and_yes (leb lo c) (leb c hi) (le-leb lo c h) (le-leb c hi g)

  pub under : c < lo → within ≡ false
  under h = and-not-left (leb lo c) (leb c hi) (lt-leb lo c h)

  pub over : hi < c → within ≡ false
  over h = and-not-right (leb lo c) (leb c hi) (lt-leb c hi h)

  is-inside : within ≡ true → (lo ≤ c) × (c ≤ hi)
  is-inside e = go (leb lo c) refl (leb c hi) refl e
    where
      go : (a : Bool) → leb lo c ≡ a → (b : Bool) → leb c hi ≡ b → (a && b) ≡ true → (lo ≤ c) × (c ≤ hi)
      go true f true g h = (leb-true lo c f, leb-true c hi g)
      go true f false g h = absurd (false≢true h)
      go false f b g h = absurd (false≢true h)

module _ (c : ℕ) where
  pub kind : Kind c
  unfolding digit
  kind = go (within 48 57 c) refl (within 65 70 c) refl (within 97 102 c) refl
    where
      go : (a : Bool) → within 48 57 c ≡ a → (b : Bool) → within 65 70 c ≡ b → (d : Bool) → within 97 102 c ≡ d → Kind c
      go true e b f d g = let w = is-inside 48 57 c e in number w.0 w.1
      go false e true f d g = let w = is-inside 65 70 c f in upper w.0 w.1
      go false e false f true g = let w = is-inside 97 102 c g in small w.0 w.1
      go false e false f false g = other (rw (e, f, g))

  pub digit-number : 48 ≤ c → c ≤ 57 → digit c ≡ c - 48
  unfolding digit
  digit-number h g = rw (inside 48 57 c h g)

  pub digit-upper : 65 ≤ c → c ≤ 70 → digit c ≡ c - 55
  unfolding digit
  digit-upper h g = rw (over 48 57 c (omega arith), inside 65 70 c h g)

  pub digit-small : 97 ≤ c → c ≤ 102 → digit c ≡ c - 87
  unfolding digit
  digit-small h g = rw (over 48 57 c (omega arith), over 65 70 c (omega arith), inside 97 102 c h g)

  pub digit-other : (48 ≤ c → 57 < c) → (65 ≤ c → 70 < c) → (97 ≤ c → 102 < c) → digit c ≡ 16
  digit-other a b d = go kind
    where
      go : Kind c → digit c ≡ 16
      go (number l m) = let n = a l in absurd (omega arith)
      go (upper l m) = let n = b l in absurd (omega arith)
      go (small l m) = let n = d l in absurd (omega arith)
      go (other e) = e

pub hex_text-length : (bs : List ℕ) → length (hex_text bs) ≡ 2 * length bs
unfolding hex_text
hex_text-length [] = refl
hex_text-length (b ∷ bs) = omega (arith, hex_text-length bs)

pub hex_text-append : (xs bs : List ℕ) → hex_text (xs ++ bs) ≡ hex_text xs ++ hex_text bs
unfolding hex_text
hex_text-append [] bs = refl
hex_text-append (a ∷ xs) bs = ap (λ (t : List ℕ). hex_digit (a / 16) ∷ hex_digit (a % 16) ∷ t) (hex_text-append xs bs)

module _ (h l : ℕ) (text : List ℕ) where
  pub unhex-pair : (rest : Option (List ℕ)) → digit h < 16 → digit l < 16 → unhex text ≡ rest
      → unhex (h ∷ l ∷ text) ≡ on_some rest none (λ bytes. some ((digit h * 16 + digit l) ∷ bytes))
  unfolding unhex
  unhex-pair rest a b e = rw (lt-ltb (digit h) 16 a, lt-ltb (digit l) 16 b, e)

  pub unhex-bad-high : 16 ≤ digit h → unhex (h ∷ l ∷ text) ≡ none
  unfolding unhex
  unhex-bad-high a = rw (le-ltb (digit h) 16 a)

  pub unhex-bad-low : 16 ≤ digit l → unhex (h ∷ l ∷ text) ≡ none
  unfolding unhex
  unhex-bad-low b = rw (and-not-right (ltb (digit h) 16) (ltb (digit l) 16) (le-ltb (digit l) 16 b))
