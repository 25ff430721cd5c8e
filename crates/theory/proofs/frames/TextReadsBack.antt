-- An id's text reads back as the id; a text that reads as an id is the id's text, except for the case of letters.
use Prim.Native.Nat.{ℕ, ◌+◌, ◌-◌, ◌*◌, ◌/◌, ◌%◌, ◌<◌, ◌≤◌}
use mathlib.Core.Bool.{Bool, true, false, ◌&&◌, cond}
use mathlib.Core.List.{List, [], ◌∷◌}
use mathlib.Core.Option.{Option, none, some, none-ne-some, some-injective}
use mathlib.Core.Path.{◌≡◌, refl, sym, ◌∙◌, ap₂}
use native.Mathlib.Decide.{dec_lt}
use native.Mathlib.Omega.{arith}
use lib.Dec.{leb}
use lib.ListN.{length}
use borrow.Author.Tests.{leb-true, lt-ltb, le-ltb, le-leb}
use Rattle.paper.specs.Text.{hex_digit, digit, hex_text, unhex, parse_uid}
use Rattle.paper.proofs.Hex.{Kind, number, upper, small, other, kind, within, inside, under, over, digit-number}
use Rattle.paper.proofs.Hex.{digit-upper, digit-small, hex_text-length, unhex-pair, unhex-bad-high, unhex-bad-low}
use Rattle.paper.proofs.Words.{Bytes}

-- A character with A to F in lower case, any other as it is; and the same for a text.
unfoldable pub lower_case : ℕ → ℕ
lower_case c = cond (leb 65 c && leb c 70) (c + 32) c

unfoldable pub lower : List ℕ → List ℕ
lower [] = []
lower (c ∷ text) = lower_case c ∷ lower text

module _ (v : ℕ) where
  hex_digit-few : v < 10 → hex_digit v ≡ 48 + v
  unfolding hex_digit
  hex_digit-few h = rw (lt-ltb v 10 h)

  hex_digit-more : 10 ≤ v → hex_digit v ≡ 87 + v
  unfolding hex_digit
  hex_digit-more h = rw (le-ltb v 10 h)

digit-hex_digit : (v : ℕ) → v < 16 → digit (hex_digit v) ≡ v
digit-hex_digit v h = go (dec_lt v 10)
  where
    go : Dec (v < 10) → digit (hex_digit v) ≡ v
    go (yes l) = rw (hex_digit-few v l, digit-number (48 + v) (omega arith) (omega arith)) (omega arith)
    go (no l) = rw (hex_digit-more v (omega arith), digit-small (87 + v) (omega arith) (omega arith)) (omega arith)

hex_digit-digit : (c : ℕ) → digit c < 16 → hex_digit (digit c) ≡ lower_case c
unfolding lower_case
hex_digit-digit c h = go (kind c)
  where
    go : Kind c → hex_digit (digit c) ≡ cond (within 65 70 c) (c + 32) c
    go (number l m) = rw (digit-number c l m, under 65 70 c (omega arith), hex_digit-few (c - 48) (omega arith))
        (omega arith)
    go (upper l m) = rw (digit-upper c l m, inside 65 70 c l m, hex_digit-more (c - 55) (omega arith)) (omega arith)
    go (small l m) = rw (digit-small c l m, over 65 70 c (omega arith), hex_digit-more (c - 87) (omega arith))
        (omega arith)
    go (other e) = absurd (omega arith)

pub unhex-hex_text : (bs : List ℕ) → Bytes bs → unhex (hex_text bs) ≡ some bs
unfolding unhex hex_text
unhex-hex_text [] h = refl
unhex-hex_text (b ∷ bs) h = go (unhex-hex_text bs h.1)
  where
    high : digit (hex_digit (b / 16)) ≡ b / 16
    high = digit-hex_digit (b / 16) (omega arith)

    low : digit (hex_digit (b % 16)) ≡ b % 16
    low = digit-hex_digit (b % 16) (omega arith)

    whole : (b : ℕ) → b / 16 * 16 + b % 16 ≡ b
    whole b = omega arith

    go : unhex (hex_text bs) ≡ some bs → unhex (hex_text (b ∷ bs)) ≡ some (b ∷ bs)
    go ih =
        unhex-pair (hex_digit (b / 16)) (hex_digit (b % 16)) (hex_text bs) (some bs) (omega (arith, high))
        (omega (arith, low)) ih ∙ rw (high, low, whole b)

pub parse-of-written : (id : List ℕ) → length id ≤ 16 → Bytes id → parse_uid (hex_text id) ≡ some id
unfolding parse_uid
parse-of-written id h b = rw (le-leb (length (hex_text id)) 32 (omega (arith, hex_text-length id))) (unhex-hex_text id b)

-- What is known of a text that reads as an id.
record Read (text id : List ℕ) : Type 0 where
  written : hex_text id ≡ lower text
  digits : length text ≡ 2 * length id
  bytes : Bytes id

module _ (h l : ℕ) (text : List ℕ) (high : digit h < 16) (low : digit l < 16) where
  pair-written : (bs : List ℕ) → hex_text bs ≡ lower text
      → hex_text ((digit h * 16 + digit l) ∷ bs) ≡ lower (h ∷ l ∷ text)
  unfolding hex_text lower
  pair-written bs e =
      ap₂ (λ (x y : ℕ). hex_digit x ∷ hex_digit y ∷ hex_text bs) (above (digit h) (digit l) low)
      (below (digit h) (digit l) low)
      ∙ rw (hex_digit-digit h high, hex_digit-digit l low, e)
    where
      above : (a b : ℕ) → b < 16 → (a * 16 + b) / 16 ≡ a
      above a b m = omega arith

      below : (a b : ℕ) → b < 16 → (a * 16 + b) % 16 ≡ b
      below a b m = omega arith

  pair_read : (bs : List ℕ) → Read text bs → Read (h ∷ l ∷ text) ((digit h * 16 + digit l) ∷ bs)
  pair_read bs r = record {
    written = pair-written bs r.written;
    digits = omega (arith, r.digits);
    bytes = (omega arith, r.bytes);
  }

unhex-read : (text id : List ℕ) → unhex text ≡ some id → Read text id
unfolding unhex hex_text lower
unhex-read [] id e = rw (← some-injective [] id e) (record { written = refl; digits = refl; bytes = tt })
unhex-read (h ∷ []) id e = absurd (none-ne-some id e)
unhex-read (h ∷ l ∷ text) id e =
    go (λ bs. unhex-read text bs) (dec_lt (digit h) 16) (dec_lt (digit l) 16) (unhex text) refl
  where
    go : ((bs : List ℕ) → unhex text ≡ some bs → Read text bs) → Dec (digit h < 16) → Dec (digit l < 16)
        → (o : Option (List ℕ)) → unhex text ≡ o → Read (h ∷ l ∷ text) id
    go ih (yes a) (yes b) (some bs) f =
        rw (← some-injective ((digit h * 16 + digit l) ∷ bs) id (sym (unhex-pair h l text (some bs) a b f) ∙ e))
        (pair_read h l text a b bs (ih bs f))
    go ih (yes a) (yes b) none f = absurd (none-ne-some id (sym (unhex-pair h l text none a b f) ∙ e))
    go ih (yes a) (no b) o f = absurd (none-ne-some id (sym (unhex-bad-low h l text (omega arith)) ∙ e))
    go ih (no a) b o f = absurd (none-ne-some id (sym (unhex-bad-high h l text (omega arith)) ∙ e))

pub unhex-bytes : (text bytes : List ℕ) → unhex text ≡ some bytes → Bytes bytes
unhex-bytes text bytes e = (unhex-read text bytes e).bytes

module _ (text id : List ℕ) (parsed : parse_uid text ≡ some id) where
  unhexed : (length text ≤ 32) × (unhex text ≡ some id)
  unfolding parse_uid
  unhexed = go (leb (length text) 32) refl parsed
    where
      go : (b : Bool) → leb (length text) 32 ≡ b → cond b (unhex text) none ≡ some id
          → (length text ≤ 32) × (unhex text ≡ some id)
      go true e h = (leb-true (length text) 32 e, h)
      go false e h = absurd (none-ne-some id h)

  read : Read text id
  read = unhex-read text id unhexed.1

  pub written-of-parsed : hex_text id ≡ lower text
  written-of-parsed = read.written

  pub parsed-even : length text ≡ 2 * length id
  parsed-even = read.digits

  pub parsed-short : length text ≤ 32
  parsed-short = unhexed.0

  pub parsed-bytes : Bytes id
  parsed-bytes = read.bytes
