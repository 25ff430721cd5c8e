-- Lemmas for each path through reading an id's text, from the facts that hold there.
use Prim.Native.Nat.{ℕ, suc, ◌+◌, ◌*◌, ◌/◌, ◌%◌, ◌<◌, ◌≤◌}
use mathlib.Core.Bool.{Bool, true, false, cond, ◌&&◌}
use mathlib.Core.List.{List, [], ◌∷◌, ◌++◌, append_assoc, append-nil}
use mathlib.Core.Option.{Option, none, some}
use mathlib.Core.Path.{◌≡◌, refl, sym, ◌∙◌, ap}
use native.Mathlib.Decide.{dec_lt}
use native.Mathlib.Nat.{add-zero}
use native.Mathlib.Numerals.{add-one}
use native.Mathlib.Omega.{arith}
use lib.Dec.{ltb}
use lib.ListN.{length, take, drop, get_or, set, replicate, take-append-drop, drop_of_length-le}
use lib.Seq.{drop-cons, drop-drop, drop-set-lt, take-suc-set, length-take-le}
use borrow.Author.Tests.{lt-leb, le-leb}
use Rattle.std.specs.Option.{MatchOption, ok_or}
use Rattle.std.specs.Prelude.{Option as Found, None, Some, Result, Ok, Err}
use Rattle.std.specs.Simd.{first_chunks}
use Rattle.lore.proofs.Chunks.{get_or-chunk}
use Rattle.paper.specs.Hearing.{on_some}
use Rattle.paper.specs.Text.{digit, unhex, parse_uid}
use Rattle.paper.proofs.Hex.{unhex-pair, unhex-bad-high, unhex-bad-low}
use Rattle.ids.proofs.Ways.{id-is}
use Rattle.ids.specs.declared.Id.{Id}
use Rattle.text.specs.declared.BadText.{BadText}
use Rattle.text.specs.Texts.{parsed}

-- The bytes read so far joined with those of the rest, or none if the rest cannot be read.
abbrev pub Joined : List ℕ → Option (List ℕ) → Option (List ℕ)
Joined front rest = on_some rest none (λ bytes. some (front ++ bytes))

pub none_read : (rest : Option (List ℕ)) → Joined [] rest ≡ rest
none_read none = refl
none_read (some bytes) = refl

joined-more : (front : List ℕ) (v : ℕ) (rest : Option (List ℕ))
    → Joined (front ++ (v ∷ [])) rest ≡ Joined front (on_some rest none (λ bytes. some (v ∷ bytes)))
joined-more front v none = refl
joined-more front v (some bytes) = ap some (append_assoc front (v ∷ []) bytes)

unhex-odd : (text : List ℕ) → length text % 2 ≡ 1 → unhex text ≡ none
unfolding unhex
unhex-odd [] h = absurd (omega arith)
unhex-odd (c ∷ []) h = refl
unhex-odd (c ∷ d ∷ text) h = go (unhex-odd text (omega arith)) (ltb (digit c) 16 && ltb (digit d) 16)
  where
    go : unhex text ≡ none → (b : Bool)
        → cond b (on_some (unhex text) none (λ bytes. some ((digit c * 16 + digit d) ∷ bytes))) none ≡ none
    go e true = rw e
    go e false = refl

-- What a digit that is read is, and what one that is not read is.
abbrev pub Digit : Found ℕ → ℕ → Type 0
Digit o c = MatchOption o (digit c ≡ 16) (λ v. (v ≡ digit c) × (v < 16))

pub bad_digit : (o : Found ℕ) (c : ℕ) (e : BadText) → Digit o c → Err e ≡ ok_or o (record {}) → digit c ≡ 16
bad_digit None c e d q = d
bad_digit (Some v) c e d q = cc

pub good_digit : (o : Found ℕ) (c v : ℕ) → Digit o c → Ok v ≡ ok_or {E = BadText} o (record {})
    → (v ≡ digit c) × (v < 16)
good_digit None c v d q = cc
good_digit (Some w) c v d q = let e : v ≡ w = cc in rw e d

module _ (text : List ℕ) where
  -- The text is refused: it is too long, or it is not hexadecimal.
  pub refused : (r : Result Id BadText) → r ≡ Err (record {}) → (length text ≤ 32 → unhex text ≡ none)
      → r ≡ parsed (parse_uid text)
  unfolding parsed parse_uid
  refused r bad h =
      elim (dec_lt 32 (length text)) [
        | yes g ↦ rw (lt-leb (length text) 32 g) bad
        | no g ↦ rw (le-leb (length text) 32 (omega arith), h (omega arith)) bad
      ]

  pub odd : (r : Result Id BadText) (rest : List ℕ) → r ≡ Err (record {}) → length rest ≡ length text % 2
      → (length rest ≡ 0 → ⊥) → r ≡ parsed (parse_uid text)
  odd r rest bad e n = refused r bad (λ h. unhex-odd text one)
    where
      one : length text % 2 ≡ 1
      one = elim (dec_lt (length rest) 1) [ yes l ↦ absurd (n (omega arith)) | no l ↦ omega arith ]

module _ (text out : List ℕ) (i : ℕ) (inv : Joined (take i out) (unhex (drop (2 * i) text)) ≡ unhex text) where
  module _ (pairs : List (List ℕ)) (is : pairs ≡ first_chunks 2 (length text / 2) text)
      (many : length pairs ≡ length text / 2) (h : i < length pairs) where
    two : drop (2 * i) text ≡ get_or (get_or pairs i []) 0 0 ∷ get_or (get_or pairs i []) 1 0 ∷ drop (2 * (i + 1)) text
    two =
        let a : get_or (get_or pairs i []) 0 0 ≡ get_or text (2 * i) 0 =
        rw is (simp add-zero at (get_or-chunk 2 (length text / 2) text i 0 0 (omega arith) (omega arith))) in
        let one : 2 * i + 1 ≡ suc (2 * i) = omega arith in
        let b : get_or (get_or pairs i []) 1 0 ≡ get_or text (suc (2 * i)) 0 =
        rw is (rw one at (get_or-chunk 2 (length text / 2) text i 1 0 (omega arith) (omega arith))) in
        let after : 2 * (i + 1) ≡ suc (suc (2 * i)) = omega arith in
        rw (a, b, after) (drop-cons text (2 * i) 0 (omega arith)
        ∙ ap (get_or text (2 * i) 0 ∷◌) (drop-cons text (suc (2 * i)) 0 (omega arith)))

    none_of : unhex (drop (2 * i) text) ≡ none → unhex text ≡ none
    none_of e = sym inv ∙ ap (Joined (take i out)) e

    pub bad-high : digit (get_or (get_or pairs i []) 0 0) ≡ 16 → unhex text ≡ none
    bad-high g = none_of (ap unhex two ∙ unhex-bad-high (get_or (get_or pairs i []) 0 0) (get_or (get_or pairs i []) 1 0)
        (drop (2 * (i + 1)) text) (omega arith))

    pub bad-low : digit (get_or (get_or pairs i []) 1 0) ≡ 16 → unhex text ≡ none
    bad-low g = none_of (ap unhex two ∙ unhex-bad-low (get_or (get_or pairs i []) 0 0) (get_or (get_or pairs i []) 1 0)
        (drop (2 * (i + 1)) text) (omega arith))

    pub read_more : (u v : ℕ) → (u ≡ digit (get_or (get_or pairs i []) 0 0)) × (u < 16)
        → (v ≡ digit (get_or (get_or pairs i []) 1 0)) × (v < 16) → i < length out
        → Joined (take (i + 1) (set out i (u * 16 + v))) (unhex (drop (2 * (i + 1)) text)) ≡ unhex text
    read_more u v (eu, a) (ev, b) room =
        ap (λ (front : List ℕ). Joined front rest) stored
        ∙ joined-more (take i out) (u * 16 + v) rest
        ∙ ap (Joined (take i out)) (sym pair)
        ∙ inv
      where
        rest : Option (List ℕ)
        rest = unhex (drop (2 * (i + 1)) text)

        pair : unhex (drop (2 * i) text) ≡ on_some rest none (λ bytes. some ((u * 16 + v) ∷ bytes))
        pair = rw (two, eu, ev) (unhex-pair (get_or (get_or pairs i []) 0 0) (get_or (get_or pairs i []) 1 0)
            (drop (2 * (i + 1)) text) rest (omega arith) (omega arith) refl)

        stored : take (i + 1) (set out i (u * 16 + v)) ≡ take i out ++ ((u * 16 + v) ∷ [])
        stored = rw (add-one i) (take-suc-set out i (u * 16 + v) room)

  pub read_all : (n : ℕ) (rest : List ℕ) → n ≡ length text / 2 → length rest ≡ length text % 2 → length rest ≡ 0
      → n ≤ 16 → i ≤ n → n ≤ i → length out ≡ 16 → drop i out ≡ drop i (replicate 16 0)
      → Ok (record { bytes = out; len = n }) ≡ parsed (parse_uid text)
  unfolding parsed parse_uid unhex
  read_all n rest en er even short h g long zeros =
      rw (le-leb (length text) 32 (omega arith), ← inv, past, append-nil (take i out))
      (ap (λ (x : Id). Ok x)
      (id-is (take i out) out n (omega (arith, size)) (rw (size, ← zeros) (sym (take-append-drop i out)))))
    where
      size : length (take i out) ≡ i
      size = length-take-le i out (omega arith)

      past : drop (2 * i) text ≡ []
      past = drop_of_length-le text {i = 2 * i} (omega arith)

pub zero_more : (out : List ℕ) (i v : ℕ) → drop i out ≡ drop i (replicate 16 0)
    → drop (i + 1) (set out i v) ≡ drop (i + 1) (replicate 16 0)
zero_more out i v e = drop-set-lt (i + 1) out i v (omega arith) ∙ sym (drop-drop 1 i out) ∙ ap (drop 1) e
    ∙ drop-drop 1 i (replicate 16 0)
