-- Lemmas for each path through the writer of a Select.
use Prim.Native.Nat.{ℕ, suc, ◌+◌, ◌-◌, ◌*◌, ◌/◌, ◌%◌, ◌^◌, ◌<◌, ◌≤◌}
use mathlib.Core.Bool.{Bool, true, false, cond}
use mathlib.Core.List.{List, [], ◌∷◌, ◌++◌}
use mathlib.Core.Path.{◌≡◌, refl, sym, ◌∙◌, ap, ap₂}
use native.Mathlib.Decide.{dec_lt, le_ind}
use native.Mathlib.Nat.{zero-div}
use native.Mathlib.Numerals.{add-one}
use native.Mathlib.Omega.{arith}
use lib.Bits.{bit_or}
use lib.Dec.{eqb}
use lib.ListN.{length, take, drop, get_or, set, replicate, length-take, length-append, length-replicate, get_or-replicate}
use lib.ListN.{get_or-append}
use lib.Seq.{take_all, take-suc, length-take-le, drop-drop, get_or-take, get_or-append-add, set-append_left}
use borrow.Author.Tests.{eq-eqb, ne_eqb}
use borrow.Rule.Slice.PartMut.{put_mid}
use Rattle.paper.specs.Frame.{frame_bytes}
use Rattle.paper.specs.Hearing.{bit, bits_of, packed, select_payload, select_frame}
use Rattle.paper.specs.Walk.{◌▹◌}
use Rattle.paper.proofs.Bits.{bits-length, bits_at}
use Rattle.paper.proofs.Packed.{packed-length, packed_zero, packed_none}
use Rattle.lore.proofs.Parts.{part-all, mid-all}
use Rattle.ids.specs.Ids.{bit_of, with_one, set_bit}
use Rattle.ids.proofs.Shift.{one_shl, or-shl}
use Rattle.ids.proofs.Pack.{pack_one}
use Rattle.frame.specs.declared.Head.{Head}
use Rattle.frame.specs.Writing.{head_of, placed, sealed}
use Rattle.frame.proofs.Assembled.{too_short, assembled}
use Rattle.std.specs.Prelude.{Ok, Err}
use Rattle.select.specs.Selects.{asked, bytes_for}

-- `dst[k / 8] |= 1 << (k % 8)` if the bit is 1, and nothing if it is 0.
module _ (d : List ℕ) (x k r : ℕ) (e : r ≡ bit_of x (k % 8)) where
  pub one-put : r ≡ 1 → set d (k / 8) (bit_or (get_or d (k / 8) 0) (1 * 2 ^ (k % 8) % 256))
      ≡ cond (eqb (bit_of x (k % 8)) 1) (set_bit d k) d
  unfolding set_bit
  one-put h =
      rw (eq-eqb (bit_of x (k % 8)) 1 (sym e ∙ h))
      (ap (set d (k / 8)) (ap (bit_or (get_or d (k / 8) 0)) (one_shl (k % 8) (omega arith))
      ∙ or-shl (get_or d (k / 8) 0) (k % 8)))

  pub zero-put : (r ≡ 1 → ⊥) → d ≡ cond (eqb (bit_of x (k % 8)) 1) (set_bit d k) d
  zero-put h = rw (ne_eqb (bit_of x (k % 8)) 1 (λ q. h (e ∙ q)))

-- Setting a bit of the list a leaves the list after it unchanged.
set_front : (a rest : List ℕ) (k : ℕ) → k < 8 * length a → set_bit (a ++ rest) k ≡ set_bit a k ++ rest
unfolding set_bit
set_front a rest k h =
    ap (λ (x : ℕ). set (a ++ rest) (k / 8) (with_one x (k % 8))) (get_or-append a rest 0 (k / 8) (omega arith))
    ∙ set-append_left a rest (k / 8) (with_one (get_or a (k / 8) 0) (k % 8)) (omega arith)

-- The first k bits packed into n bytes, and then one more.
module _ (n : ℕ) (q : List Bool) (k : ℕ) (h : k < length q) (room : length q ≤ 8 * n) where
  bit-more : cond (get_or q k false) (set_bit (packed n (take k q)) k) (packed n (take k q)) ≡ packed n (take (k + 1) q)
  bit-more = go (get_or q k false)
      ∙ ap (packed n) (sym (take-suc q k false h) ∙ ap (λ (m : ℕ). take m q) (sym (add-one k)))
    where
      so-many : length (take k q) ≡ k
      so-many = length-take-le k q (omega arith)

      go : (b : Bool) → cond b (set_bit (packed n (take k q)) k) (packed n (take k q)) ≡ packed n (take k q ▹ b)
      go true = ap (set_bit (packed n (take k q))) (sym so-many) ∙ sym (pack_one n (take k q) (omega (arith, so-many)))
      go false = sym (packed_zero n (take k q))

-- There are as many bits as asked for.
asked-length : (bits : List ℕ) (count : ℕ) → length bits ≡ 16 → count < 256 → length (asked bits count) ≡ count
asked-length bits count long h =
    omega (
      arith,
      length-take count (bits_of bits ++ replicate 127 false),
      length-append (bits_of bits) (replicate 127 false),
      bits-length bits,
      length-replicate 127 false,
    )

-- The loop of `put_bits`: the bits of a prefix, set one by one in bytes that were zeroed.
module _ (bits : List ℕ) (count : ℕ) (long : length bits ≡ 16) (small : count < 256) where
  abbrev q : List Bool
  q = asked bits count

  abbrev n : ℕ
  n = bytes_for count

  -- A bit asked for: within the 16 bytes, and after them.
  asked-bit : (k : ℕ) → k < count → k < 128 → get_or q k false ≡ eqb (bit_of (get_or bits (k / 8) 0) (k % 8)) 1
  unfolding bit
  asked-bit k h l =
      get_or-take count (bits_of bits ++ replicate 127 false) k false h
      ∙ get_or-append (bits_of bits) (replicate 127 false) false k (omega (arith, bits-length bits))
      ∙ bits_at bits k (omega arith)

  asked-after : (i : ℕ) → 128 ≤ i → i < count → get_or q i false ≡ false
  asked-after i h l =
      let e : length (bits_of bits) + (i - 128) ≡ i = omega (arith, bits-length bits) in
      get_or-take count (bits_of bits ++ replicate 127 false) i false l
      ∙ ap (λ (j : ℕ). get_or (bits_of bits ++ replicate 127 false) j false) (sym e)
      ∙ get_or-append-add (bits_of bits) (replicate 127 false) (i - 128) false
      ∙ get_or-replicate 127 (i - 128) false false (omega arith)

  -- Bits that are 0 need not be put.
  passed : (k m : ℕ) → k ≤ m → ((i : ℕ) → k ≤ i → i < m → i < count → get_or q i false ≡ false)
      → packed n (take k q) ≡ packed n (take m q)
  passed k m h =
      le_ind (λ (m : ℕ). ((i : ℕ) → k ≤ i → i < m → i < count → get_or q i false ≡ false)
      → packed n (take k q) ≡ packed n (take m q)) (λ none. refl)
      (λ m g ih none. ih (λ i f l. none i f (omega arith)) ∙ go m (none m g (omega arith)) (dec_lt m (length q))) m h
    where
      go : (m : ℕ) → (m < count → get_or q m false ≡ false) → Dec (m < length q)
          → packed n (take m q) ≡ packed n (take (suc m) q)
      go m e (yes h) =
          sym (packed_zero n (take m q))
          ∙ ap (packed n) (ap (take m q ▹◌) (sym (e (omega (arith, asked-length bits count long small))))
          ∙ sym (take-suc q m false h))
      go m e (no h) = ap (packed n) (take_all m q (omega arith) ∙ sym (take_all (suc m) q (omega arith)))

  pub bits_none : (dst f : List ℕ) (m : ℕ) → m ≡ n → n ≤ length dst → f ≡ replicate (length (take m dst)) 0
      → f ++ drop m dst ≡ packed n (take 0 q) ++ drop n dst
  bits_none dst f m em room e =
      ap₂ (λ (x : List ℕ) (k : ℕ). x ++ drop k dst)
      (e ∙ ap (λ (k : ℕ). replicate k 0) (ap (λ (k : ℕ). length (take k dst)) em ∙ length-take-le n dst room)
      ∙ sym (packed_none n)) em

  -- What is put is the first k bits; rest are the bytes after those of the bits.
  module _ (k : ℕ) (d rest : List ℕ) (e : d ≡ packed n (take k q) ++ rest) where
    pub bits-done : count ≤ k → d ≡ packed n q ++ rest
    bits-done g = e ∙ ap (λ (x : List Bool). packed n x ++ rest)
        (take_all k q (omega (arith, asked-length bits count long small)))

    bits-after : 128 ≤ k → d ≡ packed n q ++ rest
    bits-after g =
        let all : take (k + count) q ≡ q =
        take_all (k + count) q (omega (arith, asked-length bits count long small)) in
        e ∙ ap (λ (x : List ℕ). x ++ rest)
        (passed k (k + count) (omega arith) (λ i l u m. asked-after i (omega arith) m) ∙ ap (packed n) all)

  module _ (i : ℕ) (d rest : List ℕ) where
    pub bits-over : 16 ≤ i → d ≡ packed n (take (8 * i) q) ++ rest → d ≡ packed n q ++ rest
    bits-over g e = bits-after (8 * i) d rest e (omega arith)

    pub bits-passed : i < 16 → get_or bits i 0 ≡ 0 → d ≡ packed n (take (8 * i) q) ++ rest
        → d ≡ packed n (take (8 * (i + 1)) q) ++ rest
    bits-passed h z e = e ∙ ap (λ (x : List ℕ). x ++ rest) (passed (8 * i) (8 * (i + 1)) (omega arith) none)
      where
        none : (j : ℕ) → 8 * i ≤ j → j < 8 * (i + 1) → j < count → get_or q j false ≡ false
        none j g l m =
            let byte : j / 8 ≡ i = omega arith in
            asked-bit j m (omega arith) ∙ ap (λ (x : ℕ). eqb (bit_of x (j % 8)) 1)
            (ap (λ (a : ℕ). get_or bits a 0) byte ∙ z) ∙ rw zero-div

    module _ (k : ℕ) where
      pub byte-done : k ≤ 8 * i + 8 → 8 * i + 8 ≤ k → d ≡ packed n (take k q) ++ rest
          → d ≡ packed n (take (8 * (i + 1)) q) ++ rest
      byte-done h g e =
          let same : k ≡ 8 * (i + 1) = omega arith in
          e ∙ ap (λ (j : ℕ). packed n (take j q) ++ rest) same

      pub bits-more : (d' : List ℕ) → i < 16 → 8 * i ≤ k → k < 8 * i + 8 → k < count
          → d ≡ packed n (take k q) ++ rest
          → d' ≡ cond (eqb (bit_of (get_or bits i 0) (k % 8)) 1) (set_bit d k) d
          → d' ≡ packed n (take (k + 1) q) ++ rest
      bits-more d' l f g h e e' =
          e'
          ∙ ap₂ (λ (b : Bool) (x : List ℕ). cond b (set_bit x k) x)
          (ap (λ (a : ℕ). eqb (bit_of (get_or bits a 0) (k % 8)) 1) byte ∙ sym (asked-bit k h (omega arith))) e
          ∙ go (get_or q k false)
          ∙ ap (λ (x : List ℕ). x ++ rest)
          (bit-more n q k (omega (arith, asked-length bits count long small))
          (omega (arith, asked-length bits count long small)))
        where
          byte : i ≡ k / 8
          byte = omega arith

          go : (b : Bool) → cond b (set_bit (packed n (take k q) ++ rest) k) (packed n (take k q) ++ rest)
              ≡ cond b (set_bit (packed n (take k q)) k) (packed n (take k q)) ++ rest
          go true = set_front (packed n (take k q)) rest k (rw (packed-length n (take k q)) (omega arith))
          go false = refl

module _ (seed : ℕ) (bits : List ℕ) (count : ℕ) (long : length bits ≡ 16) (small : count < 256) where
  payload-is : select_payload seed (asked bits count) ≡ seed ∷ count ∷ packed (bytes_for count) (asked bits count)
  unfolding select_payload
  payload-is = rw (asked-length bits count long small)

  payload-length : length (select_payload seed (asked bits count)) ≡ 2 + bytes_for count
  payload-length = omega (arith, ap length payload-is, packed-length (bytes_for count) (asked bits count))

  pub payload-put : (dst d₁ d₂ : List ℕ) → d₁ ≡ (seed ∷ count ∷ []) ++ drop 2 dst
      → d₂ ≡ packed (bytes_for count) (asked bits count) ++ drop (bytes_for count) (take (length d₁ - 2) (drop 2 d₁))
      → put_mid 2 (length d₁ - 2) d₁ d₂ ≡ select_payload seed (asked bits count) ++ drop (2 + bytes_for count) dst
  payload-put dst d₁ d₂ e₁ e₂ =
      mid-all 2 d₁ d₂
      ∙ ap₂ (λ (x y : List ℕ). x ++ y) (ap (take 2) e₁)
      (e₂ ∙ ap (λ (r : List ℕ). packed (bytes_for count) (asked bits count) ++ drop (bytes_for count) r)
      (part-all 2 d₁ ∙ ap (drop 2) e₁)
      ∙ ap (λ (r : List ℕ). packed (bytes_for count) (asked bits count) ++ r) (drop-drop (bytes_for count) 2 dst))
      ∙ ap (λ (x : List ℕ). x ++ drop (2 + bytes_for count) dst) (sym payload-is)

  abbrev head : Head
  head = record { command = 5; status = 0; flags = 0; address = 0 }

  module _ (buf : List ℕ) (n : ℕ) (en : n ≡ bytes_for count) where
    sized : length (select_payload seed (asked bits count)) ≡ 2 + n
    sized = payload-length ∙ ap (λ (k : ℕ). 2 + k) (sym en)

    pub select_short : length buf < 2 + n + 12
        → record { answer = Err (record { needed = 2 + n + 12 }); bytes = buf }
        ≡ placed (frame_bytes (select_frame seed (asked bits count))) buf
    select_short k = too_short head (select_payload seed (asked bits count)) buf (2 + n) sized k

    pub select-wrote : (d₁ d₂ d₃ : List ℕ) → 2 + n + 12 ≤ length buf → d₁ ≡ head_of head (2 + n) ++ drop 10 buf
        → d₂ ≡ select_payload seed (asked bits count) ++ drop (2 + bytes_for count) (take (length d₁ - 10) (drop 10 d₁))
        → d₃ ≡ sealed (2 + n + 10) (put_mid 10 (length d₁ - 10) d₁ d₂)
        → record { answer = Ok (2 + n + 12); bytes = d₃ }
        ≡ placed (frame_bytes (select_frame seed (asked bits count))) buf
    select-wrote d₁ d₂ d₃ room e₁ e₂ e₃ =
        assembled head (select_payload seed (asked bits count)) buf (2 + n) sized d₁ d₂ d₃ e₁
        (e₂ ∙ ap (λ (k : ℕ). select_payload seed (asked bits count)
        ++ drop (2 + k) (take (length d₁ - 10) (drop 10 d₁))) (sym en)) room e₃
