-- The bits that the code's walk selects are those that the machine selects.
use Prim.Native.Nat.{ℕ, zero, suc, ◌+◌, ◌<◌, ◌≤◌}
use mathlib.Core.Bool.{Bool, true, false, not, cond}
use mathlib.Core.List.{List, [], ◌∷◌}
use mathlib.Core.Path.{◌≡◌, refl, sym, ◌∙◌, ap, ap₂}
use native.Mathlib.Omega.{arith}
use lib.Dec.{leb}
use lib.ListN.{length, drop, get_or, replicate, length-append}
use lib.Seq.{take-append-le}
use borrow.Author.Tests.{le-leb, leb-true}
use Rattle.paper.specs.Hearing as Paper
use Rattle.paper.specs.Hearing.{Prefix, bit, counting, bits_of, packed}
use Rattle.paper.specs.Walk.{◌▹◌, nobody}
use Rattle.paper.proofs.Bits.{bits-length}
use Rattle.paper.proofs.Packed.{packed-length, packed_zero, packed-read}
use Rattle.theory.specs.WalkMachine.{path, Phase, asked, mine, other, leaving, State, next_bit, bit_after, request}
use Rattle.theory.proofs.walk.StatesFit.{Held, Fits}
use Rattle.ids.specs.Ids.{set_bit, id_of, id_from}
use Rattle.ids.proofs.Laws.{id-of-from}
use Rattle.ids.proofs.Pack.{pack_one}
use Rattle.walk.specs.declared.Ask.{Ask}
use Rattle.walk.specs.declared.Walk.{Walk}
use Rattle.walk.specs.declared.Phase as P
use Rattle.walk.specs.declared.Phase.TheVariants.{Asked, Mine, Other, Leaving}
use Rattle.walk.specs.Moves as Moves
use Rattle.refinement.specs.CodeWalk.{phase_of, candidate_of, standing_at, walk_of}
use Rattle.refinement.specs.WalkDriven.{bits_asked}

after : (l : List Bool) (k : ℕ) → get_or l k false ≡ bit_after (drop k l)
unfolding bit_after
after [] zero = refl
after [] (suc k) = refl
after (b ∷ l) zero = refl
after (b ∷ l) (suc k) = after l k

-- The code's request for a prefix.
abbrev pub ask_of : Prefix → Ask
ask_of q = record { bits = packed 16 q; count = length q }

child-sim : (w : Walk) (q : Prefix) (b : Bool) → w.place.path ≡ packed 16 q → w.place.depth ≡ length q → length q < 128
    → Moves.child w b ≡ ask_of (q ▹ b)
unfolding Moves.child
child-sim w q true e f h = λ i. record {
  bits = (ap₂ set_bit e f ∙ sym (pack_one 16 q h)) i;
  count = (ap (λ (k : ℕ). k + 1) f ∙ sym (length-append q (true ∷ []))) i;
}
child-sim w q false e f h = λ i. record
    { bits = (e ∙ sym (packed_zero 16 q)) i; count = (ap (λ (k : ℕ). k + 1) f ∙ sym (length-append q (false ∷ []))) i }

next-is : (q : Prefix) (id : Paper.Id) → length id ≤ 16
    → get_or (bits_of (id_of (id_from id))) (length q) false ≡ next_bit q id
unfolding next_bit
next-is q id s = ap (λ (x : List ℕ). get_or (bits_of x) (length q) false) (id-of-from id s) ∙ after (bits_of id) (length q)

-- The code's request for a prefix asks for that prefix.
pub asked-back : (q : Prefix) → length q ≤ 128 → bits_asked (ask_of q) ≡ q
asked-back q h = take-append-le (length q) (bits_of (packed 16 q)) (replicate 127 false)
    (rw (bits-length (packed 16 q), packed-length 16 q) h) ∙ packed-read 16 q h

pub nobody-back : bits_asked Moves.nobody ≡ nobody
unfolding Moves.nobody nobody bits_of counting bit
nobody-back = refl

-- The code's walk selects what the machine selects.
pub asks-sim : (s : State) → Fits s → bits_asked (Moves.asks (walk_of s) (phase_of s.phase)) ≡ request s
unfolding Moves.asks request
asks-sim s t = rw (le-leb (length (path s.pre s.marks)) 128 t.depth) (go s.phase t.held)
  where
    q : Prefix
    q = path s.pre s.marks

    go : (p : Phase) → Held (path s.pre s.marks) p
        → bits_asked (Moves.on_phase (phase_of p) (ask_of (path s.pre s.marks))
        (Moves.child (standing_at s.pre s.marks s.ids (candidate_of p))
        (Moves.next_bit (standing_at s.pre s.marks s.ids (candidate_of p))))
        (λ good. Moves.child (standing_at s.pre s.marks s.ids (candidate_of p))
        (not (Moves.next_bit (standing_at s.pre s.marks s.ids (candidate_of p))))) Moves.nobody)
        ≡ request (record { pre = s.pre; marks = s.marks; ids = s.ids; phase = p })
    go asked w = asked-back q t.depth
    go (mine id) w =
        ap bits_asked (child-sim (standing_at s.pre s.marks s.ids (id_from id)) q _ refl refl
        (omega (arith, w.0, w.1)) ∙ ap (λ (b : Bool). ask_of (q ▹ b)) (next-is q id w.0))
        ∙ asked-back (q ▹ next_bit q id) (omega (arith, w.0, w.1, length-append q (next_bit q id ∷ [])))
    go (other id good) w =
        ap bits_asked (child-sim (standing_at s.pre s.marks s.ids (id_from id)) q _ refl refl
        (omega (arith, w.0, w.1)) ∙ ap (λ (b : Bool). ask_of (q ▹ not b)) (next-is q id w.0))
        ∙ asked-back (q ▹ not (next_bit q id)) (omega (arith, w.0, w.1, length-append q (not (next_bit q id) ∷ [])))
    go leaving w = nobody-back

-- A request of any walk has at most 129 bits.
pub asks-count : (w : Walk) (p : P.Phase) → (Moves.asks w p).count ≤ 129
unfolding Moves.asks Moves.child Moves.nobody
asks-count w p = go (leb w.place.depth 128) refl p
  where
    go : (b : Bool) → leb w.place.depth 128 ≡ b → (p : P.Phase)
        → (cond b (Moves.on_phase p (record { bits = w.place.path; count = w.place.depth }) (Moves.child w (Moves.next_bit w))
        (λ good. Moves.child w (not (Moves.next_bit w))) Moves.nobody) Moves.nobody).count ≤ 129
    go true e Asked = omega (arith, leb-true w.place.depth 128 e)
    go true e Mine = omega (arith, leb-true w.place.depth 128 e)
    go true e (Other good) = omega (arith, leb-true w.place.depth 128 e)
    go true e Leaving = omega arith
    go false e p = omega arith
