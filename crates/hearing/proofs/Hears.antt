-- The loop of `hearing::hear`, compared with what the paper hears in the record.
use Prim.Native.Nat.{ℕ, zero, suc, ◌+◌, ◌^◌, ◌<◌, ◌≤◌}
use mathlib.Core.Bool.{Bool, true, false, cond}
use mathlib.Core.List.{List, [], ◌∷◌, ◌++◌, append-nil, append_assoc}
use mathlib.Core.Option.{Option, none, some}
use mathlib.Core.Path.{◌≡◌, refl, sym, ◌∙◌, ap}
use native.Mathlib.Omega.{arith}
use native.Mathlib.Nat.{add-zero}
use lib.ListN.{length, take, drop, length-drop, drop_of_length-le}
use mir.Syntax.{w64}
use mir.Val.{Fits}
use lib.Seq.{drop-drop}
use lib.Dec.{eqb}
use borrow.Author.Tests.{ne_eqb}
use Rattle.std.specs.Prelude.{Result, Ok}
use Rattle.paper.proofs.Readings.{Read, read_known, frames-first, frames-none}
use Rattle.paper.specs.Frame as Paper
use Rattle.paper.specs.Frame.{read, size, short, too_long, bad_check, whole}
use Rattle.paper.specs.Hearing.{hear, frames, replies, replies_heard, on_some, clean, one, unaddressed, garble}
use Rattle.reader.specs.declared.Frame.{Frame}
use Rattle.reader.specs.declared.Unread.{Unread}
use Rattle.reader.specs.Shown.{frame_at, shown_from}
use Rattle.hearing.specs.declared.Hearing.{Hearing}
use Rattle.hearing.specs.declared.Hearing.TheVariants.{Unaddressed, Garble}
use Rattle.hearing.specs.declared.Replies.{Replies}
use Rattle.hearing.specs.declared.Replies.TheVariants.{None, One, Several}
use Rattle.hearing.specs.Heard.{Within, on_replies, one_heard, noted, concluded, shown_heard}
use Rattle.hearing.proofs.Shows.{Shows, shows, end_is, inside}

-- The code's replies, and the paper's replies that they represent.
pub data Stands (bytes : List ℕ) : List Paper.Frame → Replies → Type 0 where
  no-reply : Stands bytes [] None
  one-reply : (p : Paper.Frame) (f : Frame) → f.status ≡ p.status → f.payload + f.len ≤ length bytes
      → take f.len (drop f.payload bytes) ≡ p.payload → Stands bytes (p ∷ []) (One f)
  more-replies : (p q : Paper.Frame) (ps : List Paper.Frame) → Stands bytes (p ∷ q ∷ ps) Several

-- The loop at a place: what is heard from there on, within the frames left and with the replies seen, is what is heard
-- in the whole record.
pub record Reach (bytes : List ℕ) (at : ℕ) (rs : Replies) : Type 0 where
  pub left : ℕ
  pub enough : length bytes ≤ at + left
  pub seen : List Paper.Frame
  pub stands : Stands bytes seen rs
  pub same : on_some (frames left (drop at bytes)) garble (λ fs. replies_heard (seen ++ replies fs)) ≡ hear bytes

pub begun : (bytes : List ℕ) → Reach bytes 0 None
unfolding hear
begun bytes = record { left = length bytes; enough = omega arith; seen = []; stands = no-reply; same = refl }

-- The replies still represent the paper's after one more frame.
stands-noted : (bytes : List ℕ) (at : ℕ) (p : Paper.Frame) (seen : List Paper.Frame) (rs : Replies)
    → at + size p ≤ length bytes
    → take (length p.payload) (drop (at + 10) bytes) ≡ p.payload → Stands bytes seen rs
    → Stands bytes (cond (eqb p.status 0) seen (seen ++ p ∷ [])) (noted rs (frame_at at p))
unfolding noted
stands-noted bytes at p seen rs room body s = go (eqb p.status 0) s
  where
    go : {seen : List Paper.Frame} {rs : Replies} (b : Bool) → Stands bytes seen rs
        → Stands bytes (cond b seen (seen ++ p ∷ []))
        (cond b rs (on_replies rs (One (frame_at at p)) (λ g. Several) Several))
    go true s = s
    go false no-reply = one-reply p (frame_at at p) refl (omega arith) body
    go false (one-reply q g es w eb) = more-replies q p []
    go false (more-replies q r qs) = more-replies q r (qs ++ p ∷ [])

stands-within : {bytes : List ℕ} {seen : List Paper.Frame} {rs : Replies} → Stands bytes seen rs → Within bytes rs
stands-within no-reply = tt
stands-within (one-reply p f es w eb) = w
stands-within (more-replies p q ps) = tt

stands-concluded : {bytes : List ℕ} {seen : List Paper.Frame} {rs : Replies} → Stands bytes seen rs
    → concluded bytes rs ≡ shown_heard (replies_heard seen)
unfolding concluded replies_heard
stands-concluded no-reply = refl
stands-concluded (one-reply p f es w eb) = rw (es, eb) (go (eqb p.status 1) (eqb p.status 2))
  where
    go : (a b : Bool) → cond a (one_heard p.payload) (cond b Unaddressed Garble)
        ≡ shown_heard (cond a (one p.payload) (cond b unaddressed garble))
    go true b = refl
    go false true = refl
    go false false = refl
stands-concluded (more-replies p q ps) = refl

-- Any reading other than a whole frame, in the form of the code's test.
abbrev pub Unfit : Result Frame Unread → Type 0
Unfit x = (f : Frame) → x ≡ Ok f → ⊥

unfit-unclean : (at : ℕ) (y : Paper.Reading) → Unfit (shown_from at y) → clean y ≡ none
unfolding clean
unfit-unclean at short u = refl
unfit-unclean at too_long u = refl
unfit-unclean at (bad_check k f) u = refl
unfit-unclean at (whole k f) u = absurd (u _ refl)

-- It makes no difference whether a frame is counted with those seen or with those to come.
counted : (p : Paper.Frame) (seen : List Paper.Frame) (o : Option (List Paper.Frame))
    → on_some o garble (λ ps. replies_heard (cond (eqb p.status 0) seen (seen ++ p ∷ []) ++ replies ps))
    ≡ on_some (on_some o none (λ ps. some (p ∷ ps))) garble (λ ps. replies_heard (seen ++ replies ps))
unfolding replies
counted p seen none = refl
counted p seen (some ps) = ap replies_heard (go (eqb p.status 0))
  where
    go : (b : Bool) → cond b seen (seen ++ p ∷ []) ++ replies ps ≡ seen ++ cond b (replies ps) (p ∷ replies ps)
    go true = refl
    go false = append_assoc seen (p ∷ []) (replies ps)

module _ (bytes : List ℕ) (at : ℕ) (rs : Replies) (h : at < length bytes) (r : Reach bytes at rs) where
  first : (n : ℕ) → frames (suc n) (drop at bytes)
      ≡ on_some (clean (read (drop at bytes))) none
      (λ p. on_some (frames n (drop (size p) (drop at bytes))) none (λ ps. some (p ∷ ps)))
  first n = frames-first n (drop at bytes) (omega (arith, length-drop at bytes))

  unclean : clean (read (drop at bytes)) ≡ none → garble ≡ hear bytes
  unclean e = go r.left r.enough r.same
    where
      go : (n : ℕ) → length bytes ≤ at + n
          → on_some (frames n (drop at bytes)) garble (λ ps. replies_heard (r.seen ++ replies ps)) ≡ hear bytes
          → garble ≡ hear bytes
      go zero l q = absurd (omega arith)
      go (suc n) l q = rw (first n, e) at q

  stepped : (p : Paper.Frame) → read (drop at bytes) ≡ whole 0 p → Reach bytes (at + size p) (noted rs (frame_at at p))
  unfolding clean
  stepped p e = go r.left r.enough r.same
    where
      known : Read (drop at bytes) 0 p true
      known = read_known (drop at bytes) 0 p true e

      body : take (length p.payload) (drop (at + 10) bytes) ≡ p.payload
      body = sym (ap (λ (g : Paper.Frame). g.payload) known.frame
          ∙ ap (take (length p.payload)) (drop-drop 10 at bytes))

      go : (n : ℕ) → length bytes ≤ at + n
          → on_some (frames n (drop at bytes)) garble (λ ps. replies_heard (r.seen ++ replies ps)) ≡ hear bytes
          → Reach bytes (at + size p) (noted rs (frame_at at p))
      go zero l q = absurd (omega arith)
      go (suc n) l q =
          record {
            left = n;
            enough = omega arith;
            seen = cond (eqb p.status 0) r.seen (r.seen ++ p ∷ []);
            stands = stands-noted bytes at p r.seen rs (omega (arith, known.room, length-drop at bytes)) body
                r.stands;
            same = counted p r.seen (frames n (drop (at + size p) bytes))
                ∙ (rw (first n, e, drop-drop (size p) at bytes) at q);
          }

  module _ (x : Result Frame Unread) (e : x ≡ shown_from at (read (drop at bytes))) where
    pub hears-unfit : Unfit x → (g : Hearing) → g ≡ Garble → g ≡ shown_heard (hear bytes)
    hears-unfit u g q = q ∙ ap shown_heard (unclean (unfit-unclean at (read (drop at bytes)) (rw e at u)))

    module _ (f : Frame) (c : x ≡ Ok f) where
      found : Shows bytes at f true
      found = shows true bytes at x e f c

      pub hears-skipped : (f.payload ≡ at + 10 → ⊥) → (g : Hearing) → g ≡ Garble → g ≡ shown_heard (hear bytes)
      unfolding clean
      hears-skipped z g q = q ∙ ap shown_heard (unclean (rw (found.came, ne_eqb _ _ moved)))
        where
          moved : found.skip ≡ 0 → ⊥
          moved k = z (ap (λ (g : Frame). g.payload) found.shown ∙ omega (arith, k))

      pub ten-fit : length bytes < 2 ^ 64 → Fits w64 (at + 10)
      ten-fit l = omega (arith, inside true bytes at x e f c, end_is bytes at f true found)

      pub further : f.payload ≡ at + 10 → (next : Replies) → next ≡ noted rs f → Reach bytes f.end next
      further z next en = rw (en, shown)
          (stepped found.frame (found.came ∙ ap (λ (k : ℕ). whole k found.frame) skip))
        where
          skip : found.skip ≡ 0
          skip = omega (arith, z, ap (λ (g : Frame). g.payload) found.shown)

          shown : f ≡ frame_at at found.frame
          shown = found.shown ∙ ap (λ (k : ℕ). frame_at (at + k) found.frame) skip
              ∙ ap (λ (a : ℕ). frame_at a found.frame) (add-zero at)

module _ (bytes : List ℕ) (at : ℕ) (rs : Replies) (r : Reach bytes at rs) where
  pub hears-within : Within bytes rs
  hears-within = stands-within r.stands

  pub hears-end : length bytes ≤ at → (g : Hearing) → g ≡ concluded bytes rs → g ≡ shown_heard (hear bytes)
  unfolding replies
  hears-end h g e = e ∙ stands-concluded r.stands
      ∙ ap shown_heard (ap replies_heard (sym (append-nil r.seen))
      ∙ (rw (drop_of_length-le bytes {i = at} h, frames-none) at r.same))
