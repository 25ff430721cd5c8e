-- What holds of every id heard holds of every id that the walk carries. An id heard consists of bytes of its record, at
-- most 1,024 of them.
use Prim.Native.Nat.{ℕ, zero, suc, ◌≤◌}
use mathlib.Core.Bool.{Bool, true, false, ◌&&◌, cond}
use mathlib.Core.List.{List, [], ◌∷◌, ◌++◌}
use mathlib.Core.Option.{Option, none, some}
use mathlib.Core.Path.{◌≡◌, refl}
use lib.Dec.{ltb, eqb}
use lib.ListN.{drop, length}
use Rattle.paper.specs.Count.{All}
use Rattle.paper.specs.Frame.{Frame, most, size, Reading, short, too_long, bad_check, whole, read, status-Request}
use Rattle.paper.specs.Frame.{status-Ok, status-Unsupported}
use Rattle.paper.specs.Hearing.{Id, Prefix, bits_of, matches, on_some, clean, frames, replies, Heard, nothing, one}
use Rattle.paper.specs.Hearing.{unaddressed, garble, replies_heard, hear}
use Rattle.paper.specs.Walk.{is_nothing, done, stopped}
use Rattle.paper.proofs.Readings.{read_known}
use Rattle.paper.proofs.Words.{Bytes}
use Rattle.theory.specs.WalkMachine as Machine
use Rattle.theory.specs.WalkMachine.{Marks, path, Phase, asked, mine, other, leaving, State, Next, going, ended}
use Rattle.theory.specs.WalkMachine.{to, leave, descend, silent, kept, confirming, hears, tell, step}
use Rattle.theory.proofs.EachMember.{all_append}
use Rattle.theory.proofs.frames.FramesReadBack.{bytes_take, bytes_drop}
use Rattle.theory.proofs.walk.SortedIds.{sort-all}

-- P holds of the id that is heard, if there is one.
abbrev pub Telling : (Id → Type 0) → Heard → Type 0
Telling P nothing = Unit {0}
Telling P (one id) = P id
Telling P unaddressed = Unit {0}
Telling P garble = Unit {0}

-- Q holds of the record. If P holds of the payload of every whole frame in such records, it holds of the id heard.
module _ (P : Id → Type 0) (Q : List ℕ → Type 0) (rest : (k : ℕ) (s : List ℕ) → Q s → Q (drop k s))
    (payload : (s : List ℕ) (k : ℕ) (f : Frame) → Q s → read s ≡ whole k f → P f.payload) where
  abbrev Laden : List Frame → Type 0
  Laden fs = All (λ f. P f.payload) fs

  abbrev LadenAny : Option (List Frame) → Type 0
  LadenAny none = Unit {0}
  LadenAny (some fs) = Laden fs

  frames-laden : (n : ℕ) (s : List ℕ) → Q s → LadenAny (frames n s)
  unfolding frames clean
  frames-laden zero s h = tt
  frames-laden (suc n) [] h = tt
  frames-laden (suc n) (b ∷ bs) h = go (λ k. frames-laden n (drop k (b ∷ bs)) (rest k (b ∷ bs) h)) (read (b ∷ bs)) refl
    where
      more : (f : Frame) → P f.payload → (o : Option (List Frame)) → LadenAny o
          → LadenAny (on_some o none (λ fs. some (f ∷ fs)))
      more f p none l = tt
      more f p (some fs) l = (p, l)

      fit : ((k : ℕ) → LadenAny (frames n (drop k (b ∷ bs)))) → (f : Frame) → P f.payload → (b' : Bool)
          → LadenAny (on_some (cond b' (some f) none) none
          (λ f. on_some (frames n (drop (size f) (b ∷ bs))) none (λ fs. some (f ∷ fs))))
      fit ih f p true = more f p (frames n (drop (size f) (b ∷ bs))) (ih (size f))
      fit ih f p false = tt

      go : ((k : ℕ) → LadenAny (frames n (drop k (b ∷ bs)))) → (r : Reading) → read (b ∷ bs) ≡ r
          → LadenAny (on_some (clean r) none
          (λ f. on_some (frames n (drop (size f) (b ∷ bs))) none (λ fs. some (f ∷ fs))))
      go ih short e = tt
      go ih too_long e = tt
      go ih (bad_check k f) e = tt
      go ih (whole k f) e = fit ih f (payload (b ∷ bs) k f h e) (eqb k 0)

  replies-laden : (fs : List Frame) → Laden fs → Laden (replies fs)
  unfolding replies
  replies-laden [] l = tt
  replies-laden (f ∷ fs) l = go (replies-laden fs l.1) (eqb f.status status-Request)
    where
      go : Laden (replies fs) → (b : Bool) → Laden (cond b (replies fs) (f ∷ replies fs))
      go r true = r
      go r false = (l.0, r)

  alone-laden : (fs : List Frame) → Laden fs → Telling P (replies_heard fs)
  unfolding replies_heard
  alone-laden [] l = tt
  alone-laden (f ∷ []) l = go (eqb f.status status-Ok) (eqb f.status status-Unsupported)
    where
      go : (a b : Bool) → Telling P (cond a (one f.payload) (cond b unaddressed garble))
      go true b = l.0
      go false true = tt
      go false false = tt
  alone-laden (f ∷ g ∷ fs) l = tt

  heard-laden : (s : List ℕ) → Q s → Telling P (hear s)
  unfolding hear
  heard-laden s h = go (frames (length s) s) (frames-laden (length s) s h)
    where
      go : (o : Option (List Frame)) → LadenAny o → Telling P (on_some o garble (λ fs. replies_heard (replies fs)))
      go none l = tt
      go (some fs) l = alone-laden (replies fs) (replies-laden fs l)

payload-bytes : (s : List ℕ) (k : ℕ) (f : Frame) → Bytes s → read s ≡ whole k f → Bytes f.payload
payload-bytes s k f h e = rw (read_known s k f true e).frame
    (bytes_take (length f.payload) (drop 10 (drop k s)) (bytes_drop 10 (drop k s) (bytes_drop k s h)))

pub heard-bytes : (s : List ℕ) → Bytes s → Telling Bytes (hear s)
heard-bytes = heard-laden Bytes Bytes bytes_drop payload-bytes

-- In any record: no frame carries more than 1,024 bytes.
pub heard-small : (s : List ℕ) → Telling (λ x. length x ≤ most) (hear s)
heard-small s = heard-laden (λ x. length x ≤ most) (λ r. Unit {0}) (λ k r h. tt)
    (λ r k f h e. (read_known r k f true e).small) s tt

-- P holds of the ids of a phase, of a state, and of what follows a step.
abbrev pub OfPhase : (Id → Type 0) → Phase → Type 0
OfPhase P asked = Unit {0}
OfPhase P (mine id) = P id
OfPhase P (other id good) = P id
OfPhase P leaving = Unit {0}

pub record Carries (P : Id → Type 0) (s : State) : Type 0 where
  pub ids : All P s.ids
  pub candidate : OfPhase P s.phase

abbrev pub CarriesNext : (Id → Type 0) → Next → Type 0
CarriesNext P (going s) = Carries P s
CarriesNext P (ended (done ids)) = All P ids
CarriesNext P (ended (stopped c)) = Unit {0}

module _ (P : Id → Type 0) (pre : Prefix) where
  leave-carries : (marks : Marks) (ids : List Id) → All P ids → CarriesNext P (leave pre marks ids)
  unfolding leave
  leave-carries [] ids a = record { ids = a; candidate = tt }
  leave-carries (false ∷ marks) ids a = record { ids = a; candidate = tt }
  leave-carries (true ∷ marks) ids a = leave-carries marks ids a

  descend-carries : (marks : Marks) (ids : List Id) → All P ids → CarriesNext P (descend pre marks ids)
  unfolding descend
  descend-carries marks ids a = go (ltb (length (path pre marks)) 128)
    where
      go : (b : Bool) → CarriesNext P (cond b (to pre (false ∷ marks) ids asked) (ended (stopped 12)))
      go true = record { ids = a; candidate = tt }
      go false = tt

  kept-carries : (marks : Marks) (ids : List Id) (id : Id) → All P ids → P id → CarriesNext P (kept pre marks ids id)
  unfolding kept
  kept-carries marks ids id a p = go (ltb (length ids) 64)
    where
      go : (b : Bool) → CarriesNext P (cond b (leave pre marks (ids ++ (id ∷ []))) (ended (stopped 15)))
      go true = leave-carries marks (ids ++ (id ∷ [])) (all_append P ids (id ∷ []) a (p, tt))
      go false = tt

  hears-carries : (marks : Marks) (ids : List Id) → All P ids → (h : Heard) → Telling P h
      → CarriesNext P (hears pre marks ids h)
  unfolding hears silent confirming
  hears-carries marks ids a nothing t = quiet marks
    where
      quiet : (marks : Marks) → CarriesNext P (silent pre marks ids)
      quiet [] = leave-carries [] ids a
      quiet (false ∷ ms) = descend-carries (true ∷ ms) ids a
      quiet (true ∷ ms) = leave-carries ms ids a
  hears-carries marks ids a (one id) t = go (matches (path pre marks) id) (drop (length (path pre marks)) (bits_of id))
    where
      go : (b : Bool) (rest : List Bool)
          → CarriesNext P (cond b (confirming pre marks ids id rest) (descend pre marks ids))
      go true [] = kept-carries marks ids id a t
      go true (b ∷ rest) = record { ids = a; candidate = t }
      go false rest = descend-carries marks ids a
  hears-carries marks ids a unaddressed t = tt
  hears-carries marks ids a garble t = descend-carries marks ids a

  tell-carries : (marks : Marks) (ids : List Id) → All P ids → (phase : Phase) → OfPhase P phase → (h : Heard)
      → Telling P h → CarriesNext P (tell pre marks ids phase h)
  unfolding tell
  tell-carries marks ids a asked p h t = hears-carries marks ids a h t
  tell-carries marks ids a (mine id) p h t = record { ids = a; candidate = p }
  tell-carries marks ids a (other id good) p h t = go (good && is_nothing h)
    where
      go : (b : Bool) → CarriesNext P (cond b (kept pre marks ids id) (descend pre marks ids))
      go true = kept-carries marks ids id a p
      go false = descend-carries marks ids a
  tell-carries marks ids a leaving p h t = sort-all P ids a

pub step-carries : (P : Id → Type 0) (s : State) → Carries P s → (h : Heard) → Telling P h → CarriesNext P (step s h)
unfolding step
step-carries P s c h t = go (Machine.too_long s.phase h)
  where
    go : (b : Bool) → CarriesNext P (cond b (ended (stopped 14)) (tell s.pre s.marks s.ids s.phase h))
    go true = tt
    go false = tell-carries P s.pre s.marks s.ids c.ids s.phase c.candidate h t
