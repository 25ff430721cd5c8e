-- The walk machine runs document 01's discovery: on every wire it ends the same way after the same Selects.
use Prim.Native.Nat.{ℕ, zero, suc, ◌+◌, ◌-◌, ◌≤◌}
use mathlib.Core.Bool.{Bool, true, false, ◌&&◌, not, cond}
use mathlib.Core.List.{List, [], ◌∷◌, ◌++◌}
use mathlib.Core.Path.{◌≡◌, refl, sym, ◌∙◌, ap}
use native.Mathlib.Omega.{arith}
use lib.Dec.{ltb}
use lib.ListN.{drop, length, length-append}
use borrow.Author.Tests.{ltb-false, ltb-true}
use Rattle.paper.specs.Count.{limit}
use Rattle.paper.specs.Hearing.{Id, Prefix, bits_of, matches, Heard, nothing, one, unaddressed, garble}
use Rattle.paper.specs.Walk.{◌▹◌, Walk, return, stop, select, ◌>>=◌, long, ask, is_nothing, is_one, confirm_rest, confirm}
use Rattle.paper.specs.Walk.{keep, judge, walk, sort, nobody, discover, Wire, done, stopped, run}
use Rattle.theory.specs.WalkMachine.{Marks, path, Phase, asked, mine, other, leaving, State, Next, going, ended}
use Rattle.theory.specs.WalkMachine.{bit_after, next_bit, request, to, leave, descend, silent, kept, confirming}
use Rattle.theory.specs.WalkMachine.{hears, tell, too_long, step, start, drive}
use Rattle.theory.proofs.walk.SelectsBounded.{discover-bound}
use Rattle.theory.proofs.walk.RunEquations.{down, walk-judge, walk-nothing}

pub bind_assoc : {A B C : Type 0} (m : Walk A) (f : A → Walk B) (g : B → Walk C)
    → m >>= f >>= g ≡ m >>= (λ a. f a >>= g)
unfolding ◌>>=◌
bind_assoc (return a) f g = refl
bind_assoc (stop c) f g = refl
bind_assoc (select p m) f g = λ i. select p (λ h. bind_assoc (m h) f g i)

module _ (pre : Prefix) where
  -- The levels left below the path.
  abbrev left : Marks → ℕ
  left marks = 128 - length (path pre marks)

  farewell : List Id → Walk (List Id)
  farewell ids = select nobody (λ _. return (sort ids))

  -- The rest of the conversation after the branch at these marks has ended with these ids kept.
  unwind : Marks → List Id → Walk (List Id)
  unwind [] = farewell
  unwind (false ∷ marks) = λ ids.
      (ask (path pre marks ▹ true) >>= λ o. walk (left (true ∷ marks)) (path pre marks ▹ true) ids o) >>= unwind marks
  unwind (true ∷ marks) = unwind marks

  -- The rest of a branch after both children were selected to confirm an id: keep the id, or go on below.
  settle : Marks → List Id → Id → Bool → Walk (List Id)
  settle marks ids id held = cond held (keep ids id) (down (left marks) (path pre marks) ids)

  -- The rest of the conversation from the Select of the path.
  listen : Marks → List Id → Walk (List Id)
  listen [] ids = (ask pre >>= λ h. walk (left []) pre ids h) >>= farewell
  listen (false ∷ marks) ids = down (suc (left (false ∷ marks))) (path pre marks) ids >>= unwind marks
  listen (true ∷ marks) ids = (ask (path pre marks ▹ true) >>= λ o. walk (left (true ∷ marks))
      (path pre marks ▹ true) ids o) >>= unwind marks

  -- The rest of the conversation from the Select of a phase.
  resumes : Marks → List Id → Phase → Walk (List Id)
  resumes marks ids asked = listen marks ids
  resumes marks ids (mine id) = ((do
    m ← ask (path pre marks ▹ next_bit (path pre marks) id)
    o ← ask (path pre marks ▹ not (next_bit (path pre marks) id))
    return (is_one id m && is_nothing o)) >>= settle marks ids id) >>= unwind marks
  resumes marks ids (other id good) = ((do
    o ← ask (path pre marks ▹ not (next_bit (path pre marks) id))
    return (good && is_nothing o)) >>= settle marks ids id) >>= unwind marks
  resumes marks ids leaving = farewell ids

pub resume : State → Walk (List Id)
resume s = resumes s.pre s.marks s.ids s.phase

-- The rest of the conversation after a step of the machine.
unfoldable pub resumed : Next → Walk (List Id)
resumed (going s) = resume s
resumed (ended (done ids)) = return ids
resumed (ended (stopped c)) = stop c

module _ (pre : Prefix) where
  leave-sim : (marks : Marks) (ids : List Id) → unwind pre marks ids ≡ resumed (leave pre marks ids)
  unfolding unwind leave resumed resume resumes listen
  leave-sim [] ids = refl
  leave-sim (false ∷ marks) ids = refl
  leave-sim (true ∷ marks) ids = leave-sim marks ids

  descend-sim : (marks : Marks) (ids : List Id)
      → down (left pre marks) (path pre marks) ids >>= unwind pre marks ≡ resumed (descend pre marks ids)
  unfolding descend resumed resume resumes listen down ◌>>=◌
  descend-sim marks ids = go (ltb (length (path pre marks)) 128) refl
    where
      go : (b : Bool) → ltb (length (path pre marks)) 128 ≡ b
          → down (left pre marks) (path pre marks) ids >>= unwind pre marks
          ≡ resumed (cond b (to pre (false ∷ marks) ids asked) (ended (stopped 12)))
      go true e =
          let n : left pre marks ≡ suc (left pre (false ∷ marks)) =
          omega (arith, ltb-true (length (path pre marks)) 128 e, length-append (path pre marks) (false ∷ [])) in
          rw n
      go false e =
          let n : left pre marks ≡ 0 = omega (arith, ltb-false (length (path pre marks)) 128 e) in
          rw n

  garble-sim : (marks : Marks) (ids : List Id)
      → walk (left pre marks) (path pre marks) ids garble >>= unwind pre marks ≡ resumed (descend pre marks ids)
  unfolding judge
  garble-sim marks ids = rw (walk-judge (left pre marks) (path pre marks) ids garble) (descend-sim marks ids)

  kept-sim : (marks : Marks) (ids : List Id) (id : Id)
      → keep ids id >>= unwind pre marks ≡ resumed (kept pre marks ids id)
  unfolding keep kept ◌>>=◌ resumed
  kept-sim marks ids id = go (ltb (length ids) 64)
    where
      go : (b : Bool) → cond b (return (ids ++ (id ∷ []))) (stop 15) >>= unwind pre marks
          ≡ resumed (cond b (leave pre marks (ids ++ (id ∷ []))) (ended (stopped 15)))
      go true = leave-sim marks (ids ++ (id ∷ []))
      go false = refl

  settle-sim : (marks : Marks) (ids : List Id) (id : Id) (b : Bool)
      → settle pre marks ids id b >>= unwind pre marks
      ≡ resumed (cond b (kept pre marks ids id) (descend pre marks ids))
  unfolding settle
  settle-sim marks ids id true = kept-sim marks ids id
  settle-sim marks ids id false = descend-sim marks ids

  one-sim : (marks : Marks) (ids : List Id) (id : Id)
      → walk (left pre marks) (path pre marks) ids (one id) >>= unwind pre marks
      ≡ resumed (hears pre marks ids (one id))
  unfolding judge hears confirm settle confirm_rest confirming resumed resume resumes next_bit bit_after ◌>>=◌
  one-sim marks ids id = rw (walk-judge (left pre marks) (path pre marks) ids (one id))
      (go (matches (path pre marks) id) (drop (length (path pre marks)) (bits_of id)) refl)
    where
      go : (b : Bool) (rest : List Bool) → drop (length (path pre marks)) (bits_of id) ≡ rest
          → cond b (confirm_rest (path pre marks) id rest)
          (return false) >>= settle pre marks ids id >>= unwind pre marks
          ≡ resumed (cond b (confirming pre marks ids id rest) (descend pre marks ids))
      go true [] e = kept-sim marks ids id
      go true (b ∷ rest) e = rw e
      go false rest e = descend-sim marks ids

  nothing-sim : (marks : Marks) (ids : List Id)
      → walk (left pre marks) (path pre marks) ids nothing >>= unwind pre marks ≡ resumed (leave pre marks ids)
  unfolding ◌>>=◌
  nothing-sim marks ids = rw walk-nothing (leave-sim marks ids)

  unaddressed-sim : (marks : Marks) (ids : List Id)
      → walk (left pre marks) (path pre marks) ids unaddressed >>= unwind pre marks ≡ stop 23
  unfolding judge ◌>>=◌
  unaddressed-sim marks ids = rw (walk-judge (left pre marks) (path pre marks) ids unaddressed)

  -- The step on what is heard for the path, if that is not a zero child.
  hears-sim : (marks : Marks) (ids : List Id) → silent pre marks ids ≡ leave pre marks ids → (h : Heard)
      → walk (left pre marks) (path pre marks) ids h >>= unwind pre marks ≡ resumed (hears pre marks ids h)
  unfolding hears resumed
  hears-sim marks ids e nothing = nothing-sim marks ids ∙ ap resumed (sym e)
  hears-sim marks ids e (one id) = one-sim marks ids id
  hears-sim marks ids e unaddressed = unaddressed-sim marks ids
  hears-sim marks ids e garble = garble-sim marks ids

  level : (marks : Marks) → left pre (false ∷ marks) ≡ left pre (true ∷ marks)
  level marks = omega (arith, length-append (path pre marks) (false ∷ []), length-append (path pre marks) (true ∷ []))

  loud : (marks : Marks) (m : Walk (List Id))
      → (m >>= λ ids₁. ask (path pre marks ▹ true) >>= λ o. walk (left pre (false ∷ marks))
      (path pre marks ▹ true) ids₁ o) >>= unwind pre marks ≡ m >>= unwind pre (false ∷ marks)
  unfolding unwind
  loud marks m = rw (level marks) (bind_assoc m _ _)

  -- The step on what is heard for a zero child.
  zero-sim : (marks : Marks) (ids : List Id) (z : Heard)
      → (walk (left pre (false ∷ marks)) (path pre marks ▹ false) ids z >>= λ ids₁. cond (is_nothing z) (return garble)
      (ask (path pre marks ▹ true)) >>= λ o.
      walk (left pre (false ∷ marks)) (path pre marks ▹ true) ids₁ o) >>= unwind pre marks
      ≡ resumed (hears pre (false ∷ marks) ids z)
  unfolding hears silent resumed is_nothing unwind ◌>>=◌
  zero-sim marks ids nothing = rw (walk-nothing, level marks) (garble-sim (true ∷ marks) ids)
  zero-sim marks ids (one id) = loud marks (walk (left pre (false ∷ marks)) (path pre marks ▹ false) ids (one id))
      ∙ one-sim (false ∷ marks) ids id
  zero-sim marks ids unaddressed =
      loud marks (walk (left pre (false ∷ marks)) (path pre marks ▹ false) ids unaddressed)
      ∙ unaddressed-sim (false ∷ marks) ids
  zero-sim marks ids garble = loud marks (walk (left pre (false ∷ marks)) (path pre marks ▹ false) ids garble)
      ∙ garble-sim (false ∷ marks) ids

-- The step on what is heard, which is refused with 14 if the id is too long.
ask-sim : (p : Prefix) (f : Heard → Walk (List Id)) (next : Heard → Next) → ((h : Heard) → f h ≡ resumed (next h))
    → ask p >>= f ≡ select p (λ h. resumed (cond (long h) (ended (stopped 14)) (next h)))
unfolding ask ◌>>=◌ resumed
ask-sim p f next e = λ i. select p (λ h. go h (long h) i)
  where
    go : (h : Heard) (b : Bool) → cond b (stop 14) (return h) >>= f ≡ resumed (cond b (ended (stopped 14)) (next h))
    go h true = refl
    go h false = e h

module _ (pre : Prefix) where
  listen-sim : (marks : Marks) (ids : List Id)
      → listen pre marks ids ≡ select (path pre marks)
      (λ h. resumed (cond (long h) (ended (stopped 14)) (hears pre marks ids h)))
  unfolding listen unwind silent leave down
  listen-sim [] ids = bind_assoc (ask pre) _ _ ∙ ask-sim pre _ (hears pre [] ids) (hears-sim pre [] ids refl)
  listen-sim (false ∷ marks) ids =
      bind_assoc (ask (path pre marks ▹ false)) _ _
      ∙ ask-sim (path pre marks ▹ false) _ (hears pre (false ∷ marks) ids) (zero-sim pre marks ids)
  listen-sim (true ∷ marks) ids =
      bind_assoc (ask (path pre marks ▹ true)) _ _
      ∙ ask-sim (path pre marks ▹ true) _ (hears pre (true ∷ marks) ids) (hears-sim pre (true ∷ marks) ids refl)

  resumes-sim : (marks : Marks) (ids : List Id) (phase : Phase)
      → resumes pre marks ids phase
      ≡ select (request (record { pre = pre; marks = marks; ids = ids; phase = phase }))
      (λ h. resumed (step (record { pre = pre; marks = marks; ids = ids; phase = phase }) h))
  unfolding resumes request step too_long tell resumed resume farewell ◌>>=◌
  resumes-sim marks ids asked = listen-sim marks ids
  resumes-sim marks ids (mine id) =
      ap (◌>>= unwind pre marks) (bind_assoc (ask (path pre marks ▹ next_bit (path pre marks) id)) _
      (settle pre marks ids id)) ∙ bind_assoc (ask (path pre marks ▹ next_bit (path pre marks) id)) _ _
      ∙ ask-sim (path pre marks ▹ next_bit (path pre marks) id) _ (λ h. to pre marks ids (other id (is_one id h)))
      (λ h. refl)
  resumes-sim marks ids (other id good) =
      ap (◌>>= unwind pre marks) (bind_assoc (ask (path pre marks ▹ not (next_bit (path pre marks) id))) _
      (settle pre marks ids id)) ∙ bind_assoc (ask (path pre marks ▹ not (next_bit (path pre marks) id))) _ _
      ∙ ask-sim (path pre marks ▹ not (next_bit (path pre marks) id)) _
      (λ h. cond (good && is_nothing h) (kept pre marks ids id) (descend pre marks ids))
      (λ h. settle-sim pre marks ids id (good && is_nothing h))
  resumes-sim marks ids leaving = refl

-- The machine sends the conversation's Select, and both go on alike, whatever is heard.
pub resume-step : (s : State) → resume s ≡ select (request s) (λ h. resumed (step s h))
unfolding resume
resume-step s = resumes-sim s.pre s.marks s.ids s.phase

pub resume-start : (pre : Prefix) → discover pre ≡ resumed (start pre)
unfolding discover start resumed resume resumes listen farewell
resume-start pre = sym (bind_assoc (ask pre) _ _)

pub run-later : {A : Type 0} (wire : Wire) (k : ℕ) (w : Walk A) → k ≤ (run wire k w).1
unfolding run
run-later wire k (return a) = omega arith
run-later wire k (stop c) = omega arith
run-later wire k (select p f) = omega (arith, run-later wire (suc k) (f (wire k p)))

-- One Select of the machine is one Select of the conversation.
drive-select : (wire : Wire) (k : ℕ) (s : State)
    → run wire k (resumed (going s)) ≡ run wire (suc k) (resumed (step s (wire k (request s))))
unfolding resumed run
drive-select wire k s = ap (run wire k) (resume-step s)

-- With enough Selects the machine ends as the conversation does, after the same number of them.
drive-run : (n : ℕ) (wire : Wire) (k : ℕ) (next : Next) → (run wire k (resumed next)).1 ≤ k + n
    → drive n wire k next ≡ (ended (run wire k (resumed next)).0, (run wire k (resumed next)).1)
unfolding drive run resumed
drive-run zero wire k (ended (done ids)) h = refl
drive-run zero wire k (ended (stopped c)) h = refl
drive-run zero wire k (going s) h =
    let c : (run wire k (resumed (going s))).1 ≡ (run wire (suc k) (resumed (step s (wire k (request s))))).1 =
    ap (λ r. r.1) (drive-select wire k s) in
    absurd (omega (arith, run-later wire (suc k) (resumed (step s (wire k (request s))))))
drive-run (suc n) wire k (ended (done ids)) h = refl
drive-run (suc n) wire k (ended (stopped c)) h = refl
drive-run (suc n) wire k (going s) h =
    let c : (run wire k (resumed (going s))).1 ≡ (run wire (suc k) (resumed (step s (wire k (request s))))).1 =
    ap (λ r. r.1) (drive-select wire k s) in
    drive-run n wire (suc k) (step s (wire k (request s))) (omega arith)
    ∙ ap (λ r. (ended r.0, r.1)) (sym (drive-select wire k s))

-- On every wire the machine ends within the limit, as the discovery does and after the same number of Selects.
pub machine-discovers : (wire : Wire) (pre : Prefix)
    → drive (limit pre) wire 0 (start pre) ≡ (ended (run wire 0 (discover pre)).0, (run wire 0 (discover pre)).1)
machine-discovers wire pre = rw (resume-start pre)
    (drive-run (limit pre) wire 0 (start pre) (rw (← resume-start pre) (omega (arith, discover-bound wire pre))))
