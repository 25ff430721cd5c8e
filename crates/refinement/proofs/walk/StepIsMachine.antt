-- The code's step is the machine's, for each state that fits.
use Prim.Native.Nat.{ℕ, zero, suc, ◌+◌, ◌-◌, ◌*◌, ◌<◌, ◌≤◌}
use mathlib.Core.Bool.{Bool, true, false, cond, ◌&&◌}
use mathlib.Core.List.{List, [], ◌∷◌, ◌++◌}
use mathlib.Core.Path.{◌≡◌, refl, sym, ◌∙◌, ap, ap₂}
use native.Mathlib.Omega.{arith}
use lib.Dec.{ltb}
use lib.ListN.{length, drop, set, length-append, length-drop}
use borrow.Author.Tests.{ltb-true, ltb-false, lt-ltb, le-ltb, le-leb}
use Rattle.paper.specs.Count.{All}
use Rattle.paper.specs.Hearing as Paper
use Rattle.paper.specs.Hearing.{Prefix, bits_of, matches, packed, nothing, one, unaddressed, garble}
use Rattle.paper.specs.Walk.{long, is_nothing, same_id, is_one, stopped}
use Rattle.paper.proofs.Bits.{bits-length}
use Rattle.paper.proofs.Packed.{packed_zero, packed-read}
use Rattle.theory.specs.WalkMachine as Machine
use Rattle.theory.specs.WalkMachine.{Marks, path, Phase, asked, mine, other, leaving, State, ended, to, leave, descend}
use Rattle.theory.specs.WalkMachine.{silent, kept, confirming, hears, tell, too_long, step}
use Rattle.theory.proofs.walk.StatesFit.{Short, Held, Fits}
use Rattle.ids.specs.declared.Id.{Id}
use Rattle.ids.specs.Ids.{set_bit, no_id, id_from}
use Rattle.ids.proofs.Laws.{id-of-from}
use Rattle.ids.proofs.Pack.{pack_one}
use Rattle.ids.specs.Paths.{cut}
use Rattle.hearing.specs.declared.Heard.TheVariants as Heard
use Rattle.hearing.specs.declared.Hearing.TheVariants.{One, TooLong}
use Rattle.hearing.specs.declared.Hearing.{Hearing}
use Rattle.hearing.specs.Heard.{id_in, is_long, kind_of, one_heard, shown_heard}
use Rattle.walk_table.specs.declared.Table.{Table}
use Rattle.walk_table.specs.Rows.{keep}
use Rattle.walk.specs.declared.Walk.{Walk}
use Rattle.walk.specs.declared.Phase.TheVariants.{Asked, Other}
use Rattle.walk_step.specs.declared.End.TheVariants.{DuplicateUid, LongId, TableFull}
use Rattle.walk_step.specs.Steps.{Done, Next}
use Rattle.walk.specs.Moves as Moves
use Rattle.walk_step.specs.Steps as Code
use Rattle.refinement.specs.CodeWalk.{padded, levels, row_of, table_of, candidate_of, phase_of, standing_at, walk_of}
use Rattle.refinement.specs.CodeWalk.{next_of}
use Rattle.refinement.proofs.walk.LevelMarks.{length-levels, pad-set, pad-reset, pad-clear, last_mark, mark_of}
use Rattle.refinement.proofs.walk.PathBytes.{pack-cut}
use Rattle.refinement.proofs.walk.TableRows.{table-keep, table-sorted}

pub stand : (t : Table) (x : Id) {p q : List ℕ} {d e : ℕ} {m n : List ℕ} → p ≡ q → d ≡ e → m ≡ n
    → ◌≡◌ {A = Walk} (Moves.walk_of (record { path = p; depth = d; marks = m; candidate = x }) t)
    (Moves.walk_of (record { path = q; depth = e; marks = n; candidate = x }) t)
stand t x ep ed em = λ i. Moves.walk_of (record { path = ep i; depth = ed i; marks = em i; candidate = x }) t

-- The marks after climbing out of every one child, when a branch has ended.
up : Marks → Marks
up [] = []
up (false ∷ marks) = false ∷ marks
up (true ∷ marks) = up marks

module _ (pre : Prefix) where
  one_more : (marks : Marks) (b : Bool) → length (path pre (b ∷ marks)) ≡ length (path pre marks) + 1
  one_more marks b = length-append (path pre marks) (b ∷ [])

  one_less : (marks : Marks) (b : Bool) → length (path pre (b ∷ marks)) - 1 ≡ length (path pre marks)
  one_less marks b = omega (arith, one_more marks b)

  longer : (marks : Marks) → length marks ≤ length (path pre marks)
  longer [] = omega arith
  longer (b ∷ marks) = omega (arith, one_more marks b, longer marks)

  module _ (ids : List Paper.Id) where
    mark-sim : (marks : Marks) → Moves.mark (standing_at pre marks ids no_id) ≡ last_mark marks
    unfolding Moves.mark
    mark-sim marks = mark_of pre marks

    module _ (marks : Marks) (h : length (path pre marks) < 128) where
      at : length (path pre marks) ≡ length (levels pre marks)
      at = sym (length-levels pre marks)

      room : length (levels pre marks) < 128
      room = rw (← at) h

      lower-sim : Moves.lower (standing_at pre marks ids no_id) ≡ standing_at pre (false ∷ marks) ids no_id
      unfolding Moves.lower
      lower-sim =
          stand (table_of ids) no_id
          (sym (packed_zero 16 (path pre marks)))
          (sym (one_more marks false))
          (ap (λ (k : ℕ). set (padded 128 (levels pre marks)) k 1) at ∙ pad-set 128 (levels pre marks) room 1)

      turn_sim : Moves.turn (standing_at pre (false ∷ marks) ids no_id) ≡ standing_at pre (true ∷ marks) ids no_id
      unfolding Moves.turn
      turn_sim =
          stand (table_of ids) no_id
          (ap₂ set_bit (packed_zero 16 (path pre marks)) (one_less marks false) ∙ sym (pack_one 16 (path pre marks) h))
          (one_more marks false ∙ sym (one_more marks true))
          (ap (λ (k : ℕ). set (padded 128 (levels pre (false ∷ marks))) k 2) (one_less marks false ∙ at)
          ∙ pad-reset 128 (levels pre marks) 1 2)

      raise-sim : Moves.raise (standing_at pre (true ∷ marks) ids no_id) ≡ standing_at pre marks ids no_id
      unfolding Moves.raise
      raise-sim =
          stand (table_of ids) no_id
          (ap (cut (packed 16 (path pre (true ∷ marks)))) (one_less marks true) ∙ pack-cut 16 (path pre marks) true h)
          (one_less marks true)
          (ap (λ (k : ℕ). set (padded 128 (levels pre (true ∷ marks))) k 0) (one_less marks true ∙ at)
          ∙ pad-clear 128 (levels pre marks) room 2)

    climb-sim : (marks : Marks) (n : ℕ) → length marks ≤ n → length (path pre marks) ≤ 128
        → Moves.climb n (standing_at pre marks ids no_id) ≡ standing_at pre (up marks) ids no_id
    unfolding Moves.climb up
    climb-sim [] zero l h = refl
    climb-sim [] (suc n) l h = rw (mark-sim [])
    climb-sim (false ∷ marks) zero l h = absurd (omega arith)
    climb-sim (false ∷ marks) (suc n) l h = rw (mark-sim (false ∷ marks))
    climb-sim (true ∷ marks) zero l h = absurd (omega arith)
    climb-sim (true ∷ marks) (suc n) l h =
        rw (mark-sim (true ∷ marks), raise-sim marks (omega (arith, one_more marks true)))
        (climb-sim marks n (omega arith) (omega (arith, one_more marks true)))

    onward-sim : (marks : Marks) → length (path pre marks) ≤ 128
        → Code.onward (standing_at pre (up marks) ids no_id) ≡ next_of (leave pre marks ids)
    unfolding Code.onward leave up
    onward-sim [] h = rw (mark-sim [])
    onward-sim (false ∷ marks) h = rw (mark-sim (false ∷ marks), turn_sim marks (omega (arith, one_more marks false)))
    onward-sim (true ∷ marks) h = onward-sim marks (omega (arith, one_more marks true))

    leave-sim : (marks : Marks) → length (path pre marks) ≤ 128
        → Code.leave (standing_at pre marks ids no_id) ≡ next_of (leave pre marks ids)
    unfolding Code.leave
    leave-sim marks h = ap Code.onward (climb-sim marks (length (path pre marks)) (longer marks) h) ∙ onward-sim marks h

    descend-sim : (marks : Marks) → Code.descend (standing_at pre marks ids no_id) ≡ next_of (descend pre marks ids)
    unfolding Code.descend descend
    descend-sim marks = go (ltb (length (path pre marks)) 128) refl
      where
        go : (b : Bool) → ltb (length (path pre marks)) 128 ≡ b
            → cond b (Code.going Asked (Moves.lower (standing_at pre marks ids no_id))) (Code.stopped DuplicateUid)
            ≡ next_of (cond b (to pre (false ∷ marks) ids asked) (ended (stopped 12)))
        go true e = ap (Code.going Asked) (lower-sim marks (ltb-true (length (path pre marks)) 128 e))
        go false e = refl

    silent-sim : (marks : Marks) → length (path pre marks) ≤ 128
        → Code.silent (standing_at pre marks ids no_id) ≡ next_of (silent pre marks ids)
    unfolding Code.silent silent leave
    silent-sim [] h = rw (mark-sim []) (leave-sim [] h)
    silent-sim (false ∷ marks) h =
        rw (mark-sim (false ∷ marks), turn_sim marks (omega (arith, one_more marks false))) (descend-sim (true ∷ marks))
    silent-sim (true ∷ marks) h = rw (mark-sim (true ∷ marks)) (leave-sim (true ∷ marks) h)

  module _ (marks : Marks) (ids : List Paper.Id) (h : length (path pre marks) ≤ 128) where
    kept-sim : (id : Paper.Id) → Code.kept (standing_at pre marks ids no_id) (id_from id) ≡ next_of (kept pre marks ids id)
    unfolding Code.kept kept table_of
    kept-sim id = go (ltb (length ids) 64)
      where
        go : (b : Bool)
            → cond b (Code.leave (Moves.finding (standing_at pre marks ids no_id) (keep (table_of ids) (row_of id))))
            (Code.stopped TableFull)
            ≡ next_of (cond b (leave pre marks (ids ++ (id ∷ []))) (ended (stopped 15)))
        go true = ap (λ (t : Table). Code.leave (Moves.finding (standing_at pre marks ids no_id) t)) (table-keep ids id)
            ∙ leave-sim (ids ++ (id ∷ [])) marks h
        go false = refl

    confirming-sim : (id : Paper.Id) → Short id → (rest : List Bool) → drop (length (path pre marks)) (bits_of id) ≡ rest
        → Code.confirming (standing_at pre marks ids no_id) (id_from id) ≡ next_of (confirming pre marks ids id rest)
    unfolding Code.confirming confirming
    confirming-sim id s [] e =
        let n : 8 * length id ≤ length (path pre marks) =
        omega (arith, ap length e, length-drop (length (path pre marks)) (bits_of id), bits-length id) in
        rw (id-of-from id s, le-ltb (length (path pre marks)) (8 * length id) n) (kept-sim id)
    confirming-sim id s (b ∷ rest) e =
        let n : length (path pre marks) < 8 * length id =
        omega (arith, ap length e, length-drop (length (path pre marks)) (bits_of id), bits-length id) in
        rw (id-of-from id s, lt-ltb (length (path pre marks)) (8 * length id) n)

    one-sim : (id : Paper.Id) → Short id
        → Code.hears (standing_at pre marks ids no_id) Heard.One (id_from id) ≡ next_of (hears pre marks ids (one id))
    unfolding Code.hears hears
    one-sim id s = rw (packed-read 16 (path pre marks) h, id-of-from id s) (go (matches (path pre marks) id))
      where
        go : (b : Bool) → cond b (Code.confirming (standing_at pre marks ids no_id) (id_from id))
            (Code.descend (standing_at pre marks ids no_id))
            ≡ next_of (cond b (confirming pre marks ids id (drop (length (path pre marks)) (bits_of id)))
            (descend pre marks ids))
        go true = confirming-sim id s (drop (length (path pre marks)) (bits_of id)) refl
        go false = descend-sim ids marks

    settled-sim : (id : Paper.Id) (held : Bool)
        → Code.settled (standing_at pre marks ids (id_from id)) held
        ≡ next_of (cond held (kept pre marks ids id) (descend pre marks ids))
    unfolding Code.settled
    settled-sim id true = kept-sim id
    settled-sim id false = descend-sim ids marks

-- An id that is heard and not too long is passed on.
pub short-of : (x : Paper.Id) → long (one x) ≡ false → Short x
unfolding long
short-of x e = ltb-false 16 (length x) e

pub told : (x : Paper.Id) → long (one x) ≡ false → one_heard x ≡ One (id_from x)
unfolding long one_heard
told x e = rw e

-- An id that is too long ends the walk.
heard-one : (x : Paper.Id) (f : Hearing → Next) (m : Machine.Next) → f TooLong ≡ Code.stopped LongId
    → (Short x → f (One (id_from x)) ≡ next_of m)
    → f (one_heard x) ≡ next_of (cond (long (one x)) (ended (stopped 14)) m)
unfolding long one_heard
heard-one x f m e g = go (ltb 16 (length x)) refl
  where
    go : (b : Bool) → ltb 16 (length x) ≡ b
        → f (cond b TooLong (One (id_from x))) ≡ next_of (cond b (ended (stopped 14)) m)
    go true t = e
    go false t = g (ltb-false 16 (length x) t)

module _ (pre : Prefix) (marks : Marks) (ids : List Paper.Id) (d : length (path pre marks) ≤ 128) (f : length ids ≤ 64)
    (s : All Short ids) where
  -- The machine's step in a phase, refused if the id heard is too long.
  abbrev steps : Phase → Paper.Heard → Machine.Next
  steps phase h = cond (too_long phase h) (ended (stopped 14)) (tell pre marks ids phase h)

  hears-sim : (h : Paper.Heard) → Code.hears (standing_at pre marks ids no_id) (kind_of (shown_heard h)) (id_in (shown_heard h))
      ≡ next_of (steps asked h)
  unfolding Code.hears hears too_long tell long
  hears-sim nothing = silent-sim pre ids marks d
  hears-sim (one x) =
      heard-one x (λ (r : Hearing). Code.hears (standing_at pre marks ids no_id) (kind_of r) (id_in r))
      (hears pre marks ids (one x)) refl (one-sim pre marks ids d x)
  hears-sim unaddressed = refl
  hears-sim garble = descend-sim pre ids marks

  module _ (id : Paper.Id) where
    abbrev holding : Walk
    holding = standing_at pre marks ids (id_from id)

    mine-sim : Short id → (h : Paper.Heard)
        → Code.mine holding (kind_of (shown_heard h)) (id_in (shown_heard h)) ≡ next_of (steps (mine id) h)
    unfolding Code.mine is_one too_long tell long
    mine-sim k nothing = refl
    mine-sim k (one x) =
        heard-one x (λ (r : Hearing). Code.mine holding (kind_of r) (id_in r)) (tell pre marks ids (mine id) (one x)) refl
        (λ l. ap (λ (b : Bool). Code.going (Other b) holding) (ap₂ same_id (id-of-from x l) (id-of-from id k)))
    mine-sim k unaddressed = refl
    mine-sim k garble = refl

    fails-sim : (good : Bool) → Code.settled holding false
        ≡ next_of (cond (good && false) (kept pre marks ids id) (descend pre marks ids))
    fails-sim true = settled-sim pre marks ids d id false
    fails-sim false = settled-sim pre marks ids d id false

    other-sim : (good : Bool) (h : Paper.Heard)
        → Code.other holding good (kind_of (shown_heard h)) ≡ next_of (steps (other id good) h)
    unfolding Code.other is_nothing too_long tell long
    other-sim true nothing = settled-sim pre marks ids d id true
    other-sim false nothing = settled-sim pre marks ids d id false
    other-sim good (one x) = heard-one x (λ (r : Hearing). Code.other holding good (kind_of r))
        (tell pre marks ids (other id good) (one x)) refl (λ l. fails-sim good)
    other-sim good unaddressed = fails-sim good
    other-sim good garble = fails-sim good

  tell-sim : (phase : Phase) (h : Paper.Heard) → Held (path pre marks) phase
      → Code.tell (standing_at pre marks ids (candidate_of phase)) (phase_of phase) (kind_of (shown_heard h))
      (id_in (shown_heard h)) ≡ next_of (steps phase h)
  unfolding Code.tell tell too_long Code.done
  tell-sim asked h w = hears-sim h
  tell-sim (mine id) h w = mine-sim id w.0 h
  tell-sim (other id good) h w = other-sim id good h
  tell-sim leaving h w = ap ending (table-sorted ids f s)
    where
      ending : Table → Next
      ending t = record { goes = Done; walk = Moves.finding Moves.no_walk t }

pub long-is : (h : Paper.Heard) → is_long (kind_of (shown_heard h)) ≡ long h
unfolding is_long long one_heard
long-is nothing = refl
long-is (one x) = go (ltb 16 (length x))
  where
    go : (b : Bool) → is_long (kind_of (cond b TooLong (One (id_from x)))) ≡ b
    go true = refl
    go false = refl
long-is unaddressed = refl
long-is garble = refl

-- One step.
pub step-sim : (s : State) (h : Paper.Heard) → Fits s
    → Code.step (walk_of s) (phase_of s.phase) (kind_of (shown_heard h)) (id_in (shown_heard h)) ≡ next_of (step s h)
unfolding Code.step step table_of
step-sim s h t =
    rw (le-leb (length (path s.pre s.marks)) 128 t.depth, le-leb (length s.ids) 64 t.few)
    (tell-sim s.pre s.marks s.ids t.depth t.few t.short s.phase h t.held)
