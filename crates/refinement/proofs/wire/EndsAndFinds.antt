-- Acceptance condition 3 for the client driven over a wire of bytes: it ends within the limit, and on an honest wire
-- finds exactly the ids that match.
use Prim.Native.Nat.{ℕ, zero, suc, ◌+◌, ◌-◌, ◌*◌, ◌%◌, ◌≤◌, ◌<◌}
use mathlib.Core.Bool.{true, false}
use mathlib.Core.List.{List, [], ◌∷◌}
use mathlib.Core.Option.{Option}
use mathlib.Core.Path.{◌≡◌, refl, sym, ◌∙◌, ap, subst}
use native.Mathlib.Nat.{mod-eq_of_lt, add-zero}
use native.Mathlib.Omega.{arith}
use lib.ListN.{length}
use borrow.Author.Tests.{le-leb}
use Rattle.std.specs.Prelude as Std
use Rattle.paper.specs.Client.{id_after, refused}
use Rattle.paper.specs.Count.{matching, honest, All, Pods, count, selects, limit}
use Rattle.paper.specs.Hearing as PaperHearing
use Rattle.paper.specs.Hearing.{Id, Prefix, bits_of, before}
use Rattle.paper.specs.Walk as PaperWalk
use Rattle.paper.specs.Walk.{Ended, done, stopped, run, discover, insert, sort}
use Rattle.paper.proofs.Bits.{bits-length}
use Rattle.theory.specs.WalkMachine as Walk
use Rattle.theory.specs.WalkMachine.{State, Next, going, ended, drive}
use Rattle.theory.specs.PrefixFree.{Sorted}
use Rattle.theory.specs.ClientMachine as ClientMachine
use Rattle.theory.specs.ClientMachine.{Brief, idle, settle}
use Rattle.theory.proofs.walk.EndsAndFinds as MachineCondition3
use Rattle.theory.proofs.walk.StatesFit.{Short, FitsNext, step_fits, start_fits}
use Rattle.theory.proofs.EachMember.{all-weaken}
use Rattle.theory.proofs.walk.ListedIds.{kept-listed, kept-distinct}
use Rattle.theory.proofs.walk.CountAtMost.{selects-most}
use Rattle.theory.proofs.walk.OneLength.{discover-exact}
use Rattle.theory.proofs.walk.SortedIds.{sort-all, sort-length}
use Rattle.ids.specs.declared.Id as Code
use Rattle.walk_table.specs.declared.Table.{Table}
use Rattle.client.specs.declared.Outcome.TheVariants.{Found}
use Rattle.client.specs.declared.Progress.{Progress}
use Rattle.client.specs.declared.Says.{Says}
use Rattle.client.specs.declared.Says.TheVariants.{Over}
use Rattle.client.specs.declared.Told.{Told}
use Rattle.client.specs.Numbers.{ids_of, end_of, says_of}
use Rattle.client_start.specs.Start.{start_discover}
use Rattle.refinement.specs.ClientServed.{Wire, is_onward, opening, discovered, resting, heard_by, Honest, end_says}
use Rattle.refinement.specs.ClientServed.{end_table, end_id, EndsAs, Finds, Lists}
use Rattle.refinement.proofs.client.AnswersRead.{ids-back, Stops, step-stops, walked-read}
use Rattle.refinement.proofs.wire.ServedIsMachine.{stood, Stands, serve-walks, ended-onward, refused-table}
use Rattle.refinement.proofs.client.StartAnswers.{discover-started}

-- What every step keeps holds wherever the machine gets to.
drive-keeps : (P : Next → Type 0) → ((s : State) (h : PaperHearing.Heard) → P (going s) → P (Walk.step s h))
    → (n : ℕ) (wire : PaperWalk.Wire) (k : ℕ) (next : Next) → P next → P (drive n wire k next).0
unfolding drive
drive-keeps P f zero wire k next p = p
drive-keeps P f (suc n) wire k (going s) p =
    drive-keeps P f n wire (suc k) (Walk.step s (wire k (Walk.request s))) (f s (wire k (Walk.request s)) p)
drive-keeps P f (suc n) wire k (ended e) p = p

insert-none : (x : Id) → insert x [] ≡ x ∷ []
unfolding insert
insert-none x = refl

insert-first : (x y : Id) (ys : List Id) → before x y ≡ true → insert x (y ∷ ys) ≡ x ∷ y ∷ ys
unfolding insert
insert-first x y ys e = rw e

-- Sorting a sorted list changes nothing.
sort_sorted : (xs : List Id) → Sorted xs → sort xs ≡ xs
unfolding sort
sort_sorted [] h = refl
sort_sorted (x ∷ xs) h = ap (insert x) (sort_sorted xs h.1) ∙ first xs h.0
  where
    first : (ys : List Id) → All (λ y. before x y ≡ true) ys → insert x ys ≡ x ∷ ys
    first [] g = insert-none x
    first (y ∷ ys) g = insert-first x y ys g.0

all_short : (L : ℕ) {ids : List Id} → Pods L ids → All Short ids
all_short L {ids} p = all-weaken (λ x. length x ≡ L) Short ids (λ x e. omega (arith, p.within16)) p.sized

not_found : (p : Std.Option Progress) (x : Code.Id) (t : Table) (n : ℕ) → says_of (Over Found) p x t ≡ refused n [] → ⊥
unfolding says_of end_of
not_found p x t n e = let z : ◌≡◌ {A = ℕ} 0 1 = cc in omega arith

start-stops : (pre : Prefix) → Stops (Walk.start pre)
unfolding Walk.start
start-stops pre = tt

-- The answer when the machine has ended.
told-ends : (seed : ℕ) (id : Option Id) (k : ℕ) (e : Ended (List Id)) (at : ℕ) → FitsNext (ended e) → Stops (ended e)
    → (code : Told × ℕ) → code.0 ≡ stood seed id k (ended e) at → code.1 ≡ k → EndsAs seed id (e, k) code
unfolding settle id_after
told-ends seed id k e at f u code t c = record {
  answer = ap (λ (x : Told). says_of x.says x.progress x.id x.found) t ∙ read e f u;
  found = ap (λ (x : Told). x.found) t ∙ table e;
  client = ap (λ (x : Told). x.client) t ∙ left e;
  selects = c;
}
  where
    read : (e : Ended (List Id)) → FitsNext (ended e) → Stops (ended e)
        → says_of (stood seed id k (ended e) at).says (stood seed id k (ended e) at).progress
        (stood seed id k (ended e) at).id (stood seed id k (ended e) at).found ≡ end_says e
    read (done ids) f u = walked-read (ended (done ids)) f u
    read (stopped n) f u = u

    table : (e : Ended (List Id)) → (stood seed id k (ended e) at).found ≡ end_table e
    table (done ids) = refl
    table (stopped n) = refused-table n []

    left : (e : Ended (List Id)) → (stood seed id k (ended e) at).client ≡ resting ((seed + k) % 256) (end_id id e)
    left (done ids) = refl
    left (stopped n) = refl

module _ (buffer : List ℕ) (room : 31 ≤ length buffer) (wire : Wire) (seed : ℕ) (byte : seed < 256) (id : Option Id)
    (brief : Brief id) (given : Id) (short : length given ≤ 16) (bytes : All (λ b. b < 256) given) where
  room-bits : length (bits_of given) ≤ 128
  room-bits = omega (arith, bits-length given)

  opens : opening (start_discover (resting seed id) given) ≡ stood seed id 0 (Walk.start (bits_of given)) 0
  unfolding ClientMachine.start_discover ClientMachine.start Walk.start settle
  opens =
      let s : (seed + 0) % 256 ≡ seed = ap (λ (n : ℕ). n % 256) (add-zero seed) ∙ mod-eq_of_lt byte in
      ap opening (discover-started (record { seed = seed; id = id; turn = idle }) given bytes)
      ∙ rw (le-leb (length given) 16 short, s)

  ended-as : Ended (List Id) × ℕ
  ended-as = run (heard_by wire seed) 0 (discover (bits_of given))

  drives : drive (limit (bits_of given)) (heard_by wire seed) 0 (Walk.start (bits_of given))
      ≡ (ended ended-as.0, ended-as.1)
  unfolding ended-as
  drives = (MachineCondition3.ends (heard_by wire seed) (bits_of given)).0

  stands : Stands buffer room wire seed id brief (discovered buffer wire (resting seed id) given)
      (ended ended-as.0, ended-as.1)
  unfolding discovered
  stands = rw (opens, ← drives) (serve-walks buffer room wire seed id brief (limit (bits_of given)) 0
      (Walk.start (bits_of given)) (start_fits (bits_of given) room-bits) 0)

  abbrev pub code : Told × ℕ
  code = discovered buffer wire (resting seed id) given

  abbrev pub paper : Ended (List Id) × ℕ
  paper = run (heard_by wire seed) 0 (discover (bits_of given))

  -- Whatever the wire answers, the discovery ends as document 01's does.
  pub ends_as : EndsAs seed id paper code
  unfolding ended-as
  ends_as = go ended-as.0 stands.at stands.told keeps.0 keeps.1
    where
      keeps : FitsNext (ended ended-as.0) × Stops (ended ended-as.0)
      keeps = subst (λ (r : Next × ℕ). FitsNext r.0 × Stops r.0) drives (
        drive-keeps FitsNext step_fits (limit (bits_of given)) (heard_by wire seed) 0 (Walk.start (bits_of given))
            (start_fits (bits_of given) room-bits),
        drive-keeps Stops (λ s h p. step-stops s h) (limit (bits_of given)) (heard_by wire seed) 0
            (Walk.start (bits_of given)) begins,
      )
        where
          begins : Stops (Walk.start (bits_of given))
          begins = start-stops (bits_of given)

      go : (e : Ended (List Id)) (at : ℕ) → code.0 ≡ stood seed id paper.1 (ended e) at → FitsNext (ended e)
          → Stops (ended e) → EndsAs seed id (e, paper.1) code
      go e at t f u = told-ends seed id paper.1 e at f u code t stands.count

  -- It ends within the limit.
  pub ends-within : (is_onward code.0.says ≡ false) × (code.1 ≤ limit (bits_of given))
  unfolding ended-as
  ends-within = (
    rw stands.told (ended-onward buffer room wire seed id brief paper.1 paper.0 stands.at),
    rw stands.count (MachineCondition3.ends (heard_by wire seed) (bits_of given)).1,
  )

  -- On an honest wire it finds exactly the ids that match, sorted, after exactly document 01's count of Selects. For n
  -- ids of L bytes the count is at most 2 + n * (8 L - p + 2).
  pub finds : (S : List Id) (L : ℕ) → Honest wire seed (bits_of given) S → Pods L (matching (bits_of given) S)
      → Finds seed (sort (matching (bits_of given) S)) (selects S L (bits_of given)) code
      × (selects S L (bits_of given) ≤ 2 + count S (bits_of given) * (8 * L - length (bits_of given) + 2))
  unfolding honest ended-as settle id_after
  finds S L h pods =
      let m : paper ≡ (done (sort (matching (bits_of given) S)), selects S L (bits_of given)) =
      discover-exact (heard_by wire seed) S L (bits_of given) h room-bits pods in
      let t : code.0 ≡ stood seed id (selects S L (bits_of given)) (ended (done (sort (matching (bits_of given) S))))
      stands.at =
      stands.told ∙ ap (λ (r : Ended (List Id) × ℕ). stood seed id r.1 (ended r.0) stands.at) m in (
        record {
          says = ap (λ (x : Told). x.says) t;
          answer = ap (λ (x : Told). ids_of x.found) t
              ∙ ids-back (sort (matching (bits_of given) S)) (rw (sort-length (matching (bits_of given) S)) pods.few)
              (sort-all Short (matching (bits_of given) S) (all_short L pods));
          found = ap (λ (x : Told). x.found) t;
          client = ap (λ (x : Told). x.client) t;
          selects = stands.count ∙ ap (λ (r : Ended (List Id) × ℕ). r.1) m;
        },
        selects-most S L (bits_of given) pods,
      )

  -- Whatever the wire answers, the ids found are sorted, distinct and at most 64.
  pub lists : code.0.says ≡ Over Found → Lists (bits_of given) code
  unfolding ended-as
  lists says = go paper.0 refl
    where
      over-found : says_of (Over Found) code.0.progress code.0.id code.0.found ≡ end_says paper.0
      over-found = ap (λ (s : Says). says_of s code.0.progress code.0.id code.0.found) (sym says)
          ∙ ends_as.answer

      go : (e : Ended (List Id)) → paper.0 ≡ e → Lists (bits_of given) code
      go (done ids) e =
          let l = kept-listed (heard_by wire seed) (bits_of given) ids e in
          let d = kept-distinct (heard_by wire seed) (bits_of given) ids e in
          record {
            ids = ids;
            answer = ap ids_of (ends_as.found ∙ ap end_table e) ∙ ids-back ids l.apart.few l.apart.short;
            found = ends_as.found ∙ ap end_table e;
            few = l.apart.few;
            distinct = d.0;
            sorted = sort_sorted ids l.sorted;
            short = l.apart.short;
            matched = l.matched;
          }
      go (stopped n) e = absurd (not_found code.0.progress code.0.id code.0.found n
          (over-found ∙ ap end_says e))
