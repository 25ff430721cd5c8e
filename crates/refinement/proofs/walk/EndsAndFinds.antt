-- Acceptance condition 3 for the code's walk: it ends within the limit, and on an honest wire finds exactly the ids
-- that match.
use Prim.Native.Nat.{ℕ, zero, suc, ◌+◌, ◌-◌, ◌*◌, ◌≤◌, ◌<◌}
use mathlib.Core.List.{List, []}
use mathlib.Core.Path.{◌≡◌, refl, sym, ◌∙◌, ap}
use native.Mathlib.Omega.{arith}
use lib.ListN.{length, replicate, length-replicate, replicate-append-replicate}
use Rattle.paper.specs.Count.{matching, honest, All, Pods, count, selects, limit}
use Rattle.paper.specs.Hearing.{Id, Prefix, bits_of}
use Rattle.paper.specs.Walk.{Wire, Ended, run, discover, sort, done, stopped}
use Rattle.paper.proofs.Bits.{bits-length}
use Rattle.theory.specs.WalkMachine.{Next, asked, going, ended, request, step, start, drive}
use Rattle.theory.specs.PrefixFree.{Apart, own_selects}
use Rattle.theory.proofs.walk.StatesFit.{FitsNext, step_fits, start_fits}
use Rattle.theory.proofs.walk.ListedIds.{Listed, kept-listed}
use Rattle.theory.proofs.walk.EndsAndFinds as Machine
use Rattle.theory.proofs.walk.SelectsSent.{Alike}
use Rattle.ids.specs.Ids.{no_id, id_from}
use Rattle.ids.proofs.Laws.{id-of-from}
use Rattle.walk_table.specs.Rows.{no_table, puts}
use Rattle.walk.specs.declared.Phase.TheVariants.{Asked}
use Rattle.walk_step.specs.Steps.{Goes, Done, Stopped}
use Rattle.walk.specs.Moves as Moves
use Rattle.walk_step.specs.Steps as Steps
use Rattle.refinement.specs.CodeWalk.{table_of, end_of, next_of, walk_of, phase_of}
use Rattle.refinement.specs.WalkDriven.{driven, begun, told}
use Rattle.refinement.proofs.walk.AskedBits.{asks-sim}
use Rattle.refinement.proofs.walk.PathBytes.{pack-bytes}
use Rattle.refinement.proofs.walk.StepIsMachine.{step-sim, stand}

-- The code's walk over a wire does what the machine does.
pub drive-sim : (n : ℕ) (wire : Wire) (k : ℕ) (next : Next) → FitsNext next
    → driven n wire k (next_of next) ≡ (next_of (drive n wire k next).0, (drive n wire k next).1)
unfolding driven drive Steps.stopped
drive-sim zero wire k next f = refl
drive-sim (suc n) wire k (ended (done ids)) f = refl
drive-sim (suc n) wire k (ended (stopped c)) f = refl
drive-sim (suc n) wire k (going s) f =
    ap (λ q. driven n wire (suc k) (told (walk_of s) (phase_of s.phase) (wire k q))) (asks-sim s f)
    ∙ ap (driven n wire (suc k)) (step-sim s (wire k (request s)) f)
    ∙ drive-sim n wire (suc k) (step s (wire k (request s))) (step_fits s (wire k (request s)) f)

-- The code's walk, begun under a prefix of whole bytes.
pub begin-sim : (x : Id) → length x ≤ 16 → All (λ b. b < 256) x
    → Moves.begin (id_from x) ≡ walk_of (record { pre = bits_of x; marks = []; ids = []; phase = asked })
unfolding Moves.begin Moves.no_walk id_from table_of puts no_table
begin-sim x le bytes =
    let e : length (bits_of x) + (128 - length (replicate {A = ℕ} (length (bits_of x)) 0)) ≡ 128 =
    omega (arith, length-replicate {A = ℕ} (length (bits_of x)) 0, bits-length x) in
    stand no_table no_id (sym (pack-bytes 16 x le bytes))
    (ap (λ (y : Id). 8 * length y) (id-of-from x le) ∙ sym (bits-length x))
    (sym (replicate-append-replicate (length (bits_of x)) (128 - length (replicate {A = ℕ} (length (bits_of x)) 0)) 0
    ∙ ap (λ (k : ℕ). replicate k 0) e))

pub begun-bytes : (x : Id) → length x ≤ 16 → All (λ b. b < 256) x
    → Steps.going Asked (Moves.begin (id_from x)) ≡ begun (bits_of x)
unfolding begun
begun-bytes x le bytes = ap (Steps.going Asked) (begin-sim x le bytes)

pub follows : (n : ℕ) (wire : Wire) (pre : Prefix) → length pre ≤ 128
    → driven n wire 0 (begun pre) ≡ (next_of (drive n wire 0 (start pre)).0, (drive n wire 0 (start pre)).1)
unfolding begun start
follows n wire pre le = drive-sim n wire 0 (start pre) (start_fits pre le)

-- Whatever is heard, it ends within the limit, as document 01's discovery does and after the same number of Selects.
pub ends : (wire : Wire) (pre : Prefix) → length pre ≤ 128
    → (driven (limit pre) wire 0 (begun pre)
    ≡ (next_of (ended (run wire 0 (discover pre)).0), (run wire 0 (discover pre)).1))
    × ((run wire 0 (discover pre)).1 ≤ limit pre)
ends wire pre le = (
  follows (limit pre) wire pre le
      ∙ ap (λ r. (next_of r.0, r.1)) (Machine.ends wire pre).0,
  (Machine.ends wire pre).1,
)

-- On an honest wire it finds exactly the ids that match, sorted, after exactly the Selects counted with each id's own
-- length. For n ids of at most L bytes the count is at most 2 + n * (8 L - p + 2).
pub finds-apart : (wire : Wire) (S : List Id) (L : ℕ) (pre : Prefix) → Alike wire (honest S) pre → length pre ≤ 128
    → Apart (matching pre S)
    → All (λ x. length x ≤ L) (matching pre S)
    → (driven (limit pre) wire 0 (begun pre) ≡ (next_of (ended (done (sort (matching pre S)))), own_selects S pre))
    × (own_selects S pre ≤ 2 + count S pre * (8 * L - length pre + 2))
finds-apart wire S L pre h le apart w =
    let m = Machine.finds-apart wire S L pre h le apart w in
    (follows (limit pre) wire pre le ∙ ap (λ r. (next_of r.0, r.1)) m.0, m.1)

-- The same for distinct ids of one length, with document 01's count.
pub finds : (wire : Wire) (S : List Id) (L : ℕ) (pre : Prefix) → Alike wire (honest S) pre → length pre ≤ 128
    → Pods L (matching pre S)
    → (driven (limit pre) wire 0 (begun pre) ≡ (next_of (ended (done (sort (matching pre S)))), selects S L pre))
    × (selects S L pre ≤ 2 + count S pre * (8 * L - length pre + 2))
finds wire S L pre h le pods =
    let m = Machine.finds wire S L pre h le pods in
    (follows (limit pre) wire pre le ∙ ap (λ r. (next_of r.0, r.1)) m.0, m.1)

-- The walk has ended with the table of ids that begin with the prefix and are sorted, none a prefix of another.
pub record Lists (pre : Prefix) (n : Steps.Next) : Type 0 where
  pub ids : List Id
  pub listed : Listed pre ids
  pub walk : n ≡ next_of (ended (done ids))

-- Whatever is heard, a walk that is done has such a table.
pub lists : (wire : Wire) (pre : Prefix) → length pre ≤ 128 → (driven (limit pre) wire 0 (begun pre)).0.goes ≡ Done
    → Lists pre (driven (limit pre) wire 0 (begun pre)).0
unfolding Steps.stopped
lists wire pre le d = go (run wire 0 (discover pre)).0 refl
  where
    at : (driven (limit pre) wire 0 (begun pre)).0 ≡ next_of (ended (run wire 0 (discover pre)).0)
    at = ap (λ r. r.0) (ends wire pre le).0

    go : (e : Ended (List Id)) → (run wire 0 (discover pre)).0 ≡ e
        → Lists pre (driven (limit pre) wire 0 (begun pre)).0
    go (done ids) f = record {
      ids = ids;
      listed = kept-listed wire pre ids f;
      walk = at ∙ ap (λ r. next_of (ended r)) f;
    }
    go (stopped c) f =
        let s : ◌≡◌ {A = Goes} Done (Stopped (end_of c)) =
        sym d ∙ ap (λ n. n.goes) (at ∙ ap (λ r. next_of (ended r)) f) in
        let z : ◌≡◌ {A = ℕ} 0 1 = cc in
        absurd (omega arith)
