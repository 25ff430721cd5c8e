-- Acceptance condition 3 for the walk machine: it ends within the limit, and on an honest wire finds exactly the ids
-- that match.
use Prim.Native.Nat.{ℕ, ◌+◌, ◌-◌, ◌*◌, ◌≤◌}
use mathlib.Core.List.{List}
use mathlib.Core.Path.{◌≡◌, sym, ◌∙◌, ap}
use lib.ListN.{length}
use Rattle.paper.specs.Count.{matching, honest, All, Pods, count, selects, limit}
use Rattle.paper.specs.Hearing.{Id, Prefix}
use Rattle.paper.specs.Walk.{sort, discover, Wire, done, run}
use Rattle.theory.specs.WalkMachine.{ended, start, drive}
use Rattle.theory.specs.PrefixFree.{Apart, own_selects}
use Rattle.theory.proofs.walk.SelectsBounded.{discover-bound}
use Rattle.theory.proofs.walk.FindsExactly.{discover-apart}
use Rattle.theory.proofs.walk.ListedIds.{Listed, kept-listed}
use Rattle.theory.proofs.walk.CountAtMost.{own-most, selects-most}
use Rattle.theory.proofs.walk.OneLength.{discover-exact}
use Rattle.theory.proofs.walk.MachineIsWalk.{machine-discovers}
use Rattle.theory.proofs.walk.SelectsSent.{Alike}

-- Whatever is heard, the machine ends within the limit, as the discovery does and after the same number of Selects.
pub ends : (wire : Wire) (pre : Prefix)
    → (drive (limit pre) wire 0 (start pre) ≡ (ended (run wire 0 (discover pre)).0, (run wire 0 (discover pre)).1))
    × ((run wire 0 (discover pre)).1 ≤ limit pre)
ends wire pre = (machine-discovers wire pre, discover-bound wire pre)

-- On an honest wire it finds exactly the ids that match, sorted, after exactly the Selects counted with each id's own
-- length. For n ids of at most L bytes the count is at most 2 + n * (8 L - p + 2).
pub finds-apart : (wire : Wire) (S : List Id) (L : ℕ) (pre : Prefix) → Alike wire (honest S) pre → length pre ≤ 128
    → Apart (matching pre S)
    → All (λ x. length x ≤ L) (matching pre S)
    → (drive (limit pre) wire 0 (start pre) ≡ (ended (done (sort (matching pre S))), own_selects S pre))
    × (own_selects S pre ≤ 2 + count S pre * (8 * L - length pre + 2))
finds-apart wire S L pre h le apart w = (
  machine-discovers wire pre ∙ ap (λ r. (ended r.0, r.1))
      (discover-apart wire S pre h le apart),
  own-most S L pre apart w,
)

-- The same for distinct ids of one length, with the paper's count.
pub finds : (wire : Wire) (S : List Id) (L : ℕ) (pre : Prefix) → Alike wire (honest S) pre → length pre ≤ 128
    → Pods L (matching pre S)
    → (drive (limit pre) wire 0 (start pre) ≡ (ended (done (sort (matching pre S))), selects S L pre))
    × (selects S L pre ≤ 2 + count S pre * (8 * L - length pre + 2))
finds wire S L pre h le pods = (
  machine-discovers wire pre ∙ ap (λ r. (ended r.0, r.1))
      (discover-exact wire S L pre h le pods),
  selects-most S L pre pods,
)

-- Whatever is heard, the ids that the machine lists begin with the prefix and are sorted, and none is a prefix of
-- another.
pub lists : (wire : Wire) (pre : Prefix) (ids : List Id) (c : ℕ)
    → drive (limit pre) wire 0 (start pre) ≡ (ended (done ids), c) → Listed pre ids
lists wire pre ids c e =
    let same : ended (run wire 0 (discover pre)).0 ≡ ended (done ids) =
    ap (λ r. r.0) (sym (machine-discovers wire pre) ∙ e) in
    kept-listed wire pre ids (cc)
