-- What follows from the Info rule: no size of the device is 0, and a chunk has at least 4 bytes.
use Prim.Native.Nat.{ℕ, ◌<◌, ◌≤◌}
use mathlib.Core.Bool.{Bool, true, false, ◌&&◌, cond}
use mathlib.Core.List.{List}
use mathlib.Core.Option.{none, some}
use mathlib.Core.Path.{◌≡◌, refl}
use native.Mathlib.Omega.{arith}
use lib.Dec.{leb, ltb}
use lib.ListN.{length}
use borrow.Author.Tests.{ltb-true, leb-true}
use Rattle.paper.specs.Frame.{Info, info_of}
use Rattle.paper.specs.Answers.{sound, informed, chunk}
use Rattle.paper.proofs.Chunks.{chunk-least}

-- The Info rule, size by size.
pub record Sizes (info : Info) : Type 0 where
  pub erase_size : 0 < info.erase_size
  pub capacity : 0 < info.capacity
  pub max_payload : 4 ≤ info.max_payload

pub sound-sizes : (info : Info) → sound info ≡ true → Sizes info
unfolding sound
sound-sizes info s = go (ltb 0 info.erase_size) refl (ltb 0 info.capacity) refl (leb 4 info.max_payload) refl s
  where
    go : (a : Bool) → ltb 0 info.erase_size ≡ a → (b : Bool) → ltb 0 info.capacity ≡ b → (d : Bool)
        → leb 4 info.max_payload ≡ d → (a && (b && d)) ≡ true → Sizes info
    go true e true f true g s = record {
      erase_size = ltb-true 0 info.erase_size e;
      capacity = ltb-true 0 info.capacity f;
      max_payload = leb-true 4 info.max_payload g;
    }
    go true e true f false g s = absurd (let n : ◌≡◌ {A = ℕ} 0 1 = cc in omega arith)
    go true e false f d g s = absurd (let n : ◌≡◌ {A = ℕ} 0 1 = cc in omega arith)
    go false e b f d g s = absurd (let n : ◌≡◌ {A = ℕ} 0 1 = cc in omega arith)

pub sound-chunk : (info : Info) → sound info ≡ true → 4 ≤ chunk info.max_payload
sound-chunk info s = chunk-least info.max_payload (sound-sizes info s).max_payload

pub informed-sound : (payload : List ℕ) (info : Info) → informed payload ≡ some info → sound info ≡ true
unfolding informed
informed-sound payload info e = go (leb 18 (length payload)) (sound (info_of payload)) refl e
  where
    go : (a b : Bool) → sound (info_of payload) ≡ b → cond (a && b) (some (info_of payload)) none ≡ some info
        → sound info ≡ true
    go true true q e = let same : info_of payload ≡ info = cc in rw same at q
    go true false q e = absurd (let z : ◌≡◌ {A = ℕ} 0 1 = cc in omega arith)
    go false b q e = absurd (let z : ◌≡◌ {A = ℕ} 0 1 = cc in omega arith)
