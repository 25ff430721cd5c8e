-- A field of several bytes is a field of the first ones, then one of the others.
use Prim.Native.Nat.{ℕ, zero, suc, ◌+◌, ◌*◌, ◌^◌}
use mathlib.Core.List.{List}
use mathlib.Core.Path.{◌≡◌, refl}
use native.Mathlib.Omega.{arith}
use native.Mathlib.Nat.{pow-suc, add-zero, zero-add, suc-add, mul_assoc}
use Rattle.paper.proofs.FieldSuc.{field-suc}
use Rattle.paper.specs.Frame.{number, field}

pub field-none : (at : ℕ) (s : List ℕ) → field at 0 s ≡ 0
unfolding number
field-none at s = refl

-- A field of j + k bytes is a field of j bytes, then one of k bytes.
pub field-add : (j k at : ℕ) (s : List ℕ) → field at (j + k) s ≡ field at j s + 256 ^ j * field (at + j) k s
field-add zero k at s = rw (field-none at s, add-zero at, zero-add k) (omega arith)
field-add (suc j) k at s =
    rw (
      suc-add j k,
      field-suc at (j + k) s,
      field-add j k (at + 1) s,
      field-suc at j s,
      next at j,
      pow-suc 256 j,
      mul_assoc (256 ^ j) 256 (field (at + suc j) k s),
    )
    (omega arith)
  where
    next : (at j : ℕ) → at + 1 + j ≡ at + suc j
    next at j = omega arith
