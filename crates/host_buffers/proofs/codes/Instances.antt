-- Examples: each theorem with a premise, applied to values that meet it.
use Prim.Native.Nat.{◌/◌, ◌%◌}
use mathlib.Core.Path.{◌≡◌}
use native.Mathlib.Omega.{arith}
use Rattle.host_buffers.specs.Codes.{coded}
use Rattle.host_buffers.proofs.codes.Laws.{code-number, code-length}

-- A buffer too short for 1,036 bytes: 16, and the length needed.
pub code-number-met : coded 16 1036 % 256 ≡ 16
code-number-met = code-number 16 1036 (omega arith)

pub code-length-met : coded 16 1036 / 256 ≡ 1036
code-length-met = code-length 16 1036 (omega arith) (omega arith)
