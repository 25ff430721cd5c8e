-- The answers of writing an id as text, and of reading it.
use Rattle.std.specs.Prelude.{ℕ, List, ◌++◌, length, drop, Result, Ok, Err}
use Rattle.std.proofs.Math.Option.{Option}
use Rattle.paper.specs.Hearing.{on_some}
use Rattle.paper.specs.Text.{Written, wrote, refuses13, refuses16, uid_hex}
use Rattle.wire.specs.declared.Unwritten.{Unwritten}
use Rattle.ids.specs.declared.Id.{Id}
use Rattle.ids.specs.Ids.{id_from}
use Rattle.text.specs.declared.BadText.{BadText}

-- The answer of writing, and the text buffer after it.
pub record Outcome : Type 0 where
  pub answer : Result ℕ Unwritten
  pub bytes : List ℕ

-- The paper's result as the code's answer.
abbrev pub shown : Written → List ℕ → Outcome
shown (wrote text) buffer = record { answer = Ok (length text); bytes = text ++ drop (length text) buffer }
shown refuses13 buffer = record { answer = Err Unwritten.TooLong; bytes = buffer }
shown (refuses16 n) buffer = record { answer = Err (Unwritten.Short n); bytes = buffer }

unfoldable pub written : List ℕ → List ℕ → Outcome
written id buffer = shown (uid_hex id (length buffer)) buffer

unfoldable pub parsed : Option (List ℕ) → Result Id BadText
parsed o = on_some o (Err (record {})) (λ id. Ok (id_from id))
