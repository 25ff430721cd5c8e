-- The codes that exported calls return: for answers, ids, texts and keys.
use Rattle.std.specs.Prelude.{ℕ, Option, Some, None, Result, Ok, Err, ◌+◌, ◌*◌, ◌%◌, cond, List, ◌++◌, ltb, length, drop}
use Rattle.ids.specs.declared.Id.{Id}
use Rattle.ids.specs.Ids.{id_of}
use Rattle.wire.specs.declared.Unwritten.{Unwritten}
use Rattle.text.specs.declared.BadText.{BadText}
use Rattle.text.specs.Texts as Texts

-- A code: the number in the low byte, the length above it. The length of every answer is below 2 ^ 56.
unfoldable pub coded : ℕ → ℕ → ℕ
coded number length = number + 256 * (length % 0x100000000000000)

-- A code, and the output buffer after the call.
pub record Coded : Type 0 where
  pub code : ℕ
  pub bytes : List ℕ

-- Ids as text, and texts as ids.
unfoldable pub written_code : Result ℕ Unwritten → ℕ
written_code (Ok n) = coded 0 n
written_code (Err (Unwritten.Short n)) = coded 16 n
written_code (Err Unwritten.TooLong) = coded 13 0

unfoldable pub writes : Texts.Outcome → Coded
writes o = record { code = written_code o.answer; bytes = o.bytes }

unfoldable pub put_uid : Id → List ℕ → Coded
put_uid x out =
    cond (ltb (length out) (length (id_of x)))
    (record { code = coded 16 (length (id_of x)); bytes = out })
    (record { code = coded 0 (length (id_of x)); bytes = id_of x ++ drop (length (id_of x)) out })

unfoldable pub read_uid : Result Id BadText → List ℕ → Coded
read_uid (Ok x) out = put_uid x out
read_uid (Err bad) out = record { code = coded 22 0; bytes = out }

-- A key, with bit 32 set to say that there is one.
unfoldable pub key_code : Option ℕ → ℕ
key_code (Some k) = k + 0x100000000
key_code None = 0

-- The place where the unread rest of a record of n bytes begins, at most n.
unfoldable pub rest_from : ℕ → ℕ → ℕ
rest_from n at = cond (ltb at n) at n
