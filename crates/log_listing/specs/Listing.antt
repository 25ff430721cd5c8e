-- The text of an answer, and the buffer that it is written to.
use Rattle.std.specs.Prelude.{ℕ, cond, List, [], ◌∷◌, ◌++◌, map, ltb, length, drop}
use Rattle.paper.specs.Hearing as Paper
use Rattle.paper.specs.Text.{hex_text}
use Rattle.paper.specs.Log.{id_lines, last_line}
use Rattle.ids.specs.Ids.{id_of}
use Rattle.walk_table.specs.declared.Entry.{Entry}
use Rattle.walk_table.specs.declared.Table.{Table}
use Rattle.walk_table.specs.Rows.{rows}
use Rattle.log_listing.specs.declared.Answer.{Answer}

-- How many rows are in use: at most 64.
unfoldable pub used : Table → ℕ
used t = cond (ltb t.count 64) t.count 64

abbrev pub in_row : Entry → Paper.Id
in_row x = id_of x.id

-- The ids of the first n rows.
unfoldable pub first_ids : Table → ℕ → List Paper.Id
first_ids t n = map in_row (rows t 0 n)

-- Bytes as hexadecimal digits, and LF.
abbrev pub line : List ℕ → List ℕ
line bytes = hex_text bytes ++ (10 ∷ [])

-- How many bytes were written, and the buffer after that.
pub record Placed : Type 0 where
  pub len : ℕ
  pub bytes : List ℕ

-- A text written to the front of a buffer. The bytes after it stay.
abbrev pub placed : List ℕ → List ℕ → Placed
placed text buffer = record { len = length text; bytes = text ++ drop (length text) buffer }

-- The whole output.
unfoldable pub text : Answer → List ℕ
text a = id_lines (first_ids a.found (used a.found)) ++ last_line a.code (used a.found) a.selects
