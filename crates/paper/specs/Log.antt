-- Document 01, "The bench log program": standard output as a function of standard input.
use Rattle.std.specs.Prelude.{ℕ, suc, ◌/◌, ◌%◌, cond, List, [], ◌∷◌, ◌++◌, leb, ltb, eqb, length}
use Rattle.std.proofs.Math.Option.{Option, none, some}
use Rattle.paper.specs.Hearing.{Id, longest, bits_of, hear, on_some}
use Rattle.paper.specs.Walk.{Walk, discover, Ended, done, stopped}
use Rattle.paper.specs.Text.{hex_text, unhex}

-- Of the next: one more character at the front of the first line.
unfoldable pub longer : ℕ → List (List ℕ) → List (List ℕ)
longer b [] = (b ∷ []) ∷ []
longer b (l ∷ ls) = (b ∷ l) ∷ ls

-- "A line ends in LF; a last one that isn't empty may lack it."
unfoldable pub lines : List ℕ → List (List ℕ)
lines [] = []
lines (b ∷ bs) = cond (eqb b 10) ([] ∷ lines bs) (longer b (lines bs))

-- "each Select's record": there is no further one, the next one is bad, or there is one and those after it.
pub data Records : Type 0 where
  missing : Records
  spoilt : Records
  next : List ℕ → Records → Records

-- "its lines joined, ended by an empty line. Odd length, a bad digit, a record over 4,096 bytes .. ends the run with
-- answer 22; a record without its empty line gives 1. The first met counts": acc is what the lines of this record have
-- given so far, and cap is the limit of its length.
unfoldable pub joined : ℕ → List ℕ → List (List ℕ) → Records
joined cap acc [] = missing
joined cap acc ([] ∷ ls) = next acc (joined cap [] ls)
joined cap acc ((b ∷ l) ∷ ls) =
    on_some (unhex (b ∷ l)) spoilt (λ bytes. cond (ltb cap (length (acc ++ bytes))) spoilt
    (joined cap (acc ++ bytes) ls))

-- "Selects handed out": the run of a conversation over the records of a log, after k Selects: how it ends, and how many
-- Selects were handed out by then.
unfoldable pub over_records : {A : Type 0} → Walk A → Records → ℕ → Ended A × ℕ
over_records (Walk.return a) rs k = (done a, k)
over_records (Walk.stop c) rs k = (stopped c, k)
over_records (Walk.select p f) missing k = (stopped 1, suc k)
over_records (Walk.select p f) spoilt k = (stopped 22, suc k)
over_records (Walk.select p f) (next bytes rs) k = over_records (f (hear bytes)) rs (suc k)

-- "Line one: 01 and prefix bytes."
unfoldable pub prefix_in : List ℕ → Option Id
prefix_in [] = none
prefix_in (b ∷ bytes) = cond (eqb b 1) (some bytes) none

-- "a first line missing or not beginning with 01 ends the run with answer 22": the whole line is judged first (22),
-- then the length of its prefix (13).
unfoldable pub opened : List (List ℕ) → Ended (List Id) × ℕ
opened [] = (stopped 22, 0)
opened (l ∷ ls) =
    on_some (unhex l) (stopped 22, 0) (λ bytes. on_some (prefix_in bytes) (stopped 22, 0) (λ given.
    cond (leb (length given) longest) (over_records (discover (bits_of given)) (joined 4096 [] ls) 0) (stopped 13, 0)))

-- "each id on a line".
unfoldable pub id_lines : List Id → List ℕ
id_lines [] = []
id_lines (x ∷ xs) = hex_text x ++ (10 ∷ id_lines xs)

-- "answer (1 byte, 00 for success), count of those ids (1), Selects handed out (2, high first)."
abbrev pub last_line : ℕ → ℕ → ℕ → List ℕ
last_line answer count k = hex_text (answer ∷ count ∷ k / 256 ∷ k % 256 ∷ []) ++ (10 ∷ [])

-- "each id on a line (none after a refusal), then one line".
unfoldable pub shown : Ended (List Id) → ℕ → List ℕ
shown (done ids) k = id_lines ids ++ last_line 0 (length ids) k
shown (stopped c) k = last_line c 0 k

-- "The bench log program": standard output as a function of standard input.
unfoldable pub output : List ℕ → List ℕ
output input = shown (opened (lines input)).0 (opened (lines input)).1
