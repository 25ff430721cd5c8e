-- Document 01, "Refusal numbers", hex text: text read as an id, and an id written as text.
use Rattle.std.specs.Prelude.{ℕ, ◌+◌, ◌-◌, ◌*◌, ◌/◌, ◌%◌, ◌&&◌, cond, List, [], ◌∷◌, leb, ltb, length}
use Rattle.std.proofs.Math.Option.{Option, none, some}
use Rattle.paper.specs.Hearing.{Id, longest, on_some}

-- "either letter case read": the value of a digit, 16 for any other character. 0 is 48, A is 65, a is 97.
unfoldable pub digit : ℕ → ℕ
digit c =
    cond (leb 48 c && leb c 57) (c - 48)
    (cond (leb 65 c && leb c 70) (c - 55)
    (cond (leb 97 c && leb c 102) (c - 87) 16))

-- "even length .. else 22": two digits for each byte, the higher one first; none if a digit is bad or the length is
-- odd.
unfoldable pub unhex : List ℕ → Option (List ℕ)
unhex [] = some []
unhex (h ∷ []) = none
unhex (h ∷ l ∷ text) =
    cond (ltb (digit h) 16 && ltb (digit l) 16)
    (on_some (unhex text) none (λ bytes. some ((digit h * 16 + digit l) ∷ bytes))) none

-- "Hex text: even length, at most 32 digits, either letter case read .. else 22": none stands for 22.
unfoldable pub parse_uid : List ℕ → Option Id
parse_uid text = cond (leb (length text) (2 * longest)) (unhex text) none

-- "lower case written": 0 is 48, a is 97.
unfoldable pub hex_digit : ℕ → ℕ
hex_digit v = cond (ltb v 10) (48 + v) (87 + v)

-- "lower case written": two digits for each byte, the higher one first.
unfoldable pub hex_text : List ℕ → List ℕ
hex_text [] = []
hex_text (b ∷ bs) = hex_digit (b / 16) ∷ hex_digit (b % 16) ∷ hex_text bs

-- "13, then 16, with nothing written": the text, or a refusal; 16 carries the length needed.
pub data Written : Type 0 where
  wrote : List ℕ → Written
  refuses13 : Written
  refuses16 : ℕ → Written

-- "Writing an id's text gives 13, then 16, with nothing written."
unfoldable pub uid_hex : Id → ℕ → Written
uid_hex id room =
    cond (ltb longest (length id)) refuses13
    (cond (ltb room (length (hex_text id))) (refuses16 (length (hex_text id))) (wrote (hex_text id)))
