-- Document 01, "Ids and hearing": the bits of an id, the payload of a Select, and what is heard in its record.
use Rattle.std.specs.Prelude.{ℕ, zero, suc, ◌+◌, ◌*◌, ◌/◌, ◌%◌, ◌^◌, Bool, true, false, ◌&&◌, ◌||◌, cond, List, [], ◌∷◌, ltb, eqb, length, take, drop}
use Rattle.std.specs.Bool.{beq}
use Rattle.std.proofs.Math.Option.{Option, none, some}
use Rattle.paper.specs.Frame.{byte, Frame, size, Reading, short, too_long, bad_check, whole, read, command-Select}
use Rattle.paper.specs.Frame.{status-Request, status-Ok, status-Unsupported}

-- "Ids and hearing": an id is its bytes.
abbrev pub Id : Type 0
Id = List ℕ

-- "A prefix of k bits": the bits, in order.
abbrev pub Prefix : Type 0
Prefix = List Bool

-- "Bit k of an id is bit k mod 8 of byte k / 8, least significant first."
unfoldable pub bit : Id → ℕ → Bool
bit id k = eqb (byte (k / 8) id / 2 ^ (k % 8) % 2) 1

-- Of the next: the n values f k, f (k + 1), ..
unfoldable pub counting : {A : Type 0} → (ℕ → A) → ℕ → ℕ → List A
counting f k zero = []
counting f k (suc n) = f k ∷ counting f (suc k) n

-- "id 05: bits 1,0,1,0,0,0,0,0": all bits of an id.
unfoldable pub bits_of : Id → List Bool
bits_of id = counting (bit id) 0 (8 * length id)

-- Of the next: whether a list of bits begins with a prefix.
unfoldable pub begins : Prefix → List Bool → Bool
begins [] bits = true
begins (p ∷ ps) [] = false
begins (p ∷ ps) (b ∷ bits) = beq p b && begins ps bits

-- "A prefix of k bits matches an id that has at least k bits and begins with them."
abbrev pub matches : Prefix → Id → Bool
matches prefix id = begins prefix (bits_of id)

-- "least significant first": the number that the bits make.
unfoldable pub binary : List Bool → ℕ
binary [] = 0
binary (b ∷ bits) = cond b 1 0 + 2 * binary bits

-- Of the next: the bits packed into k bytes.
unfoldable pub packed : ℕ → Prefix → List ℕ
packed zero bits = []
packed (suc k) bits = binary (take 8 bits) ∷ packed k (drop 8 bits)

-- "payload: seed, bit count, then the bits in as few bytes as hold them, spare bits 0."
unfoldable pub select_payload : ℕ → Prefix → List ℕ
select_payload seed bits = seed ∷ length bits ∷ packed ((length bits + 7) / 8) bits

-- "Address and flags 0"; "Requests have status 0."
abbrev pub select_frame : ℕ → Prefix → Frame
select_frame seed p = record {
  command = command-Select;
  status = status-Request;
  flags = 0;
  address = 0;
  payload = select_payload seed p;
}

-- "short, too long or of bad check, or bytes were skipped": none in each of these cases, else the frame.
unfoldable pub clean : Reading → Option Frame
clean short = none
clean too_long = none
clean (bad_check k f) = none
clean (whole k f) = cond (eqb k 0) (some f) none

-- "Ids and hearing": a result for none, and one for some.
abbrev pub on_some : {A B : Type 0} → Option A → B → (A → B) → B
on_some none b f = b
on_some (some a) b f = f a

-- "Hearing reads frames until no byte is left (an empty record holds none)": the frames of a record, if all are clean.
-- Each takes at least one byte, so n, the length of the record, bounds their number.
unfoldable pub frames : ℕ → List ℕ → Option (List Frame)
frames zero bytes = some []
frames (suc n) [] = some []
frames (suc n) (b ∷ bs) =
    on_some (clean (read (b ∷ bs))) none (λ f. on_some (frames n (drop (size f) (b ∷ bs))) none (λ fs. some (f ∷ fs)))

-- "Else drop frames of status Request."
unfoldable pub replies : List Frame → List Frame
replies [] = []
replies (f ∷ fs) = cond (eqb f.status status-Request) (replies fs) (f ∷ replies fs)

-- "Nothing .. One with its payload as id .. Unaddressed .. Garble".
pub data Heard : Type 0 where
  nothing : Heard
  one : Id → Heard
  unaddressed : Heard
  garble : Heard

-- "None left: Nothing. One of status Ok: One with its payload as id. One of Unsupported: Unaddressed. Anything else:
-- Garble. The command isn't looked at."
unfoldable pub replies_heard : List Frame → Heard
replies_heard [] = nothing
replies_heard (f ∷ []) = cond (eqb f.status status-Ok) (one f.payload)
    (cond (eqb f.status status-Unsupported) unaddressed garble)
replies_heard (f ∷ g ∷ fs) = garble

-- "if any frame is short, too long or of bad check, or bytes were skipped, it is Garble. Else drop frames of status
-- Request."
unfoldable pub hear : List ℕ → Heard
hear bytes = on_some (frames (length bytes) bytes) garble (λ fs. replies_heard (replies fs))

-- "An id over 16 bytes".
abbrev pub longest : ℕ
longest = 16

-- "by bytes, a shorter id before one that it begins" (of "The walk").
unfoldable pub before : Id → Id → Bool
before [] ys = true
before (x ∷ xs) [] = false
before (x ∷ xs) (y ∷ ys) = ltb x y || (eqb x y && before xs ys)
