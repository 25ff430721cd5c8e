-- A client driven over a wire of bytes: each request goes to the wire, and the wire's record is handed in.
use Rattle.std.specs.Prelude as Std
use Rattle.std.specs.Prelude.{ℕ, zero, suc, ◌+◌, ◌%◌, ◌≤◌, ◌<◌, Bool, true, false, cond, List, [], ◌∷◌, ◌≡◌, length, take, drop}
use Rattle.std.proofs.Math.Option.{Option, none}
use Rattle.paper.specs.Client as PaperClient
use Rattle.paper.specs.Client.{bytes_of, refused, over}
use Rattle.paper.specs.Count.{matching, heard_of, All, Distinct, limit}
use Rattle.paper.specs.Frame.{byte, frame_bytes, command-Select, status-Ok}
use Rattle.paper.specs.Hearing.{Id, Prefix, bits_of, begins, matches, hear}
use Rattle.paper.specs.Talk.{select, found}
use Rattle.paper.specs.Walk as PaperWalk
use Rattle.paper.specs.Walk.{sort, Ended, done, stopped}
use Rattle.ids.specs.Ids.{no_id}
use Rattle.walk_table.specs.declared.Table.{Table}
use Rattle.walk_table.specs.Rows.{no_table}
use Rattle.walk.specs.Moves.{no_walk}
use Rattle.client.specs.declared.Client.{Client}
use Rattle.client.specs.declared.Outcome.TheVariants.{Found}
use Rattle.client.specs.declared.Says.{Says}
use Rattle.client.specs.declared.Says.TheVariants.{Granted, Closing, Onward, Over, Refused}
use Rattle.client.specs.declared.Started.{Started}
use Rattle.client.specs.declared.Told.{Told}
use Rattle.client.specs.declared.Turn.TheVariants.{Idle}
use Rattle.client.specs.Numbers.{ids_of, says_of}
use Rattle.client_start.specs.Start.{start_discover}
use Rattle.client_request.specs.Request.{Asking, request}
use Rattle.client_record.specs.Record.{record'}
use Rattle.refinement.specs.CodeWalk.{table_of}
use Rattle.refinement.specs.CodeClient.{is_there, value_of}

-- The record for a request, by how many Selects were sent before it and by its bytes.
abbrev pub Wire : Type 0
Wire = ℕ → List ℕ → List ℕ

-- Cases of an answer: a request is in the buffer, awaited or not; the operation goes on; anything else.
abbrev pub on_says {ℓ} : {A : Type ℓ} → Says → (ℕ → A) → (ℕ → A) → A → A → A
on_says (Granted n) granted closing onward other = granted n
on_says (Closing n) granted closing onward other = closing n
on_says Onward granted closing onward other = onward
on_says (Over o) granted closing onward other = other
on_says (Refused r) granted closing onward other = other

-- The request's bytes, if one is in the buffer.
unfoldable pub sent : Asking → List ℕ
sent a = on_says a.answer.says (λ n. take n a.bytes) (λ n. take n a.bytes) [] []

-- One round: ask for a request, with a buffer lent, and hand in the wire's record for it.
unfoldable pub round : List ℕ → Wire → ℕ → Client → Told
round buffer wire k c = record' (request c [] buffer).answer.client [] (wire k (sent (request c [] buffer)))

unfoldable pub is_onward : Says → Bool
is_onward s = on_says s (λ n. false) (λ n. false) true false

-- At most n rounds while the operation goes on, after k Selects: the last answer, and the number of Selects by then.
unfoldable pub served : ℕ → List ℕ → Wire → ℕ → Told → Told × ℕ
served zero buffer wire k t = (t, k)
served (suc n) buffer wire k t =
    cond (is_onward t.says) (served n buffer wire (suc k) (round buffer wire k t.client)) (t, k)

-- A start's answer, in the form of the answer to a record.
abbrev pub opening : Started → Told
opening s = record { says = s.says; client = s.client; rest = 0; progress = Std.None; id = no_id; found = no_table }

-- A discovery under a prefix of whole bytes, for as many rounds as its limit allows.
unfoldable pub discovered : List ℕ → Wire → Client → Id → Told × ℕ
discovered buffer wire c given = served (limit (bits_of given)) buffer wire 0 (opening (start_discover c given))

-- The client with no operation, with this seed and this attached id or none.
abbrev pub resting : ℕ → Option Id → Client
resting seed id = record {
  front = record {
    seed = seed;
    attached = is_there id;
    id = value_of id;
    turn = Idle;
    prefix = no_id;
    bits = 0;
  };
  walk = no_walk;
}

-- A wire of bytes as document 01's wire. The client began with this seed, and each Select has the next one.
unfoldable pub heard_by : Wire → ℕ → PaperWalk.Wire
heard_by wire seed k q = hear (wire k (bytes_of (select q) ((seed + suc k) % 256) []))

-- "an honest wire": each Select is heard as silence, the one id, or garble, as none, one or several ids match. This
-- covers only the Selects that the discovery can send before its deselect: fewer than the limit were sent before, and
-- the prefix selected extends the given one to at most 128 bits. The client began with this seed.
abbrev pub Honest : Wire → ℕ → Prefix → List Id → Type 0
Honest wire seed given ids =
    (k : ℕ) (q : Prefix) → k < limit given → begins given q ≡ true → length q ≤ 128
    → heard_by wire seed k q ≡ heard_of (matching q ids)

-- The answer at a discovery's end, its table, and the attached id after it. A discovery that is done has deselected.
abbrev pub end_says : Ended (List Id) → PaperClient.Says
end_says (done ids) = over none (found ids)
end_says (stopped n) = refused n []

abbrev pub end_table : Ended (List Id) → Table
end_table (done ids) = table_of ids
end_table (stopped n) = no_table

abbrev pub end_id : Option Id → Ended (List Id) → Option Id
end_id id (done ids) = none
end_id id (stopped n) = id

-- A driven discovery ended as document 01's did: with the same answer and ids, after the same number of Selects, and
-- with no operation left.
pub record EndsAs (seed : ℕ) (id : Option Id) (paper : Ended (List Id) × ℕ) (code : Told × ℕ) : Type 0 where
  pub answer : says_of code.0.says code.0.progress code.0.id code.0.found ≡ end_says paper.0
  pub found : code.0.found ≡ end_table paper.0
  pub client : code.0.client ≡ resting ((seed + paper.1) % 256) (end_id id paper.0)
  pub selects : code.1 ≡ paper.1

-- A driven discovery found exactly these ids after n Selects. They are in the answer and the table, and no id is
-- attached.
pub record Finds (seed : ℕ) (ids : List Id) (n : ℕ) (code : Told × ℕ) : Type 0 where
  pub says : code.0.says ≡ Over Found
  pub answer : ids_of code.0.found ≡ ids
  pub found : code.0.found ≡ table_of ids
  pub client : code.0.client ≡ resting ((seed + n) % 256) none
  pub selects : code.1 ≡ n

-- The ids of an answer: at most 64, distinct, sorted, each of at most 16 bytes and beginning with the prefix.
pub record Lists (prefix : Prefix) (code : Told × ℕ) : Type 0 where
  pub ids : List Id
  pub answer : ids_of code.0.found ≡ ids
  pub found : code.0.found ≡ table_of ids
  pub few : length ids ≤ 64
  pub distinct : Distinct ids
  pub sorted : sort ids ≡ ids
  pub short : All (λ x. length x ≤ 16) ids
  pub matched : All (λ x. matches prefix x ≡ true) ids

-- The prefix in a Select's bytes: byte 11 is the number of its bits, and they start at byte 12.
unfoldable pub bits_in : List ℕ → Prefix
bits_in bytes = take (byte 11 bytes) (bits_of (drop 12 bytes))

-- The record when these ids match: empty, the one id's reply, or a stray byte where several reply at once.
unfoldable pub spoken : List Id → List ℕ
spoken [] = []
spoken (x ∷ []) = frame_bytes (record
    { command = command-Select; status = status-Ok; flags = 0; address = 0; payload = x })
spoken (x ∷ y ∷ zs) = 0 ∷ []

-- The wire of the devices with these ids.
unfoldable pub devices : List Id → Wire
devices ids k bytes = spoken (matching (bits_in bytes) ids)
