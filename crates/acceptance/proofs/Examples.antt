-- Document 01, "Examples on both sides": the examples marked M, as a single table.
use Prim.Native.Nat.{ℕ}
use mathlib.Core.Bool.{true, false, cond}
use mathlib.Core.List.{List, [], ◌∷◌, ◌++◌, map}
use mathlib.Core.Option.{none, some}
use mathlib.Core.Path.{◌≡◌, refl}
use lib.Dec.{eqb}
use lib.ListN.{replicate}
use Rattle.paper.specs.Client.{payload_of}
use Rattle.paper.specs.Flash.{accepted, transact, refuse_if, inform, erase_one, erase_all, erase, prepare, repeated}
use Rattle.paper.specs.Flash.{persist, write_within, offsets, write_all, verify, flash}
use Rattle.paper.specs.Frame.{le, number, crc_bit, crc_byte, crc_from, check, Info, info_of, command-Info, command-Verify}
use Rattle.paper.specs.Talk.{select, demand, leave, Talk, return, stop, report, ask, ◌>>=◌, each, Outcome}
use Rattle.paper.specs.Count.{honest, selects}
use Rattle.paper.specs.Hearing.{Id, bit, bits_of, counting, binary, packed, select_payload}
use Rattle.paper.specs.Answers.{Reply, ok, sound, informed, spans_too_far, too_large, reported, incompatible, key, chunk}
use Rattle.paper.specs.Answers.{steps, apart, below, padding, erase_addresses, erase_progress}
use Rattle.paper.specs.Walk.{discover, done, run}
use Rattle.theory.proofs.walk.CountExamples as Discovery

-- A device with this capacity and erase size.
abbrev device : ℕ → ℕ → Info
device capacity erase_size = record {
  capacity = capacity;
  erase_size = erase_size;
  boot_version = 0;
  app_version = 0;
  mode = 0;
  boot_baud = 0;
  compat = 0xFFFFFFFF;
  max_payload = 64;
}

-- The payload of a device's Info: capacity, erase size and max_payload, with compat unset.
abbrev says : ℕ → ℕ → ℕ → List ℕ
says capacity erase_size most = le 4 capacity ++ le 2 erase_size ++ le 4 0 ++ le 2 0 ++ le 4 0xFFFFFFFF ++ le 2 most

-- The replies of a device with this Info: Ok to everything, and to a Verify the image's check.
abbrev replies : List ℕ → List ℕ → ℕ → Reply
replies info image command = cond (eqb command command-Info) (ok info)
    (cond (eqb command command-Verify) (ok (le 2 (check image))) (ok []))

-- A conversation with that device, as lists of numbers: a request is its command, address, flags and payload; progress
-- is two numbers; a refusal is its number and what it carries.
unfoldable pub log : List ℕ → List ℕ → Talk Outcome → List (List ℕ)
log info image (return o) = []
log info image (stop n carries) = (n ∷ carries) ∷ []
log info image (report a b m) = (a ∷ b ∷ []) ∷ log info image m
log info image (ask (select p) f) = []
log info image (ask (demand d) f) =
    (d.command ∷ d.address ∷ d.flags ∷ payload_of d.payload image)
    ∷ log info image (f (record { reply = replies info image d.command; image = image }))
log info image (ask (leave d) f) = []

abbrev asks-Info : List ℕ
asks-Info = 0 ∷ 0 ∷ 0 ∷ []

-- Ids of one byte on an honest wire, and a prefix: the ids found, and the number of Selects, by the walk and by the
-- count.
abbrev Discovers : List Id → Id → List Id → ℕ → Type 0
Discovers ids given found n = (run (honest ids) 0 (discover (bits_of given)) ≡ (done found, n))
    × (selects ids 1 (bits_of given) ≡ n)

pub record Table : Type 0 where
  pub bits-of-05 : bits_of (0x05 ∷ []) ≡ true ∷ false ∷ true ∷ false ∷ false ∷ false ∷ false ∷ false ∷ []
  pub payload-of-101 : select_payload 1 (true ∷ false ∷ true ∷ []) ≡ 0x01 ∷ 0x03 ∷ 0x05 ∷ []
  pub key-of-6 : key (0x78 ∷ 0x56 ∷ 0x34 ∷ 0x12 ∷ 0xAA ∷ 0xBB ∷ []) ≡ some 0x12345678
  pub keys-of-5-8-10 : map (λ n. key (replicate n 0)) (5 ∷ 8 ∷ 10 ∷ []) ≡ none ∷ none ∷ some 0 ∷ []
  pub chunks : map chunk (4 ∷ 7 ∷ 1023 ∷ 65535 ∷ []) ≡ 4 ∷ 4 ∷ 1020 ∷ 1024 ∷ []
  pub erases : erase_addresses (device 5 2) ≡ 0 ∷ 2 ∷ 4 ∷ []
  pub erase-progress : map (erase_progress (device 5 2)) (erase_addresses (device 5 2)) ≡ 2 ∷ 4 ∷ 6 ∷ []
  pub erases-all : log (says 5 2 4) [] erase
      ≡ asks-Info ∷ (1 ∷ 0 ∷ 0 ∷ 2 ∷ 0 ∷ []) ∷ (2 ∷ 5 ∷ []) ∷ (1 ∷ 2 ∷ 0 ∷ 2 ∷ 0 ∷ []) ∷ (4 ∷ 5 ∷ [])
      ∷ (1 ∷ 4 ∷ 0 ∷ 2 ∷ 0 ∷ []) ∷ (6 ∷ 5 ∷ []) ∷ []
  pub flashes-5 :
      log (says 6 6 4) (1 ∷ 2 ∷ 3 ∷ 4 ∷ 5 ∷ []) (flash 5)
      ≡ asks-Info ∷ (1 ∷ 0 ∷ 0 ∷ 6 ∷ 0 ∷ []) ∷ (6 ∷ 6 ∷ []) ∷ (2 ∷ 0 ∷ 0 ∷ 1 ∷ 2 ∷ 3 ∷ 4 ∷ []) ∷ (1 ∷ 2 ∷ [])
      ∷ (2 ∷ 4 ∷ 1 ∷ 5 ∷ 0xFF ∷ 0xFF ∷ 0xFF ∷ []) ∷ (2 ∷ 2 ∷ []) ∷ (3 ∷ 5 ∷ 0 ∷ []) ∷ []
  pub flashes-none : log (says 6 6 4) [] (flash 0)
      ≡ asks-Info ∷ (1 ∷ 0 ∷ 0 ∷ 6 ∷ 0 ∷ []) ∷ (6 ∷ 6 ∷ []) ∷ (3 ∷ 0 ∷ 0 ∷ []) ∷ []
  pub discovers-00-01 : Discovers ((0x00 ∷ []) ∷ (0x01 ∷ []) ∷ []) [] ((0x00 ∷ []) ∷ (0x01 ∷ []) ∷ []) 8
  pub discovers-01-03 : Discovers ((0x01 ∷ []) ∷ (0x03 ∷ []) ∷ []) [] ((0x01 ∷ []) ∷ (0x03 ∷ []) ∷ []) 9
  pub discovers-7F-FF : Discovers ((0x7F ∷ []) ∷ (0xFF ∷ []) ∷ []) [] ((0x7F ∷ []) ∷ (0xFF ∷ []) ∷ []) 11
  pub discovers-under-00 : Discovers ((0x00 ∷ []) ∷ (0x01 ∷ []) ∷ []) (0x00 ∷ []) ((0x00 ∷ []) ∷ []) 2

pub table : Table
unfolding log payload_of accepted transact refuse_if inform erase_one erase_all erase prepare repeated persist
    write_within offsets write_all verify flash each ◌>>=◌ sound informed spans_too_far too_large reported incompatible
    padding le info_of crc_bit crc_byte crc_from check bit bits_of counting binary packed select_payload number key chunk
    steps apart below erase_addresses Discovery.rows
table = record {
  bits-of-05 = refl;
  payload-of-101 = refl;
  key-of-6 = refl;
  keys-of-5-8-10 = refl;
  chunks = refl;
  erases = refl;
  erase-progress = refl;
  erases-all = refl;
  flashes-5 = refl;
  flashes-none = refl;
  discovers-00-01 = ((Discovery.runs).0, (Discovery.counts).0);
  discovers-01-03 = ((Discovery.runs).1.0, (Discovery.counts).1.0);
  discovers-7F-FF = ((Discovery.runs).1.1.0, (Discovery.counts).1.1.0);
  discovers-under-00 = ((Discovery.runs).1.1.1.0, (Discovery.counts).1.1.1.0);
}
