-- The client as bytes, its fields in order, each in its width, lowest byte first; and the client that any bytes hold.
use Rattle.std.specs.Prelude.{ℕ, ◌+◌, ◌<◌, ◌^◌, List, [], ◌∷◌, ◌++◌, ◌≡◌, length, take, drop}
use Rattle.paper.specs.Frame.{le, byte, field}
use Rattle.paper.proofs.Words.{Bytes}
use Rattle.ids.specs.declared.Id.{Id}
use Rattle.walk_table.specs.declared.Table.{Table}
use Rattle.walk.specs.declared.Walk.{Walk}
use Rattle.walk.specs.declared.Place.{Place}
use Rattle.walk.specs.Moves.{place_of}
use Rattle.client.specs.declared.Client.{Client}
use Rattle.client.specs.declared.Front.{Front}
use Rattle.client.specs.Verdicts.{front_of}
use Rattle.host_turn.specs.Turns.{flat_of, turn_of, FlatFits}
use Rattle.host_turn_bytes.specs.TurnBytes.{flag, flagged, saved_flat, loaded_flat}

-- How many bytes a client takes.
abbrev pub size : ℕ
size = 1352

-- Sizes in bytes: an id 17, a table 1096, a walk 1265, a front 87, of which 69 come before the prefix.
unfoldable pub saved_id : Id → List ℕ
saved_id x = x.bytes ++ (x.len ∷ [])

unfoldable pub saved_table : Table → List ℕ
saved_table t = t.ids ++ t.lens ++ le 8 t.count

-- A walk's bytes, from its place and the bytes of its list.
abbrev pub saved_place : Place → List ℕ → List ℕ
saved_place p list = p.path ++ le 8 p.depth ++ p.marks ++ list ++ saved_id p.candidate

unfoldable pub saved_walk : Walk → List ℕ
saved_walk w = saved_place (place_of w) (saved_table w.found)

unfoldable pub saved_head : Front → List ℕ
saved_head f = (f.seed ∷ []) ++ (flag f.attached ∷ []) ++ saved_id f.id ++ saved_flat (flat_of f.turn)

unfoldable pub saved_front : Front → List ℕ
saved_front f = saved_head f ++ saved_id f.prefix ++ (f.bits ∷ [])

unfoldable pub saved : Client → List ℕ
saved c = saved_front (front_of c) ++ saved_walk c.walk

-- What is read from a place in some bytes. The state: seed at 0, whether an id is attached at 1, that id at 2 to 18, the
-- turn at 19, the prefix at 69, its bits at 86, the walk from 87 on.
unfoldable pub loaded_id : ℕ → List ℕ → Id
loaded_id at b = record { bytes = take 16 (drop at b); len = byte (at + 16) b }

unfoldable pub loaded_table : ℕ → List ℕ → Table
loaded_table at b = record {
  ids = take 1024 (drop at b);
  lens = take 64 (drop (at + 1024) b);
  count = field (at + 1088) 8 b;
}

unfoldable pub loaded_walk : ℕ → List ℕ → Walk
loaded_walk at b = record {
  place = record {
    path = take 16 (drop at b);
    depth = field (at + 16) 8 b;
    marks = take 128 (drop (at + 24) b);
    candidate = loaded_id (at + 1248) b;
  };
  found = loaded_table (at + 152) b;
}

unfoldable pub loaded : List ℕ → Client
loaded b = record {
  front = record {
    seed = byte 0 b;
    attached = flagged (byte 1 b);
    id = loaded_id 2 b;
    turn = turn_of (loaded_flat 19 b);
    prefix = loaded_id 69 b;
    bits = byte 86 b;
  };
  walk = loaded_walk 87 b;
}

-- A client's bytes with another walk; with another list; with another place of the walk. All other bytes stay.
unfoldable pub with_walk : Walk → List ℕ → List ℕ
with_walk w s = take 87 s ++ saved_walk w ++ drop size s

unfoldable pub with_table : Table → List ℕ → List ℕ
with_table t s = take 239 s ++ saved_table t ++ drop 1335 s

unfoldable pub with_place : Place → List ℕ → List ℕ
with_place p s = take 87 s ++ saved_place p (take 1096 (drop 239 s)) ++ drop size s

-- The ranges of a client's fields, as their types give them.
abbrev pub Array : ℕ → List ℕ → Type 0
Array n x = (length x ≡ n) × Bytes x

pub record IdFits (x : Id) : Type 0 where
  pub bytes : Array 16 x.bytes
  pub len : x.len < 2 ^ 8

pub record TableFits (t : Table) : Type 0 where
  pub ids : Array 1024 t.ids
  pub lens : Array 64 t.lens
  pub count : t.count < 2 ^ 64

pub record WalkFits (w : Walk) : Type 0 where
  pub path : Array 16 w.place.path
  pub depth : w.place.depth < 2 ^ 64
  pub marks : Array 128 w.place.marks
  pub found : TableFits w.found
  pub candidate : IdFits w.place.candidate

pub record Fits (c : Client) : Type 0 where
  pub seed : c.front.seed < 2 ^ 8
  pub id : IdFits c.front.id
  pub turn : FlatFits (flat_of c.front.turn)
  pub prefix : IdFits c.front.prefix
  pub bits : c.front.bits < 2 ^ 8
  pub walk : WalkFits c.walk
