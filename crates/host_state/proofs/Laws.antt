-- Laws of a saved client: loading returns what was saved, zero bytes are a fresh client, and any bytes hold a client
-- that fits.
use Prim.Native.Nat.{ℕ, zero, suc, ◌+◌, ◌≤◌}
use mathlib.Core.Bool.{false}
use mathlib.Core.List.{List, [], ◌∷◌, ◌++◌, append-nil}
use mathlib.Core.Path.{◌≡◌, refl, sym, ◌∙◌, ap, ap₂}
use native.Mathlib.Omega.{arith}
use lib.ListN.{length, take, drop, replicate, length-drop, length-replicate}
use lib.Seq.{take_at, length-take-le, take-add, take-take, drop-drop, drop-cons}
use Rattle.paper.specs.Frame.{le, number, field}
use Rattle.paper.proofs.Fields.{Put, before, found, after, own, spread, joined_length, joined-zeros, field_at, byte_at}
use Rattle.paper.proofs.Fields.{byte-below, field_below, bytes_take, bytes_drop}
use Rattle.paper.proofs.Words.{Bytes, le-length, le-number}
use Rattle.ids.specs.declared.Id.{Id}
use Rattle.ids.specs.Ids.{no_id}
use Rattle.walk_table.specs.declared.Table.{Table}
use Rattle.walk_table.specs.Rows.{no_table}
use Rattle.walk.specs.declared.Walk.{Walk}
use Rattle.walk.specs.declared.Place.{Place}
use Rattle.walk.specs.Moves.{walk_of, no_walk}
use Rattle.client.specs.declared.Client.{Client}
use Rattle.client.specs.Clients.{fresh}
use Rattle.client.specs.Verdicts.{front_of}
use Rattle.host_turn.specs.Turns.{flat_of, turn_of, selecting}
use Rattle.host_turn.proofs.Laws.{turn-of-flat, selecting-fits, turn-fits}
use Rattle.host_turn_bytes.specs.TurnBytes.{flag, saved_flat, loaded_flat}
use Rattle.host_turn_bytes.proofs.Laws.{flag-back, flat-length, flat-fits, flat_back, flat-zero}
use Rattle.host_state.specs.State.{size, saved_id, saved_table, saved_walk, saved_head, saved_front, saved, with_walk}
use Rattle.host_state.specs.State.{with_table, with_place, loaded_id, loaded_table, loaded_walk, loaded, Array, IdFits}
use Rattle.host_state.specs.State.{TableFits, WalkFits, Fits}
use Rattle.host_state.proofs.Ways.{id-length, table-length, walk-length, head-length, front_length}

-- The length of what is saved.
module _ (c : Client) (h : Fits c) where
  walk-sized : length (saved_walk c.walk) ≡ 1265
  walk-sized =
      walk-length c.walk h.walk.path.0 h.walk.marks.0
      (table-length c.walk.found h.walk.found.ids.0 h.walk.found.lens.0)
      (id-length c.walk.place.candidate h.walk.candidate.bytes.0)

  front-sized : length (saved_front (front_of c)) ≡ 87
  front-sized = front_length (front_of c) (head-length (front_of c) (id-length c.front.id h.id.bytes.0))
      (id-length c.front.prefix h.prefix.bytes.0)

  pub saved-length : length (saved c) ≡ size
  unfolding saved
  saved-length = joined_length ((1265, saved_walk c.walk) ∷ []) (saved_front (front_of c)) 87 front-sized
      (walk-sized, tt)

-- Loading returns what was saved.
module _ (at : ℕ) (b : List ℕ) where
  pub id-back : (x : Id) → IdFits x → take 17 (drop at b) ≡ saved_id x → loaded_id at b ≡ x
  unfolding saved_id loaded_id
  id-back x h e =
      let s = spread at b ((1, x.len ∷ []) ∷ []) x.bytes 16 h.bytes.0 (refl, tt) e in
      rw (s.0, byte_at (at + 16) 1 (x.len ∷ []) b (omega arith) s.1.0)

  pub table-back : (t : Table) → TableFits t → take 1096 (drop at b) ≡ saved_table t → loaded_table at b ≡ t
  unfolding saved_table loaded_table
  table-back t h e =
      let s = spread at b ((64, t.lens) ∷ (8, le 8 t.count) ∷ []) t.ids 1024 h.ids.0
      (h.lens.0, (le-length 8 t.count, tt)) e in
      rw (s.0, s.1.0, field_at (at + 1088) 8 t.count b h.count s.1.1.0)

module _ (at : ℕ) (b : List ℕ) where
  walk-back : (w : Walk) → WalkFits w → take 1265 (drop at b) ≡ saved_walk w → loaded_walk at b ≡ w
  unfolding saved_walk loaded_walk
  walk-back w h e =
      let s = spread at b ((8, le 8 w.place.depth) ∷ (128, w.place.marks) ∷ (1096, saved_table w.found)
      ∷ (17, saved_id w.place.candidate) ∷ []) w.place.path 16 h.path.0 (
        le-length 8 w.place.depth,
        (
          h.marks.0,
          (
            table-length w.found h.found.ids.0 h.found.lens.0,
            (id-length w.place.candidate h.candidate.bytes.0, tt),
          ),
        ),
      ) e in
      rw (
        s.0,
        field_at (at + 16) 8 w.place.depth b h.depth s.1.0,
        s.1.1.0,
        table-back (at + 152) b w.found h.found s.1.1.1.0,
        id-back (at + 1248) b w.place.candidate h.candidate s.1.1.1.1.0,
      )

client-back : (c : Client) (b : List ℕ) → Fits c → take size (drop 0 b) ≡ saved c → loaded b ≡ c
unfolding saved saved_head saved_front loaded
client-back c b h e =
    let s = spread 0 b ((1265, saved_walk c.walk) ∷ []) (saved_front (front_of c)) 87 (front-sized c h)
    (walk-sized c h, tt) e in
    let f = spread 0 b ((1, flag c.front.attached ∷ []) ∷ (17, saved_id c.front.id) ∷ (50, saved_flat (flat_of c.front.turn))
    ∷ (17, saved_id c.front.prefix) ∷ (1, c.front.bits ∷ []) ∷ []) (c.front.seed ∷ []) 1 refl (
      refl,
      (
        id-length c.front.id h.id.bytes.0,
        (flat-length (flat_of c.front.turn), (id-length c.front.prefix h.prefix.bytes.0, (refl, tt))),
      ),
    ) s.0 in
    let turn : turn_of (loaded_flat 19 b) ≡ c.front.turn =
    ap turn_of (flat_back 19 b (flat_of c.front.turn) h.turn f.1.1.1.0) ∙ turn-of-flat c.front.turn in
    rw (
      byte_at 0 1 (c.front.seed ∷ []) b (omega arith) f.0,
      byte_at 1 1 (flag c.front.attached ∷ []) b (omega arith) f.1.0,
      flag-back c.front.attached,
      id-back 2 b c.front.id h.id f.1.1.0,
      turn,
      id-back 69 b c.front.prefix h.prefix f.1.1.1.1.0,
      byte_at 86 1 (c.front.bits ∷ []) b (omega arith) f.1.1.1.1.1.0,
      walk-back 87 b c.walk h.walk s.1.0,
    )

pub loaded-saved : (c : Client) → Fits c → (more : List ℕ) → loaded (saved c ++ more) ≡ c
loaded-saved c h more = client-back c (saved c ++ more) h (take_at (saved c) more size (saved-length c h))

-- Any bytes hold a client that fits.
module _ (b : List ℕ) (hb : Bytes b) where
  array-fits : (n at : ℕ) → at + n ≤ length b → Array n (take n (drop at b))
  array-fits n at room = (
    length-take-le n (drop at b) (omega (arith, length-drop at b)),
    bytes_take n (drop at b) (bytes_drop at b hb),
  )

  id-fits : (at : ℕ) → at + 17 ≤ length b → IdFits (loaded_id at b)
  unfolding loaded_id
  id-fits at room = record { bytes = array-fits 16 at (omega arith); len = byte-below b (at + 16) hb }

  table_fits : (at : ℕ) → at + 1096 ≤ length b → TableFits (loaded_table at b)
  unfolding loaded_table
  table_fits at room = record {
    ids = array-fits 1024 at (omega arith);
    lens = array-fits 64 (at + 1024) (omega arith);
    count = field_below 8 (at + 1088) b hb;
  }

  walk-fits : (at : ℕ) → at + 1265 ≤ length b → WalkFits (loaded_walk at b)
  unfolding loaded_walk
  walk-fits at room = record {
    path = array-fits 16 at (omega arith);
    depth = field_below 8 (at + 16) b hb;
    marks = array-fits 128 (at + 24) (omega arith);
    found = table_fits (at + 152) (omega arith);
    candidate = id-fits (at + 1248) (omega arith);
  }

  pub loaded-fits : size ≤ length b → Fits (loaded b)
  unfolding loaded
  loaded-fits room = record {
    seed = byte-below b 0 hb;
    id = id-fits 2 (omega arith);
    turn = turn-fits (loaded_flat 19 b) (flat-fits 19 b hb);
    prefix = id-fits 69 (omega arith);
    bits = byte-below b 86 hb;
    walk = walk-fits 87 (omega arith);
  }

-- A fresh client is saved as zero bytes.
pub zero-bytes : (n : ℕ) → Bytes (replicate n 0)
zero-bytes zero = tt
zero-bytes (suc n) = (omega arith, zero-bytes n)

id-zero : saved_id no_id ≡ replicate 17 0
unfolding saved_id no_id
id-zero = joined-zeros ((1, 0 ∷ []) ∷ []) 16 (refl, tt)

pub table-zero : saved_table no_table ≡ replicate 1096 0
unfolding saved_table no_table le
table-zero = joined-zeros ((64, replicate 64 0) ∷ (8, le 8 0) ∷ []) 1024 (refl, (refl, tt))

walk-zero : saved_walk no_walk ≡ replicate 1265 0
unfolding saved_walk no_walk le
walk-zero = joined-zeros ((8, le 8 0) ∷ (128, replicate 128 0) ∷ (1096, saved_table no_table) ∷ (17, saved_id no_id) ∷ [])
    16 (refl, (refl, (table-zero, (id-zero, tt))))

front-zero : saved_front (front_of fresh) ≡ replicate 87 0
unfolding saved_head saved_front fresh flat_of
front-zero =
    joined-zeros ((1, 0 ∷ []) ∷ (17, saved_id no_id) ∷ (50, saved_flat (selecting 0 0 false 0 false)) ∷ (17, saved_id no_id)
    ∷ (1, 0 ∷ []) ∷ []) 1
    (refl, (id-zero, (flat-zero, (id-zero, (refl, tt)))))

pub fresh-is-zero : saved fresh ≡ replicate size 0
unfolding saved fresh
fresh-is-zero = ap (λ (s : List ℕ). s ++ saved_walk no_walk) front-zero
    ∙ joined-zeros ((1265, saved_walk no_walk) ∷ []) 87 (walk-zero, tt)

zero-array : (n : ℕ) → Array n (replicate n 0)
zero-array n = (length-replicate n 0, zero-bytes n)

pub no-id-fits : IdFits no_id
unfolding no_id
no-id-fits = record { bytes = zero-array 16; len = omega arith }

pub no-table-fits : TableFits no_table
unfolding no_table
no-table-fits = record { ids = zero-array 1024; lens = zero-array 64; count = omega arith }

pub no-walk-fits : WalkFits no_walk
unfolding no_walk
no-walk-fits = record {
  path = zero-array 16;
  depth = omega arith;
  marks = zero-array 128;
  found = no-table-fits;
  candidate = no-id-fits;
}

pub fresh-fits : Fits fresh
unfolding fresh flat_of
fresh-fits = record {
  seed = omega arith;
  id = no-id-fits;
  turn = selecting-fits 0 (omega arith) 0 0 false false (omega arith) (omega arith);
  prefix = no-id-fits;
  bits = omega arith;
  walk = no-walk-fits;
}

pub zero-is-fresh : loaded (replicate size 0) ≡ fresh
zero-is-fresh = ap loaded (sym (append-nil (saved fresh) ∙ fresh-is-zero)) ∙ loaded-saved fresh fresh-fits []

-- Saving what was loaded returns the same bytes.
parts : (at n m : ℕ) (b : List ℕ) → take (n + m) (drop at b) ≡ take n (drop at b) ++ take m (drop (at + n) b)
parts at n m b = take-add n m (drop at b) ∙ ap (λ (s : List ℕ). take n (drop at b) ++ take m s) (drop-drop n at b)

module _ (b : List ℕ) (hb : Bytes b) where
  field-same : (at : ℕ) → at + 8 ≤ length b → le 8 (field at 8 b) ≡ take 8 (drop at b)
  field-same at h =
      let x = take 8 (drop at b) in
      ap (λ (n : ℕ). le n (number x)) (sym (length-take-le 8 (drop at b) (omega (arith, length-drop at b))))
      ∙ le-number x (bytes_take 8 (drop at b) (bytes_drop at b hb))

  id_same : (at : ℕ) → at + 17 ≤ length b → saved_id (loaded_id at b) ≡ take 17 (drop at b)
  unfolding saved_id loaded_id
  id_same at h = sym (parts at 16 1 b
      ∙ ap (λ (s : List ℕ). take 16 (drop at b) ++ s) (ap (take 1) (drop-cons b (at + 16) 0 (omega arith))))

  pub table_same : (at : ℕ) → at + 1096 ≤ length b → saved_table (loaded_table at b) ≡ take 1096 (drop at b)
  unfolding saved_table loaded_table
  table_same at h = ap₂ (λ (x y : List ℕ). x ++ y) (sym (parts at 1024 64 b)) (field-same (at + 1088) (omega arith))
      ∙ sym (parts at 1088 8 b)

  walk_same : size ≤ length b → saved_walk (loaded_walk 87 b) ≡ take 1265 (drop 87 b)
  unfolding saved_walk loaded_walk
  walk_same h =
      rw (field-same 103 (omega arith), table_same 239 (omega arith), id_same 1335 (omega arith))
      (sym (parts 87 1248 17 b ∙ ap (λ (s : List ℕ). s ++ take 17 (drop 1335 b))
      (parts 87 152 1096 b ∙ ap (λ (s : List ℕ). s ++ take 1096 (drop 239 b))
      (parts 87 24 128 b ∙ ap (λ (s : List ℕ). s ++ take 128 (drop 111 b)) (parts 87 16 8 b)))))

  pub walk-stays : size ≤ length b → b ≡ with_walk (loaded_walk 87 b) b
  unfolding with_walk
  walk-stays h = (own 87 1265 b h).holds ∙ ap (λ (s : List ℕ). take 87 b ++ s ++ drop size b) (sym (walk_same h))

-- Writing another list and then another place is writing another walk.
module _ (s s₁ : List ℕ) (p : Place) (t : Table) (room : size ≤ length s) (h : length (saved_table t) ≡ 1096)
    (e : s₁ ≡ with_table t s) where
  put : Put 239 1096 (saved_table t) s s₁
  unfolding with_table
  put = record { sized = h; holds = e }

  r : 239 ≤ length s
  r = omega arith

  pub placed-in : with_place p s₁ ≡ with_walk (walk_of p t) s
  unfolding with_place with_walk saved_walk
  placed-in =
      rw (
        sym (take-take 87 239 s₁ (omega arith)) ∙ ap (take 87) (before r put) ∙ take-take 87 239 s (omega arith),
        found r put,
        sym (drop-drop 17 1335 s₁) ∙ ap (drop 17) (after r put) ∙ drop-drop 17 1335 s,
      )
