-- Lemmas for the functions that save a client, and the length of each part.
use Prim.Native.Nat.{ℕ, ◌≤◌}
use mathlib.Core.List.{List, [], ◌∷◌, ◌++◌}
use mathlib.Core.Path.{◌≡◌, refl, ◌∙◌}
use native.Mathlib.Omega.{arith}
use lib.ListN.{length, take, drop}
use Rattle.paper.specs.Frame.{le}
use Rattle.paper.proofs.Fields.{Put, num, one, behind, after, own, put-length, joined_length}
use Rattle.paper.proofs.Words.{le-length}
use Rattle.ids.specs.declared.Id.{Id}
use Rattle.walk_table.specs.declared.Table.{Table}
use Rattle.walk.specs.declared.Walk.{Walk}
use Rattle.walk.specs.declared.Place.{Place}
use Rattle.client.specs.declared.Front.{Front}
use Rattle.host_turn.specs.declared.Flat.{Flat}
use Rattle.host_turn.specs.Turns.{flat_of}
use Rattle.host_turn_bytes.specs.TurnBytes.{flag, saved_flat}
use Rattle.host_turn_bytes.proofs.Laws.{flat-length}
use Rattle.host_state.specs.State.{size, saved_id, saved_table, saved_walk, saved_head, saved_front, with_place}

-- The length of each part.
pub id-length : (x : Id) → length x.bytes ≡ 16 → length (saved_id x) ≡ 17
unfolding saved_id
id-length x h = joined_length ((1, x.len ∷ []) ∷ []) x.bytes 16 h (refl, tt)

pub table-length : (t : Table) → length t.ids ≡ 1024 → length t.lens ≡ 64 → length (saved_table t) ≡ 1096
unfolding saved_table
table-length t hi hl = joined_length ((64, t.lens) ∷ (8, le 8 t.count) ∷ []) t.ids 1024 hi
    (hl, (le-length 8 t.count, tt))

pub walk-length : (w : Walk) → length w.place.path ≡ 16 → length w.place.marks ≡ 128 → length (saved_table w.found) ≡ 1096
    → length (saved_id w.place.candidate) ≡ 17
    → length (saved_walk w) ≡ 1265
unfolding saved_walk
walk-length w hp hm ht hx =
    joined_length ((8, le 8 w.place.depth) ∷ (128, w.place.marks) ∷ (1096, saved_table w.found)
    ∷ (17, saved_id w.place.candidate) ∷ []) w.place.path 16 hp
    (le-length 8 w.place.depth, (hm, (ht, (hx, tt))))

module _ (f : Front) where
  pub head-length : length (saved_id f.id) ≡ 17 → length (saved_head f) ≡ 69
  unfolding saved_head
  head-length h =
      joined_length ((1, flag f.attached ∷ []) ∷ (17, saved_id f.id) ∷ (50, saved_flat (flat_of f.turn)) ∷ [])
      (f.seed ∷ []) 1 refl
      (refl, (h, (flat-length (flat_of f.turn), tt)))

  pub front_length : length (saved_head f) ≡ 69 → length (saved_id f.prefix) ≡ 17 → length (saved_front f) ≡ 87
  unfolding saved_front
  front_length h k = joined_length ((17, saved_id f.prefix) ∷ (1, f.bits ∷ []) ∷ []) (saved_head f) 69 h
      (k, (refl, tt))

-- Saving.
module _ (b d₁ d₂ d₃ d₄ : List ℕ) where
  pub put-head : (f : Front) (x : Flat) (g : ℕ) → length (saved_id f.id) ≡ 17 → x ≡ flat_of f.turn
      → g ≡ flag f.attached → d₁ ≡ (f.seed ∷ []) ++ drop 1 b
      → d₂ ≡ take 1 d₁ ++ (g ∷ []) ++ drop 2 d₁ → d₃ ≡ take 2 d₂ ++ saved_id f.id ++ drop 19 d₂
      → d₄ ≡ take 19 d₃ ++ saved_flat x ++ drop 69 d₃
      → d₄ ≡ saved_head f ++ drop 69 b
  unfolding saved_head
  put-head f x g h ef eg e₁ e₂ e₃ e₄ =
      let first : Put 0 1 (f.seed ∷ []) b d₁ = record { sized = refl; holds = e₁ } in
      let second : Put 1 1 (g ∷ []) d₁ d₂ = record { sized = refl; holds = e₂ } in
      let third : Put 2 17 (saved_id f.id) d₂ d₃ = record { sized = h; holds = e₃ } in
      let fourth : Put 19 50 (saved_flat x) d₃ d₄ = record { sized = flat-length x; holds = e₄ } in
      (behind (omega arith) (behind (omega arith) (behind (omega arith) first second) third) fourth).holds ∙ rw (eg, ef)

  pub put_front : (f : Front) → length (saved_head f) ≡ 69 → length (saved_id f.prefix) ≡ 17
      → d₁ ≡ saved_head f ++ drop 69 b → d₂ ≡ take 69 d₁ ++ saved_id f.prefix ++ drop 86 d₁
      → d₃ ≡ take 86 d₂ ++ (f.bits ∷ []) ++ drop 87 d₂ → d₃ ≡ saved_front f ++ drop 87 b
  unfolding saved_front
  put_front f h k e₁ e₂ e₃ =
      let first : Put 0 69 (saved_head f) b d₁ = record { sized = h; holds = e₁ } in
      let second : Put 69 17 (saved_id f.prefix) d₁ d₂ = record { sized = k; holds = e₂ } in
      (behind (omega arith) (behind (omega arith) first second) (one e₃)).holds

  pub put-place : (p : Place) → size ≤ length b → length p.path ≡ 16 → length p.marks ≡ 128
      → length (saved_id p.candidate) ≡ 17 → d₁ ≡ take 87 b ++ p.path ++ drop 103 b
      → d₂ ≡ take 103 d₁ ++ le 8 p.depth ++ drop 111 d₁ → d₃ ≡ take 111 d₂ ++ p.marks ++ drop 239 d₂
      → d₄ ≡ take 1335 d₃ ++ saved_id p.candidate ++ drop size d₃
      → d₄ ≡ with_place p b
  unfolding with_place
  put-place p room hp hm hx e₁ e₂ e₃ e₄ =
      let r : 87 ≤ length b = omega arith in
      let first : Put 87 16 p.path b d₁ = record { sized = hp; holds = e₁ } in
      let third : Put 111 128 p.marks d₂ d₃ = record { sized = hm; holds = e₃ } in
      let upto : Put 87 152 (p.path ++ le 8 p.depth ++ p.marks) b d₃ =
      behind r (behind r first (num 8 p.depth e₂)) third in
      let list : Put 239 1096 (take 1096 (drop 239 d₃)) d₃ d₃ =
      own 239 1096 d₃ (omega (arith, put-length r upto (omega arith))) in
      let last : Put 1335 17 (saved_id p.candidate) d₃ d₄ = record { sized = hx; holds = e₄ } in
      (behind r (behind r upto list) last).holds ∙ rw (after r upto)
