-- A table still fits after a row is set, after an id is kept and after the sort.
use Prim.Native.Nat.{ℕ, zero, suc, ◌+◌, ◌*◌, ◌<◌, ◌≤◌}
use mathlib.Core.Bool.{Bool, true, false, cond}
use mathlib.Core.List.{List, [], ◌∷◌, ◌++◌}
use native.Mathlib.Omega.{arith}
use lib.ListN.{length, take, drop}
use Rattle.paper.specs.Count.{All}
use Rattle.paper.proofs.Fields.{byte-below, bytes_take, bytes_drop}
use Rattle.theory.proofs.frames.FramesReadBack.{bytes-append}
use Rattle.walk_table.specs.declared.Entry.{Entry}
use Rattle.walk_table.specs.declared.Table.{Table}
use Rattle.walk_table.specs.Rows.{row, put, keep, rows, puts, before_row, insert_row, sort_rows, sorted}
use Rattle.walk_table.proofs.Blocks.{length-pasted}
use Rattle.walk_table.proofs.Rows.{Whole, rows_whole, rows-length, row-whole}
use Rattle.walk_table.proofs.Sorts.{sort-whole, sized_of}
use Rattle.host_state.specs.State.{IdFits, TableFits}
use Rattle.host_theory.proofs.ByteArrays.{array-set}

abbrev RowFits : Entry → Type 0
RowFits x = IdFits x.id

put-fits : (t : Table) → TableFits t → (i : ℕ) → i < 64 → (x : Entry) → RowFits x → TableFits (put t i x)
unfolding put
put-fits t h i small x k = record {
  ids = (
    length-pasted t.ids x.id.bytes i 64 small h.ids.0 k.bytes.0,
    bytes-append (take (i * 16) t.ids ++ x.id.bytes) (drop (i * 16 + 16) t.ids)
        (bytes-append (take (i * 16) t.ids) x.id.bytes (bytes_take (i * 16) t.ids h.ids.1) k.bytes.1)
        (bytes_drop (i * 16 + 16) t.ids h.ids.1),
  );
  lens = array-set 64 t.lens h.lens i x.id.len k.len;
  count = h.count;
}

pub row-kept-fits : (k : Table) → TableFits k → k.count < 64 → (x : Entry) → IdFits x.id → TableFits (keep k x)
unfolding keep
row-kept-fits t h small x k =
    let p : TableFits (put t t.count x) = put-fits t h t.count small x k in
    record { ids = p.ids; lens = p.lens; count = omega arith }

pub keep-fits : (t : Table) → TableFits t → t.count < 64 → (x : Entry) → IdFits x.id → TableFits (keep t x)
unfolding keep
keep-fits t h small x k =
    let p : TableFits (put t t.count x) = put-fits t h t.count small x k in
    record { ids = p.ids; lens = p.lens; count = omega arith }

row_fits : (t : Table) → TableFits t → (i : ℕ) → i < 64 → RowFits (row t i)
unfolding row
row_fits t h i small = record {
  bytes = (
    row-whole t (sized_of t h.ids.0 h.lens.0) i small,
    bytes_take 16 (drop (i * 16) t.ids) (bytes_drop (i * 16) t.ids h.ids.1),
  );
  len = byte-below t.lens i h.lens.1;
}

rows_fit : (n : ℕ) (t : Table) → TableFits t → (i : ℕ) → i + n ≤ 64 → All RowFits (rows t i n)
unfolding rows
rows_fit zero t h i room = tt
rows_fit (suc n) t h i room = (row_fits t h i (omega arith), rows_fit n t h (i + 1) (omega arith))

puts-fit : (xs : List Entry) (t : Table) → TableFits t → All RowFits xs → (i : ℕ) → i + length xs ≤ 64
    → TableFits (puts t i xs)
unfolding puts
puts-fit [] t h ks i room = h
puts-fit (x ∷ xs) t h ks i room =
    puts-fit xs (put t i x) (put-fits t h i (omega arith) x ks.0) ks.1 (i + 1) (omega arith)

insert-fits : (x : Entry) (xs : List Entry) → RowFits x → All RowFits xs → All RowFits (insert_row x xs)
unfolding insert_row
insert-fits x [] k ks = (k, tt)
insert-fits x (y ∷ ys) k ks = go (insert-fits x ys k ks.1) (before_row x y)
  where
    go : All RowFits (insert_row x ys) → (b : Bool) → All RowFits (cond b (x ∷ y ∷ ys) (y ∷ insert_row x ys))
    go ih true = (k, ks)
    go ih false = (ks.0, ih)

sort-fits : (xs : List Entry) → All RowFits xs → All RowFits (sort_rows xs)
unfolding sort_rows
sort-fits [] ks = tt
sort-fits (x ∷ xs) ks = insert-fits x (sort_rows xs) ks.0 (sort-fits xs ks.1)

pub rows-sorted-fits : (k : Table) → TableFits k → k.count ≤ 64 → TableFits (sorted k)
unfolding sorted
rows-sorted-fits t h few =
    let ws : All Whole (rows t 0 t.count) =
    rows_whole t.count t (sized_of t h.ids.0 h.lens.0) 0 (omega arith) in
    puts-fit (sort_rows (rows t 0 t.count)) t h
    (sort-fits (rows t 0 t.count) (rows_fit t.count t h 0 (omega arith))) 0
    (omega (arith, (sort-whole (rows t 0 t.count) ws).0, rows-length t.count t 0))

pub sorted-fits : (t : Table) → TableFits t → t.count ≤ 64 → TableFits (sorted t)
unfolding sorted
sorted-fits t h few =
    let ws : All Whole (rows t 0 t.count) =
    rows_whole t.count t (sized_of t h.ids.0 h.lens.0) 0 (omega arith) in
    puts-fit (sort_rows (rows t 0 t.count)) t h
    (sort-fits (rows t 0 t.count) (rows_fit t.count t h 0 (omega arith))) 0
    (omega (arith, (sort-whole (rows t 0 t.count) ws).0, rows-length t.count t 0))
