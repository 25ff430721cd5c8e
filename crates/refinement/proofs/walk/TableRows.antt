-- The table of some ids: with one more id, sorted, and row by row.
use Prim.Native.Nat.{ℕ, zero, suc, ◌+◌, ◌-◌, ◌*◌, ◌<◌, ◌≤◌}
use mathlib.Core.Bool.{Bool, true, false, cond}
use mathlib.Core.List.{List, [], ◌∷◌, ◌++◌, map, map-append}
use mathlib.Core.Path.{◌≡◌, refl, sym, ◌∙◌, ap, ap₂}
use native.Mathlib.Nat.{add-zero, zero-add}
use native.Mathlib.Omega.{arith}
use lib.ListN.{length, take, drop, get_or, replicate, length-append, length-replicate, length-map, get_or-map}
use lib.Seq.{drop_at, drop-drop, drop-set-lt, get_or-drop, length-take-le}
use Rattle.paper.specs.Count.{All}
use Rattle.paper.specs.Hearing as Paper
use Rattle.paper.specs.Hearing.{before}
use Rattle.paper.specs.Walk.{insert, sort}
use Rattle.lore.proofs.Lists.{drop-replicate, take-replicate}
use Rattle.theory.proofs.walk.StatesFit.{Short}
use Rattle.theory.proofs.walk.SortedIds.{sort-all, sort-length}
use Rattle.ids.specs.Ids.{no_id, id_from}
use Rattle.ids.proofs.Laws.{id-of-from}
use Rattle.walk_table.specs.declared.Entry.{Entry}
use Rattle.walk_table.specs.declared.Table.{Table}
use Rattle.walk_table.specs.Rows.{no_table, pasted, row, rows, put, puts, counting, keep, before_row, insert_row, sort_rows}
use Rattle.walk_table.specs.Rows.{sorted}
use Rattle.walk_table.proofs.Rows.{Sized, Whole, entry-eq, put-sized, puts-sized, rows-puts, puts-again}
use Rattle.refinement.specs.CodeWalk.{row_of, table_of}

row-whole : (x : Paper.Id) → Short x → Whole (row_of x)
unfolding id_from
row-whole x h = length-append x (replicate (16 - length x) 0)
    ∙ omega (arith, length-replicate {A = ℕ} (16 - length x) 0)

rows_whole : (xs : List Paper.Id) → All Short xs → All Whole (map row_of xs)
rows_whole [] h = tt
rows_whole (x ∷ xs) h = (row-whole x h.0, rows_whole xs h.1)

puts-snoc : (xs : List Entry) (t : Table) (i : ℕ) (x : Entry)
    → puts t i (xs ++ (x ∷ [])) ≡ put (puts t i xs) (i + length xs) x
unfolding puts
puts-snoc [] t i x = ap (λ (k : ℕ). put t k x) (sym (add-zero i))
puts-snoc (y ∷ xs) t i x = puts-snoc xs (put t i y) (i + 1) x
    ∙ ap (λ (k : ℕ). put (puts (put t i y) (i + 1) xs) k x) (shift (length xs))
  where
    shift : (n : ℕ) → i + 1 + n ≡ i + suc n
    shift n = omega arith

count_map : (ids : List Paper.Id) → length (map row_of ids) ≡ length ids
count_map ids = length-map ids row_of

-- One more id.
pub table-keep : (ids : List Paper.Id) (x : Paper.Id) → keep (table_of ids) (row_of x) ≡ table_of (ids ++ (x ∷ []))
unfolding keep table_of put
table-keep ids x =
    ap₂ counting
    (ap (λ (k : ℕ). put (puts no_table 0 (map row_of ids)) k (row_of x))
    (sym (zero-add (length (map row_of ids)) ∙ count_map ids))
    ∙ sym (puts-snoc (map row_of ids) no_table 0 (row_of x))
    ∙ ap (puts no_table 0) (sym (map-append row_of ids (x ∷ []))))
    (sym (length-append ids (x ∷ [])))

pub table-count : (ids : List Paper.Id) → (table_of ids).count ≡ length ids
unfolding table_of
table-count ids = refl

-- The number of rows in use changes no row.
rows-counting : (n : ℕ) (t : Table) (i k : ℕ) → rows (counting t k) i n ≡ rows t i n
unfolding rows row
rows-counting zero t i k = refl
rows-counting (suc n) t i k = ap (λ (l : List Entry). row t i ∷ l) (rows-counting n t (i + 1) k)

puts-counting : (xs : List Entry) (t : Table) (i k : ℕ) → puts (counting t k) i xs ≡ counting (puts t i xs) k
unfolding puts put
puts-counting [] t i k = refl
puts-counting (x ∷ xs) t i k = puts-counting xs (put t i x) (i + 1) k

insert-rows : (x : Paper.Id) (xs : List Paper.Id) → Short x → All Short xs
    → insert_row (row_of x) (map row_of xs) ≡ map row_of (insert x xs)
unfolding insert_row insert
insert-rows x [] s ss = refl
insert-rows x (y ∷ ys) s ss = go (insert-rows x ys s ss.1) (before x y)
    (ap₂ before (id-of-from x s) (id-of-from y ss.0))
  where
    go : insert_row (row_of x) (map row_of ys) ≡ map row_of (insert x ys) → (b : Bool) → before_row (row_of x) (row_of y) ≡ b
        → cond (before_row (row_of x) (row_of y)) (row_of x ∷ row_of y ∷ map row_of ys)
        (row_of y ∷ insert_row (row_of x) (map row_of ys)) ≡ map row_of (cond b (x ∷ y ∷ ys) (y ∷ insert x ys))
    go ih true e = rw e
    go ih false e = rw e (ap (λ (l : List Entry). row_of y ∷ l) ih)

sort-rows : (xs : List Paper.Id) → All Short xs → sort_rows (map row_of xs) ≡ map row_of (sort xs)
unfolding sort_rows sort
sort-rows [] ss = refl
sort-rows (x ∷ xs) ss = ap (insert_row (row_of x)) (sort-rows xs ss.1)
    ∙ insert-rows x (sort xs) ss.0 (sort-all Short xs ss.1)

no-sized : Sized no_table
unfolding no_table
no-sized = record { bytes = length-replicate {A = ℕ} 1024 0; lengths = length-replicate {A = ℕ} 64 0 }

-- Writing rows does not change the rows after them.
bytes_after : (t : Table) (i : ℕ) (x : Entry) → Sized t → Whole x → i < 64 → (k : ℕ)
    → drop (i * 16 + 16 + k) (put t i x).ids ≡ drop (i * 16 + 16 + k) t.ids
unfolding put
bytes_after t i x s w h k =
    sym (drop-drop k (i * 16 + 16) (pasted t.ids (i * 16) x.id.bytes))
    ∙ ap (drop k) (drop_at (front ++ x.id.bytes) (drop (i * 16 + 16) t.ids) (i * 16 + 16) size)
    ∙ drop-drop k (i * 16 + 16) t.ids
  where
    front : List ℕ
    front = take (i * 16) t.ids

    size : length (front ++ x.id.bytes) ≡ i * 16 + 16
    size = omega (arith, length-append front x.id.bytes, length-take-le (i * 16) t.ids (omega (arith, s.bytes)))

bytes_past : (xs : List Entry) (t : Table) → Sized t → All Whole xs → (i k : ℕ) → i + length xs ≤ 64
    → (i + length xs) * 16 ≤ k → drop k (puts t i xs).ids ≡ drop k t.ids
unfolding puts
bytes_past [] t s ws i k h g = refl
bytes_past (x ∷ xs) t s ws i k h g =
    let e : i * 16 + 16 + (k - (i * 16 + 16)) ≡ k = omega arith in
    bytes_past xs (put t i x) (put-sized t s x ws.0 i (omega arith)) ws.1 (i + 1) k (omega arith) (omega arith)
    ∙ (rw e at (bytes_after t i x s ws.0 (omega arith) (k - (i * 16 + 16))))

lengths-past : (xs : List Entry) (t : Table) (i k : ℕ) → i + length xs ≤ k
    → drop k (puts t i xs).lens ≡ drop k t.lens
unfolding puts put
lengths-past [] t i k g = refl
lengths-past (x ∷ xs) t i k g =
    lengths-past xs (put t i x) (i + 1) k (omega arith) ∙ drop-set-lt k t.lens i x.id.len (omega arith)

rows_at : (n : ℕ) (t : Table) (j i : ℕ) (d : Entry) → i < n → get_or (rows t j n) i d ≡ row t (j + i)
unfolding rows
rows_at zero t j i d h = absurd (omega arith)
rows_at (suc n) t j zero d h = ap (row t) (sym (add-zero j))
rows_at (suc n) t j (suc i) d h = let e : j + 1 + i ≡ j + suc i = omega arith
    in rows_at n t (j + 1) i d (omega arith) ∙ ap (row t) e

module _ (ids : List Paper.Id) (few : length ids ≤ 64) (short : All Short ids) where
  room : 0 + length (map row_of ids) ≤ 64
  room = omega (arith, count_map ids)

  pub table-sized : Sized (table_of ids)
  unfolding table_of
  table-sized = let s = puts-sized (map row_of ids) no_table no-sized (rows_whole ids short) 0 room
      in record { bytes = s.bytes; lengths = s.lengths }

  -- The rows in use hold the ids.
  pub table-rows : rows (table_of ids) 0 (length ids) ≡ map row_of ids
  unfolding table_of
  table-rows =
      rows-counting (length ids) (puts no_table 0 (map row_of ids)) 0 (length ids)
      ∙ ap (rows (puts no_table 0 (map row_of ids)) 0) (sym (count_map ids))
      ∙ rows-puts (map row_of ids) no_table no-sized (rows_whole ids short) 0 room

  pub row-of-table : (i : ℕ) → i < length ids → row (table_of ids) i ≡ row_of (get_or ids i [])
  row-of-table i h =
      ap (row (table_of ids)) (sym (zero-add i))
      ∙ sym (rows_at (length ids) (table_of ids) 0 i (row_of []) h)
      ∙ ap (λ (l : List Entry). get_or l i (row_of [])) table-rows
      ∙ get_or-map row_of ids i []

  -- Everything after them is zero.
  pub unused-bytes : (k : ℕ) → length ids * 16 ≤ k → drop k (table_of ids).ids ≡ replicate (1024 - k) 0
  unfolding table_of no_table
  unused-bytes k h = bytes_past (map row_of ids) no_table no-sized (rows_whole ids short) 0 k room
      (omega (arith, count_map ids)) ∙ drop-replicate {A = ℕ} 1024 0 k

  pub unused-lengths : (k : ℕ) → length ids ≤ k → drop k (table_of ids).lens ≡ replicate (64 - k) 0
  unfolding table_of no_table
  unused-lengths k h = lengths-past (map row_of ids) no_table 0 k (omega (arith, count_map ids))
      ∙ drop-replicate {A = ℕ} 64 0 k

  pub unused-row : (i : ℕ) → length ids ≤ i → i < 64 → row (table_of ids) i ≡ record { id = no_id }
  unfolding row no_id
  unused-row i h g =
      let n : 64 - i ≡ suc (64 - i - 1) = omega arith in
      entry-eq _ _
      (ap (take 16) (unused-bytes (i * 16) (omega arith)) ∙ take-replicate {A = ℕ} (1024 - i * 16) 0 16 (omega arith))
      (ap (λ (k : ℕ). get_or (table_of ids).lens k 0) (sym (add-zero i)) ∙ sym (get_or-drop i (table_of ids).lens 0 0)
      ∙ ap (λ (l : List ℕ). get_or l 0 0) (unused-lengths i h) ∙ rw n)

  -- The ids sorted.
  pub table-sorted : sorted (table_of ids) ≡ table_of (sort ids)
  unfolding sorted table_of
  table-sorted =
      ap (λ (l : List Entry). puts (counting T n) 0 (sort_rows l)) table-rows
      ∙ ap (puts (counting T n) 0) (sort-rows ids short)
      ∙ puts-counting (map row_of (sort ids)) T 0 n
      ∙ ap₂ counting
      (puts-again (map row_of ids) (map row_of (sort ids)) no_table no-sized (rows_whole ids short)
      (rows_whole (sort ids) (sort-all Short ids short)) 0 room
      (omega (arith, count_map ids, count_map (sort ids), sort-length ids)))
      (sym (sort-length ids))
    where
      n : ℕ
      n = length ids

      T : Table
      T = puts no_table 0 (map row_of ids)
