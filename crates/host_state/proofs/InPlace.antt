-- Lemmas for the functions that change a client's bytes in place: one for each path through the code.
use Prim.Native.Nat.{ℕ, ◌+◌, ◌-◌, ◌<◌, ◌≤◌}
use mathlib.Core.Logic.{◌⊎◌, inl, inr}
use Rattle.std.specs.Prelude.{Option, Some, None}
use mathlib.Core.List.{List, ◌++◌}
use mathlib.Core.Path.{◌≡◌, refl, sym, ◌∙◌, ap, ap₂}
use native.Mathlib.Decide.{dec_lt}
use native.Mathlib.Omega.{arith}
use borrow.Author.Tests.{lt-ltb, le-ltb}
use lib.ListN.{length, take, drop, replicate, length-drop, length-append, length-replicate}
use lib.Seq.{drop-drop, length-take-le}
use borrow.Rule.Slice.PartMut.{put_mid}
use Rattle.paper.specs.Frame.{le}
use Rattle.paper.proofs.Fields.{Put, num, behind, own}
use Rattle.lore.proofs.Parts.{part-all, put-part, mid-is, part-filled}
use Rattle.paper.proofs.Words.{Bytes, le-length}
use Rattle.ids.specs.declared.Id.{Id}
use Rattle.ids.specs.Ids.{no_id}
use Rattle.walk_table.specs.declared.Entry.{Entry}
use Rattle.walk_table.specs.declared.Table.{Table}
use Rattle.walk_table.specs.Rows.{no_table, keep, keeping, put, row_bytes, table_in}
use Rattle.walk_table.proofs.Rows.{Sized, put-sized}
use Rattle.walk_table.proofs.Ways.{sized-in}
use Rattle.walk.specs.declared.Place.{Place}
use Rattle.walk.specs.Moves.{walk_of, begin}
use Rattle.walk.proofs.Ways.{begin-none}
use Rattle.client.specs.declared.Change.{Change}
use Rattle.client.specs.declared.Change.TheVariants.{Same, Moves, Keeps, Gives, Clears}
use Rattle.client.specs.Verdicts.{renewed, changed}
use Rattle.host_state.specs.State.{size, saved_table, loaded_table, loaded_walk, loaded, with_place, with_table}
use Rattle.host_state.specs.State.{with_walk}
use Rattle.host_state.proofs.Ways.{table-length}
use Rattle.host_state.proofs.Laws.{table-zero, table_same, walk-stays, placed-in}

-- Writing n elements to the front of a part that was lent.
pub part-put : (at n : ℕ) (x b d : List ℕ) → length x ≡ n → d ≡ x ++ drop n (take (length b - at) (drop at b))
    → Put at n x b (put_mid at (length b - at) b d)
part-put at n x b d h e = record {
  sized = h;
  holds = put-part at x b d (e ∙ ap (λ (k : ℕ). x ++ drop k (take (length b - at) (drop at b))) (sym h))
      ∙ ap (λ (k : ℕ). take at b ++ x ++ drop (at + k) b) h;
}

module _ (s : List ℕ) where
  pub cleared : (d : List ℕ) → size ≤ length s → d ≡ replicate (length (take 1096 (drop 239 s))) 0
      → put_mid 239 1096 s d ≡ with_table no_table s
  unfolding with_table
  cleared d room e = mid-is 239 1096 s d ∙ rw (part-filled 239 1096 0 s d (omega arith) e, table-zero)

  module _ (room : size ≤ length s) where
    abbrev list : Table
    list = loaded_table 239 s

    length-list : length (saved_table list) ≡ 1096
    unfolding loaded_table
    length-list = table-length list (length-take-le 1024 (drop 239 s) (omega (arith, length-drop 239 s)))
        (length-take-le 64 (drop 1263 s) (omega (arith, length-drop 1263 s)))

    module _ (hb : Bytes s) where
      list-stays : s ≡ with_table list s
      unfolding with_table
      list-stays = (own 239 1096 s (omega arith)).holds
          ∙ ap (λ (x : List ℕ). take 239 s ++ x ++ drop 1335 s) (sym (table_same s hb 239 (omega arith)))

      pub keep-full : (n : ℕ) (x : Entry) → n ≡ (loaded s).walk.found.count → 64 ≤ n → s ≡ with_table (keeping list x) s
      unfolding keeping loaded loaded_walk loaded_table
      keep-full n x en h = list-stays ∙ rw (le-ltb list.count 64 (rw en at h))

    module _ (x : Entry) (hx : length x.id.bytes ≡ 16) where
      row_sized : (n : ℕ) → n < 64 → Sized (put (table_in (drop 239 s) 0) n x)
      row_sized n h = put-sized (table_in (drop 239 s) 0)
          (sized-in (drop 239 s) 0 (omega (arith, length-drop 239 s))) x hx n h

      -- The bytes of the list with the row set, and its new count after them.
      row-saved : (n : ℕ) → n ≡ list.count → n < 64
          → saved_table (keeping list x) ≡ row_bytes (put (table_in (drop 239 s) 0) n x) ++ le 8 (n + 1)
      unfolding keeping keep put row_bytes table_in saved_table loaded_table
      row-saved n en h = rw (← en, lt-ltb n 64 h, drop-drop 1024 239 s)

      rows-length : (n : ℕ) → n < 64 → length (row_bytes (put (table_in (drop 239 s) 0) n x)) ≡ 1088
      unfolding row_bytes
      rows-length n h =
          let row = put (table_in (drop 239 s) 0) n x in
          length-append row.ids row.lens ∙ ap₂ ◌+◌ (row_sized n h).bytes (row_sized n h).lengths

      pub keep-room : (n : ℕ) (d₁ d₂ : List ℕ) → n ≡ (loaded s).walk.found.count → n < 64
          → d₁ ≡ row_bytes (put (table_in (take (length s - 239) (drop 239 s)) 0) n x)
          ++ drop 1088 (take (length s - 239) (drop 239 s))
          → d₂ ≡ take 1327 (put_mid 239 (length s - 239) s d₁) ++ le 8 (n + 1)
          ++ drop 1335 (put_mid 239 (length s - 239) s d₁) → d₂ ≡ with_table (keeping list x) s
      unfolding with_table loaded loaded_walk
      keep-room n d₁ d₂ en h e₁ e₂ =
          let rows = row_bytes (put (table_in (drop 239 s) 0) n x) in
          let e : d₁ ≡ rows ++ drop 1088 (take (length s - 239) (drop 239 s)) =
          e₁ ∙ ap (λ (l : List ℕ). row_bytes (put (table_in l 0) n x)
          ++ drop 1088 (take (length s - 239) (drop 239 s))) (part-all 239 s) in
          (behind (omega arith) (part-put 239 1088 rows s d₁ (rows-length n h) e) (num 8 (n + 1) e₂)).holds
          ∙ ap (λ (y : List ℕ). take 239 s ++ y ++ drop 1335 s) (sym (row-saved n en h))

      kept-length : length (saved_table (keeping list x)) ≡ 1096
      unfolding keeping
      kept-length = go (dec_lt list.count 64)
        where
          go : Dec (list.count < 64) → length (saved_table (keeping list x)) ≡ 1096
          go (yes h) =
              ap length (row-saved list.count refl h)
              ∙ length-append (row_bytes (put (table_in (drop 239 s) 0) list.count x)) (le 8 (list.count + 1))
              ∙ ap₂ ◌+◌ (rows-length list.count h) (le-length 8 (list.count + 1))
          go (no h) = rw (le-ltb list.count 64 (omega arith)) length-list

module _ (s : List ℕ) (room : size ≤ length s) (hb : Bytes s) where
  module _ (b : Option Id) where
    pub renew-no : b ≡ None → s ≡ with_walk (renewed b (loaded_walk 87 s)) s
    renew-no e = walk-stays s hb room ∙ rw e

    pub renew-yes : (x : Id) (d₁ d₂ : List ℕ) (q : Place) → b ≡ Some x → d₁ ≡ with_table no_table s
        → walk_of q no_table ≡ begin x → d₂ ≡ with_place q d₁ → d₂ ≡ with_walk (renewed b (loaded_walk 87 s)) s
    renew-yes x d₁ d₂ q e e₁ h e₂ = e₂
        ∙ placed-in s d₁ q no_table room (ap length table-zero ∙ length-replicate {A = ℕ} 1096 0) e₁
        ∙ rw (e, h)

  module _ (c : Change) where
    pub apply-same : c ≡ Same → s ≡ with_walk (changed c (loaded_walk 87 s)) s
    apply-same e = walk-stays s hb room ∙ rw e

    pub apply-moves : (p : Place) (d : List ℕ) → c ≡ Moves p → d ≡ with_place p s
        → d ≡ with_walk (changed c (loaded_walk 87 s)) s
    unfolding loaded_walk
    apply-moves p d e h = h ∙ placed-in s s p (loaded_table 239 s) room (length-list s room)
        (list-stays s room hb) ∙ rw e

    pub apply-keeps : (p : Place) (x : Entry) (d₁ d₂ : List ℕ) → length x.id.bytes ≡ 16 → c ≡ Keeps p x
        → d₁ ≡ with_table (keeping (loaded_table 239 s) x) s → d₂ ≡ with_place p d₁
        → d₂ ≡ with_walk (changed c (loaded_walk 87 s)) s
    unfolding loaded_walk
    apply-keeps p x d₁ d₂ hx e e₁ e₂ =
        e₂ ∙ placed-in s d₁ p (keeping (loaded_table 239 s) x) room (kept-length s room x hx) e₁ ∙ rw e

    pub apply-ends : (d : List ℕ) (x : Id) → x ≡ no_id → (c ≡ Gives) ⊎ (c ≡ Clears) → d ≡ with_walk (begin x) s
        → d ≡ with_walk (changed c (loaded_walk 87 s)) s
    apply-ends d x ex (inl e) h = h ∙ rw (ex, begin-none, e)
    apply-ends d x ex (inr e) h = h ∙ rw (ex, begin-none, e)
