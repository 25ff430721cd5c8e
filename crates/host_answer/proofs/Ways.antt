-- Lemmas for the functions that write an answer: one for each path through the code.
use Prim.Native.Nat.{ℕ, ◌+◌, ◌-◌, ◌<◌, ◌≤◌}
use mathlib.Core.List.{List, [], ◌∷◌, ◌++◌}
use mathlib.Core.Path.{◌≡◌, refl, sym, ◌∙◌, ap}
use native.Mathlib.Omega.{arith}
use lib.ListN.{length, take, drop, replicate, length-append, length-drop, length-replicate, take-append-drop}
use borrow.Author.Tests.{le-leb, lt-leb}
use borrow.Rule.Slice.PartMut.{put_mid}
use lib.Seq.{length-take-le, take-add, drop-drop}
use Rattle.std.specs.Prelude as Std
use Rattle.paper.specs.Frame.{le}
use Rattle.paper.proofs.Fields.{Put, num, behind, before, found, after, put-length}
use Rattle.lore.proofs.Parts.{part-all, mid-is, part-filled}
use Rattle.paper.proofs.Words.{le-length}
use Rattle.ids.specs.declared.Id.{Id}
use Rattle.walk_table.specs.declared.Table.{Table}
use Rattle.walk_table.specs.Rows.{no_table, giving, sort_rows, sorted, row_bytes, table_in}
use Rattle.walk_table.specs.Rows as Rows
use Rattle.walk_table.proofs.Rows.{Sized, count-puts}
use Rattle.walk_table.proofs.Ways.{table-in}
use Rattle.client.specs.declared.Progress.{Progress}
use Rattle.image.specs.InfoBytes.{saved_info}
use Rattle.host_turn_bytes.specs.TurnBytes.{flag}
use Rattle.image.proofs.info_bytes.Ways.{info-length}
use Rattle.host_state.specs.State as State
use Rattle.host_state.specs.State.{saved_id, saved_table, loaded_table, loaded_walk, loaded}
use Rattle.host_state.proofs.Laws.{table-zero}
use Rattle.host_state.proofs.InPlace.{part-put}
use Rattle.host_answer.specs.declared.numbers.Note.{Note}
use Rattle.host_answer.specs.declared.numbers.Gain.{Gain}
use Rattle.host_answer.specs.Numbers.{gain_of}
use Rattle.host_answer.specs.AnswerBytes.{size, tagged, sizes, pair, numbered, fronted, listed}

-- What was written between two places has the width between them, since the length of the whole stays.
pub put_of : (at n : ℕ) (s b d : List ℕ) → at + n ≤ length b → length d ≡ length b
    → d ≡ take at b ++ s ++ drop (at + n) b → Put at n s b d
put_of at n s b d room same e = record {
  sized = omega (
    arith,
    simp length-append at (sym same ∙ ap length e),
    length-take-le at b (omega arith),
    length-drop (at + n) b,
  );
  holds = e;
}

word : (at k x : ℕ) (b d : List ℕ) → d ≡ take at b ++ le k x ++ drop (at + k) b → Put at k (le k x) b d
word at k x b d e = record { sized = le-length k x; holds = e }

module _ (n : Note) (g : Gain) (rest : ℕ) (b d₁ d₂ d₃ d₄ : List ℕ) (room : size ≤ length b) where
  pub put-tags : (any made key : ℕ) → any ≡ flag n.any → made ≡ flag g.made → key ≡ flag n.key
      → d₁ ≡ (n.number ∷ n.says ∷ n.outcome ∷ n.heard ∷ any ∷ made ∷ key ∷ 0 ∷ []) ++ drop 8 b
      → d₁ ≡ tagged n g ++ drop 8 b
  unfolding tagged
  put-tags any made key ea em ek e = e ∙ rw (ea, em, ek)

  pub put-sizes : d₁ ≡ take 8 b ++ le 8 rest ++ drop 16 b → d₂ ≡ take 16 d₁ ++ le 8 n.length ++ drop 24 d₁
      → d₃ ≡ take 24 d₂ ++ le 8 g.done ++ drop 32 d₂
      → d₄ ≡ take 32 d₃ ++ le 8 g.total ++ drop 40 d₃ → d₄ ≡ take 8 b ++ sizes n g rest ++ drop 40 b
  unfolding sizes
  put-sizes e₁ e₂ e₃ e₄ =
      let r : 8 ≤ length b = omega arith in
      (behind r (behind r (behind r (word 8 8 rest b d₁ e₁) (word 16 8 n.length d₁ d₂ e₂))
      (word 24 8 g.done d₂ d₃ e₃)) (word 32 8 g.total d₃ d₄ e₄)).holds

  pub put-pair : d₁ ≡ take 40 b ++ le 4 n.first ++ drop 44 b → d₂ ≡ take 44 d₁ ++ le 4 n.second ++ drop 48 d₁
      → d₂ ≡ take 40 b ++ pair n ++ drop 48 b
  unfolding pair
  put-pair e₁ e₂ = (behind (omega arith) (word 40 4 n.first b d₁ e₁) (word 44 4 n.second d₁ d₂ e₂)).holds

  pub put-numbers : d₁ ≡ tagged n g ++ drop 8 b → d₂ ≡ take 8 d₁ ++ sizes n g rest ++ drop 40 d₁
      → d₃ ≡ take 40 d₂ ++ pair n ++ drop 48 d₂
      → d₄ ≡ take 48 d₃ ++ saved_info n.info ++ drop 66 d₃ → d₄ ≡ numbered n g rest ++ drop 66 b
  unfolding numbered tagged sizes pair le
  put-numbers e₁ e₂ e₃ e₄ =
      let first : Put 0 8 (tagged n g) b d₁ = record { sized = refl; holds = e₁ } in
      let second : Put 8 32 (sizes n g rest) d₁ d₂ = record { sized = refl; holds = e₂ } in
      let third : Put 40 8 (pair n) d₂ d₃ = record { sized = refl; holds = e₃ } in
      let fourth : Put 48 18 (saved_info n.info) d₃ d₄ = record { sized = info-length n.info; holds = e₄ } in
      (behind (omega arith) (behind (omega arith) (behind (omega arith) first second) third) fourth).holds

  pub put_front : (progress : Std.Option Progress) (x : Id) → g ≡ gain_of progress → length d₂ ≡ length d₁
      → d₁ ≡ numbered n g rest ++ drop 66 b → d₂ ≡ take 66 d₁ ++ saved_id x ++ drop 83 d₁
      → length d₁ ≡ length b → d₂ ≡ fronted n progress x rest ++ drop 83 b
  unfolding fronted
  put_front progress x eg l₂ e₁ e₂ l₁ =
      (behind (omega arith) (put_of 0 66 (numbered n g rest) b d₁ (omega arith) l₁ e₁)
      (put_of 66 17 (saved_id x) d₁ d₂ (omega arith) l₂ e₂)).holds ∙ rw eg

-- The answer's list.
module _ (a : List ℕ) (room : size ≤ length a) where
  pub list-none : (d : List ℕ) → d ≡ replicate (length (take 1096 (drop 83 a))) 0
      → put_mid 83 1096 a d ≡ listed no_table a
  unfolding listed
  list-none d e = mid-is 83 1096 a d ∙ rw (part-filled 83 1096 0 a d (omega arith) e, table-zero)

  module _ (s : List ℕ) (n : ℕ) (en : n ≡ (loaded s).walk.found.count) where
    pub list_over : (d : List ℕ) → 64 < n → d ≡ listed no_table a → d ≡ listed (giving (loaded_table 239 s)) a
    unfolding giving loaded loaded_walk loaded_table
    list_over d h e = e ∙ rw (← en, lt-leb n 64 h)

    module _ (hs : State.size ≤ length s) (h : n ≤ 64) (rows-in d₂ : List ℕ)
        (e₁ : rows-in ≡ take 1088 (drop 239 s)
        ++ drop (length (take 1088 (drop 239 s))) (take (length a - 83) (drop 83 a))) where
      abbrev d₁ : List ℕ
      d₁ = put_mid 83 (length a - 83) a rows-in

      abbrev list : Table
      list = loaded_table 239 s

      abbrev part : List ℕ
      part = take (length d₁ - 83) (drop 83 d₁)

      r : 83 ≤ length a
      r = omega arith

      rows : row_bytes list ≡ take 1088 (drop 239 s)
      unfolding row_bytes loaded_table
      rows = sym (take-add 1024 64 (drop 239 s)
          ∙ ap (λ (l : List ℕ). take 1024 (drop 239 s) ++ take 64 l) (drop-drop 1024 239 s))

      list-sized : Sized list
      unfolding loaded_table
      list-sized = record {
        bytes = length-take-le 1024 (drop 239 s) (omega (arith, length-drop 239 s));
        lengths =
            length-take-le 64 (drop 1263 s) (omega (arith, length-drop 1263 s));
      }

      pasted : Put 83 1088 (take 1088 (drop 239 s)) a d₁
      pasted =
          let sized : length (take 1088 (drop 239 s)) ≡ 1088 =
          length-take-le 1088 (drop 239 s) (omega (arith, length-drop 239 s)) in
          part-put 83 1088 (take 1088 (drop 239 s)) a rows-in sized
          (e₁ ∙ ap (λ (k : ℕ). take 1088 (drop 239 s) ++ drop k (take (length a - 83) (drop 83 a))) sized)

      list-in : table_in part n ≡ list
      unfolding loaded loaded_walk loaded_table
      list-in =
          table-in list list-sized (drop 1088 part) part
          (sym (take-append-drop 1088 part)
          ∙ ap (λ (l : List ℕ). l ++ drop 1088 part) (ap (take 1088) (part-all 83 d₁) ∙ found r pasted ∙ sym rows)) n
          (sym en)

      counted : (sorted list).count ≡ n
      unfolding sorted loaded loaded_walk loaded_table
      counted = count-puts (sort_rows (Rows.rows list 0 list.count)) list 0 ∙ sym en

      given_is : giving list ≡ sorted list
      unfolding giving loaded loaded_walk loaded_table
      given_is = rw (le-leb list.count 64 (rw en at h))

      saved-given : saved_table (giving list) ≡ row_bytes (sorted list) ++ le 8 n
      unfolding saved_table row_bytes
      saved-given = ap saved_table given_is ∙ ap (λ (k : ℕ). (sorted list).ids ++ (sorted list).lens ++ le 8 k) counted

      pub list-given : (d₃ : List ℕ) → length d₂ ≡ length part
          → d₂ ≡ row_bytes (sorted (table_in part n)) ++ drop 1088 part
          → d₃ ≡ take 1171 (put_mid 83 (length d₁ - 83) d₁ d₂) ++ le 8 n ++ drop 1179 (put_mid 83 (length d₁ - 83) d₁ d₂)
          → d₃ ≡ listed (giving list) a
      unfolding listed
      list-given d₃ l e₂ e₃ =
          let e : d₂ ≡ row_bytes (sorted list) ++ drop 1088 part =
          e₂ ∙ ap (λ (t : Table). row_bytes (sorted t) ++ drop 1088 part) list-in in
          let sized : length (row_bytes (sorted list)) ≡ 1088 =
          omega (
            arith,
            l,
            ap length e ∙ length-append (row_bytes (sorted list)) (drop 1088 part),
            length-drop 1088 part,
            ap length (part-all 83 d₁),
            length-drop 83 d₁,
            put-length r pasted (omega arith),
          ) in
          let over : Put 83 1088 (row_bytes (sorted list)) a (put_mid 83 (length d₁ - 83) d₁ d₂) = record {
            sized = sized;
            holds = (part-put 83 1088 (row_bytes (sorted list)) d₁ d₂ sized e).holds
                ∙ rw (before r pasted, after r pasted);
          } in
          (behind r over (num 8 n e₃)).holds ∙ ap (λ (y : List ℕ). take 83 a ++ y ++ drop size a) (sym saved-given)
