-- A lemma for each way through the writing of the output, with the facts known there as its premises.
use Prim.Native.Nat.{ℕ, zero, suc, ◌+◌, ◌-◌, ◌*◌, ◌<◌, ◌≤◌}
use mathlib.Core.List.{List, [], ◌∷◌, ◌++◌, append_assoc, map, map-append}
use mathlib.Core.Path.{◌≡◌, refl, sym, ◌∙◌, ap}
use native.Mathlib.Numerals.{add-one}
use native.Mathlib.Omega.{arith}
use lib.ListN.{length, take, drop, set, length-append, length-drop}
use lib.Seq.{set_split, take_at, drop_at, drop-drop}
use borrow.Rule.Slice.PartMut.{put_mid}
use Rattle.lore.proofs.Parts.{part-all, mid-all}
use Rattle.paper.proofs.Hex.{hex_text-length}
use Rattle.paper.specs.Hearing as Paper
use Rattle.paper.specs.Text.{hex_text}
use Rattle.paper.specs.Log.{id_lines, last_line}
use Rattle.std.specs.Prelude.{Result}
use Rattle.wire.specs.declared.Unwritten.{Unwritten}
use Rattle.text.specs.Texts.{Outcome, written}
use Rattle.text.proofs.Writing.{writes}
use Rattle.ids.specs.Ids.{id_of}
use Rattle.walk_table.specs.declared.Entry.{Entry}
use Rattle.walk_table.specs.declared.Table.{Table}
use Rattle.walk_table.specs.Rows.{row, rows}
use Rattle.log_listing.specs.declared.Answer.{Answer}
use Rattle.log_listing.specs.Listing.{used, in_row, first_ids, line, Placed, placed, text}

pub line-length : (bytes : List ℕ) → length (line bytes) ≡ 2 * length bytes + 1
line-length bytes = omega (arith, length-append (hex_text bytes) (10 ∷ []), hex_text-length bytes)

-- A line: the digits, and LF after them.
module _ (bytes out out' : List ℕ) (w : Result ℕ Unwritten) (fits : length bytes ≤ 16) (room : 2 * length bytes < length out)
    (e : record { answer = w; bytes = out' } ≡ written bytes out) where
  abbrev n : ℕ
  n = 2 * length bytes

  digits : out' ≡ hex_text bytes ++ drop n out
  digits = ap (λ (o : Outcome). o.bytes)
      (e ∙ sym (writes bytes out (hex_text bytes ++ drop n out) fits (omega arith) refl))

  ends : drop (suc n) (hex_text bytes ++ drop n out) ≡ drop (n + 1) out
  ends =
      rw (← add-one n) (sym (drop-drop 1 n (hex_text bytes ++ drop n out)))
      ∙ ap (drop 1) (drop_at (hex_text bytes) (drop n out) n (hex_text-length bytes))
      ∙ drop-drop 1 n out

  closed : set out' n 10 ≡ line bytes ++ drop (n + 1) out
  closed =
      ap (λ (l : List ℕ). set l n 10) digits
      ∙ set_split (hex_text bytes ++ drop n out) n 10
      (omega (arith, length-append (hex_text bytes) (drop n out), hex_text-length bytes, length-drop n out))
      ∙ ap (λ (l : List ℕ). l ++ 10 ∷ drop (suc n) (hex_text bytes ++ drop n out))
      (take_at (hex_text bytes) (drop n out) n (hex_text-length bytes))
      ∙ ap (λ (l : List ℕ). hex_text bytes ++ 10 ∷ l) ends
      ∙ sym (append_assoc (hex_text bytes) (10 ∷ []) (drop (n + 1) out))

  pub line_wrote : record { len = n + 1; bytes = set out' n 10 } ≡ placed (line bytes) out
  line_wrote = rw (line-length bytes, closed)

-- A text written after another is both as one text.
module _ (a b out₀ out part : List ℕ) (at k : ℕ) (e : record { len = at; bytes = out } ≡ placed a out₀)
    (p : record { len = k; bytes = part } ≡ placed b (take (length out - at) (drop at out))) where
  here : at ≡ length a
  here = ap (λ (x : Placed). x.len) e

  front : out ≡ a ++ drop (length a) out₀
  front = ap (λ (x : Placed). x.bytes) e

  behind : drop at out ≡ drop (length a) out₀
  behind = ap (drop at) front ∙ drop_at a (drop (length a) out₀) at (sym here)

  back : part ≡ b ++ drop (length (a ++ b)) out₀
  back =
      ap (λ (x : Placed). x.bytes) p
      ∙ ap (λ (l : List ℕ). b ++ drop (length b) l) (part-all at out ∙ behind)
      ∙ ap (λ (l : List ℕ). b ++ l) (drop-drop (length b) (length a) out₀
      ∙ ap (λ (m : ℕ). drop m out₀) (sym (length-append a b)))

  whole : put_mid at (length out - at) out part ≡ (a ++ b) ++ drop (length (a ++ b)) out₀
  whole =
      mid-all at out part
      ∙ ap (λ (l : List ℕ). l ++ part) (ap (take at) front ∙ take_at a (drop (length a) out₀) at (sym here))
      ∙ ap (λ (l : List ℕ). a ++ l) back
      ∙ sym (append_assoc a b (drop (length (a ++ b)) out₀))

  pub then-placed : record { len = at + k; bytes = put_mid at (length out - at) out part } ≡ placed (a ++ b) out₀
  then-placed = rw whole (ap (λ (m : ℕ). record { len = m; bytes = (a ++ b) ++ drop (length (a ++ b)) out₀ }) size)
    where
      size : at + k ≡ length (a ++ b)
      size = omega (arith, here, ap (λ (x : Placed). x.len) p, length-append a b)

-- The loop over the ids: one more id.
rows_more : (n : ℕ) (t : Table) (i : ℕ) → rows t i (suc n) ≡ rows t i n ++ (row t (i + n) ∷ [])
unfolding rows
rows_more zero t i = ap (λ (k : ℕ). row t k ∷ []) here
  where
    here : i ≡ i + 0
    here = omega arith
rows_more (suc n) t i = ap (λ (l : List Entry). row t i ∷ l)
    (rows_more n t (i + 1) ∙ ap (λ (k : ℕ). rows t (i + 1) n ++ (row t k ∷ [])) here)
  where
    here : i + 1 + n ≡ i + suc n
    here = omega arith

ids_more : (t : Table) (i : ℕ) → first_ids t (i + 1) ≡ first_ids t i ++ (in_row (row t i) ∷ [])
unfolding first_ids
ids_more t i =
    rw (add-one i)
    (ap (map in_row) (rows_more i t 0 ∙ ap (λ (k : ℕ). rows t 0 i ++ (row t k ∷ [])) here)
    ∙ map-append in_row (rows t 0 i) (row t i ∷ []))
  where
    here : 0 + i ≡ i
    here = omega arith

lines_more : (xs : List Paper.Id) (x : Paper.Id) → id_lines (xs ++ (x ∷ [])) ≡ id_lines xs ++ line x
unfolding id_lines
lines_more [] x = refl
lines_more (y ∷ ys) x = ap (λ (l : List ℕ). hex_text y ++ 10 ∷ l) (lines_more ys x)
    ∙ sym (append_assoc (hex_text y) (10 ∷ id_lines ys) (line x))

pub none_yet : (t : Table) (out : List ℕ) → record { len = 0; bytes = out } ≡ placed (id_lines (first_ids t 0)) out
unfolding first_ids rows id_lines
none_yet t out = refl

pub one_more : (t : Table) (x : Entry) (i at k : ℕ) (out₀ out part : List ℕ)
    → record { len = at; bytes = out } ≡ placed (id_lines (first_ids t i)) out₀ → x ≡ row t i
    → record { len = k; bytes = part } ≡ placed (line (id_of x.id)) (take (length out - at) (drop at out))
    → record { len = at + k; bytes = put_mid at (length out - at) out part } ≡ placed (id_lines (first_ids t (i + 1))) out₀
one_more t x i at k out₀ out part e ex p =
    then-placed (id_lines (first_ids t i)) (line (id_of x.id)) out₀ out part at k e p
    ∙ ap (λ (l : List ℕ). placed l out₀)
    (ap (λ (y : Entry). id_lines (first_ids t i) ++ line (in_row y)) ex
    ∙ sym (lines_more (first_ids t i) (in_row (row t i))) ∙ ap id_lines (sym (ids_more t i)))

pub all-wrote : (t : Table) (i n at : ℕ) (out₀ out : List ℕ) → i ≤ n → n ≤ i
    → record { len = at; bytes = out } ≡ placed (id_lines (first_ids t i)) out₀
    → record { len = at; bytes = out } ≡ placed (id_lines (first_ids t n)) out₀
all-wrote t i n at out₀ out h g e = let s : i ≡ n = omega arith in rw s at e

pub text-wrote : (a : Answer) (n at k : ℕ) (out₀ out part : List ℕ) → n ≡ used a.found
    → record { len = at; bytes = out } ≡ placed (id_lines (first_ids a.found n)) out₀
    → record { len = k; bytes = part }
    ≡ placed (last_line a.code n a.selects) (take (length out - at) (drop at out))
    → record { len = at + k; bytes = put_mid at (length out - at) out part } ≡ placed (text a) out₀
unfolding text
text-wrote a n at k out₀ out part en e p =
    then-placed (id_lines (first_ids a.found n)) (last_line a.code n a.selects) out₀ out part at k e p
    ∙ ap (λ (m : ℕ). placed (id_lines (first_ids a.found m) ++ last_line a.code m a.selects) out₀) en
