-- Line one read byte by byte is document 01's line one. This holds also if it is longer than the buffer: then the
-- prefix is over 16 bytes, and is refused.
use Prim.Native.Nat.{ℕ, ◌+◌, ◌*◌, ◌%◌, ◌<◌, ◌≤◌}
use mathlib.Core.Bool.{Bool, true, false, cond}
use mathlib.Core.List.{List, [], ◌∷◌, ◌++◌, append_assoc, append-nil}
use mathlib.Core.Option.{Option, none, some}
use mathlib.Core.Path.{◌≡◌, refl, sym, ◌∙◌, ap}
use native.Mathlib.Omega.{arith}
use lib.ListN.{length, take, set, length-set, length-append}
use lib.Seq.{length-take-le}
use lib.Dec.{ltb, eqb}
use borrow.Author.Tests.{ltb-true, ltb-false, lt-ltb}
use Rattle.paper.specs.Hearing.{on_some}
use Rattle.paper.specs.Text.{digit, unhex}
use Rattle.paper.specs.Log.{joined, lines, longer, prefix_in}
use Rattle.log_lines.specs.declared.Place.{Place}
use Rattle.log_lines.specs.declared.Place.TheVariants.{Start, Even, Odd}
use Rattle.log_lines.specs.declared.Turn.TheVariants as Turn
use Rattle.log_lines.specs.Reading.{turn}
use Rattle.client_start.specs.Start.{start_discover}
use Rattle.log_run.specs.declared.Stage.TheVariants.{First}
use Rattle.log_run.specs.declared.Replay.{Replay}
use Rattle.log_run.specs.Run.{is_ended, stops, opens, goes}
use Rattle.walk_table.specs.Rows.{no_table}
use Rattle.log_feed.specs.declared.events.Log.{Log}
use Rattle.log_feed.specs.Events.{lined, emptied, log_of, idle}
use Rattle.log_theory.specs.WholeTalk.{talk}
use Rattle.log_theory.proofs.LinesLeft.{behind, odd, second, odd_is, unread, odd-unread}
use Rattle.log_theory.proofs.ByteSteps.{reader, at, with'}
use Rattle.log_theory.proofs.ByteSteps as ByteSteps
use Rattle.log_theory.proofs.ReadToEnd.{ran, ran-byte, ran-ended, end-start, end-even, end-odd, settled}
use Rattle.log_theory.proofs.ReadToEnd.{goes-settled}
use Rattle.log_theory.proofs.RecordsRead.{lines-lf, lines_other, stored, resumed, rest}

-- The run from a place in line one to its end. `acc` are the bytes of the line so far, `ls` the text not yet read.
unfoldable pub judged : ℕ → Replay → List ℕ → Option (List ℕ) → List (List ℕ) → Replay
judged cap v acc t ls = on_some t (stops v 22) (λ bs. talk (opens v (acc ++ bs)) (joined cap [] ls))

unfoldable pub opening : ℕ → Replay → Place → List ℕ → List (List ℕ) → Replay
opening cap v Start acc [] = v
opening cap v Start acc (l ∷ ls) = judged cap v acc (unhex l) ls
opening cap v Even acc [] = opens v acc
opening cap v Even acc (l ∷ ls) = judged cap v acc (unhex l) ls
opening cap v (Odd h) acc [] = stops v 22
opening cap v (Odd h) acc (l ∷ ls) = judged cap v acc (odd h l) ls

module _ (cap : ℕ) (v : Replay) (acc : List ℕ) where
  abbrev Judged : Option (List ℕ) → List (List ℕ) → Replay
  Judged = judged cap v acc

  module _ (b : ℕ) (good : ltb (digit b) 16 ≡ true) where
    half-start : (ls : List (List ℕ)) → opening cap v Start acc (longer b ls) ≡ opening cap v (Odd (digit b)) acc ls
    unfolding opening longer judged unhex
    half-start [] = refl
    half-start (l ∷ ls) = ap (λ (t : Option (List ℕ)). Judged t ls) (second b good l)

    half-even : (ls : List (List ℕ)) → opening cap v Even acc (longer b ls) ≡ opening cap v (Odd (digit b)) acc ls
    unfolding opening longer judged unhex
    half-even [] = refl
    half-even (l ∷ ls) = ap (λ (t : Option (List ℕ)). Judged t ls) (second b good l)

    carry : (x : ℕ) (t : Option (List ℕ)) (ls : List (List ℕ))
        → Judged (behind x t) ls ≡ judged cap v (acc ++ (x ∷ [])) t ls
    unfolding judged
    carry x none ls = refl
    carry x (some bs) ls = ap (λ (l : List ℕ). talk (opens v l) (joined cap [] ls)) (sym (append_assoc acc (x ∷ []) bs))

    whole : (h : ℕ) (ls : List (List ℕ))
        → opening cap v (Odd h) acc (longer b ls) ≡ opening cap v Even (acc ++ ((h % 16 * 16 + digit b) ∷ [])) ls
    unfolding opening longer judged unhex talk joined
    whole h [] = ap (λ (t : Option (List ℕ)). Judged t []) (odd_is b good h [])
    whole h (l ∷ ls) = ap (λ (t : Option (List ℕ)). Judged t ls) (odd_is b good h l)
        ∙ carry (h % 16 * 16 + digit b) (unhex l) ls

  refused : (b : ℕ) → ltb (digit b) 16 ≡ false → (p : Place) (ls : List (List ℕ))
      → opening cap v p acc (longer b ls) ≡ stops v 22
  unfolding opening longer judged
  refused b bad Start [] = ap (λ (t : Option (List ℕ)). Judged t []) (unread b bad [])
  refused b bad Start (l ∷ ls) = ap (λ (t : Option (List ℕ)). Judged t ls) (unread b bad l)
  refused b bad Even [] = ap (λ (t : Option (List ℕ)). Judged t []) (unread b bad [])
  refused b bad Even (l ∷ ls) = ap (λ (t : Option (List ℕ)). Judged t ls) (unread b bad l)
  refused b bad (Odd h) [] = ap (λ (t : Option (List ℕ)). Judged t []) (odd-unread b bad h [])
  refused b bad (Odd h) (l ∷ ls) = ap (λ (t : Option (List ℕ)). Judged t ls) (odd-unread b bad h l)

  lf-start : (ls : List (List ℕ)) → opening cap v Start acc ([] ∷ ls) ≡ talk (opens v acc) (joined cap [] ls)
  unfolding opening judged unhex
  lf-start ls = rw append-nil

  lf-even : (ls : List (List ℕ)) → opening cap v Even acc ([] ∷ ls) ≡ talk (opens v acc) (joined cap [] ls)
  unfolding opening judged unhex
  lf-even ls = rw append-nil

  lf-odd : (h : ℕ) (ls : List (List ℕ)) → opening cap v (Odd h) acc ([] ∷ ls) ≡ stops v 22
  unfolding opening judged odd
  lf-odd h ls = refl

opens-settled : (v : Replay) (line : List ℕ) → settled (opens v line).stage ≡ true
unfolding opens settled
opens-settled v line = go (prefix_in line)
  where
    go : (t : Option (List ℕ)) → settled
        (on_some t (stops v 22) (λ given. goes (start_discover v.client given).says
        (start_discover v.client given).client v.selects no_table)).stage ≡ true
    go none = refl
    go (some given) = goes-settled (start_discover v.client given).says (start_discover v.client given).client
        v.selects no_table

-- Two versions of line one that begin with the same byte, each with a prefix of over 16 bytes. Both are refused alike.
record Alike (acc held : List ℕ) : Type 0 where
  b : ℕ
  xs : List ℕ
  ys : List ℕ
  left : acc ≡ b ∷ xs
  right : held ≡ b ∷ ys
  long : 16 < length xs
  long' : 16 < length ys

long-refused : (v : Replay) (b : ℕ) (xs ys : List ℕ) → 16 < length xs → 16 < length ys
    → opens v (b ∷ xs) ≡ opens v (b ∷ ys)
unfolding opens prefix_in start_discover
long-refused v b xs ys h k = go (eqb b 1)
  where
    go : (t : Bool) → on_some (cond t (some xs) none) (stops v 22)
        (λ given. goes (start_discover v.client given).says (start_discover v.client given).client
        v.selects no_table)
        ≡ on_some (cond t (some ys) none) (stops v 22)
        (λ given. goes (start_discover v.client given).says (start_discover v.client given).client
        v.selects no_table)
    go true = rw (lt-ltb 16 (length xs) h, lt-ltb 16 (length ys) k)
    go false = refl

alike-opens : (v : Replay) (acc held : List ℕ) → Alike acc held → opens v held ≡ opens v acc
alike-opens v acc held a = ap (opens v) a.right ∙ long-refused v a.b a.ys a.xs a.long' a.long
    ∙ ap (opens v) (sym a.left)

alike-more : (acc held : List ℕ) (x : ℕ) → Alike acc held → Alike (acc ++ (x ∷ [])) held
alike-more acc held x a = record {
  b = a.b;
  xs = a.xs ++ (x ∷ []);
  ys = a.ys;
  left = ap (λ (l : List ℕ). l ++ (x ∷ [])) a.left;
  right = a.right;
  long = omega (arith, a.long, length-append a.xs (x ∷ []));
  long' = a.long';
}

alike-first : (held : List ℕ) (x : ℕ) → 17 < length held → Alike (held ++ (x ∷ [])) held
alike-first [] x h = absurd (omega arith)
alike-first (b ∷ ys) x h = record {
  b = b;
  xs = ys ++ (x ∷ []);
  ys = ys;
  left = refl;
  right = refl;
  long = omega (arith, length-append ys (x ∷ []));
  long' = omega arith;
}

-- The bytes of line one so far: the buffer holds all of them, or a part that is refused alike.
data Held (acc buf : List ℕ) (n : ℕ) : Bool → Type 0 where
  all : acc ≡ take n buf → n ≤ length buf → Held acc buf n false
  some_of : Alike acc (take n buf) → length buf ≤ n → Held acc buf n true

held-opens : (v : Replay) (acc buf : List ℕ) (n : ℕ) (o : Bool) → Held acc buf n o → opens v (take n buf) ≡ opens v acc
held-opens v acc buf n false (all e h) = ap (opens v) (sym e)
held-opens v acc buf n true (some_of a h) = alike-opens v acc (take n buf) a

held_fits : (acc buf : List ℕ) (n x : ℕ) (o : Bool) → n < length buf → Held acc buf n o
    → (Held (acc ++ (x ∷ [])) (set buf n x) (n + 1) o) × (o ≡ false)
held_fits acc buf n x false k (all e h) =
    (all (ap (λ (l : List ℕ). l ++ (x ∷ [])) e ∙ sym (stored buf n x k)) (omega (arith, length-set buf n x)), refl)
held_fits acc buf n x true k (some_of a h) = absurd (omega arith)

held-over : (acc buf : List ℕ) (n x : ℕ) (o : Bool) → 17 < length buf → length buf ≤ n → Held acc buf n o
    → Held (acc ++ (x ∷ [])) buf n true
held-over acc buf n x false w k (all e h) =
    some_of (rw e (alike-first (take n buf) x (omega (arith, length-take-le n buf h)))) k
held-over acc buf n x true w k (some_of a h) = some_of (alike-more acc (take n buf) x a) k

-- Reading xs, from a place in line one, gives the run above.
abbrev Opens : Replay → List ℕ → Type 0
Opens v xs = (p : Place) (n : ℕ) (o : Bool) (buf acc : List ℕ) → 17 < length buf → Held acc buf n o
    → ran (at (reader p n o) v buf) xs ≡ opening (length buf) v p acc (lines xs)

module _ (v : Replay) (before : v.stage ≡ First) where
  going : is_ended v.stage ≡ false
  going = rw before

  lined-is : (n : ℕ) (o : Bool) (buf : List ℕ) → lined v (reader Start n o) buf ≡ log_of idle (opens v (take n buf))
  unfolding lined
  lined-is n o buf = rw before

  emptied-is : (n : ℕ) (o : Bool) (buf : List ℕ) → emptied v (reader Start n o) buf ≡ log_of idle (opens v (take n buf))
  unfolding emptied lined
  emptied-is n o buf = rw before

  module _ (b : ℕ) (bs : List ℕ) (ih : Opens v bs) (n : ℕ) (o : Bool) (buf acc : List ℕ) (wide : 17 < length buf)
      (held : Held acc buf n o) where
    abbrev cap : ℕ
    cap = length buf

    paper : (p : Place) (ls : List (List ℕ)) (r : Replay) → lines (b ∷ bs) ≡ ls → opening cap v p acc ls ≡ r
        → r ≡ opening cap v p acc (lines (b ∷ bs))
    paper p ls r e q = sym (ap (opening cap v p acc) e ∙ q)

    both-refuse : (p : Place) (ls : List (List ℕ)) → turn p b ≡ Turn.Bad → lines (b ∷ bs) ≡ ls
        → opening cap v p acc ls ≡ stops v 22
        → ran (at (reader p n o) v buf) (b ∷ bs) ≡ opening cap v p acc (lines (b ∷ bs))
    both-refuse p ls e el q = ran-byte _ _ b bs (ByteSteps.refused v going p n o buf b e)
        ∙ ran-ended (stops v 22) buf bs refl ∙ paper p ls (stops v 22) el q

    opened : ran (at idle (opens v (take n buf)) buf) bs ≡ talk (opens v acc) (joined cap [] (lines bs))
    opened =
        resumed bs (rest bs) (opens v (take n buf)) buf (opens-settled v (take n buf))
        ∙ ap (λ (w : Replay). talk w (joined cap [] (lines bs))) (held-opens v acc buf n o held)

    one-lf : (p : Place) → eqb b 10 ≡ true
        → ran (at (reader p n o) v buf) (b ∷ bs) ≡ opening cap v p acc (lines (b ∷ bs))
    one-lf Start lf =
        ran-byte _ (at idle (opens v (take n buf)) buf) b bs
        (ByteSteps.empty v going Start n o buf b (ByteSteps.lf-start b lf)
        ∙ ap (λ (w : Log). with' w buf) (emptied-is n o buf))
        ∙ opened ∙ paper Start ([] ∷ lines bs) _ (lines-lf b bs lf) (lf-start cap v acc (lines bs))
    one-lf Even lf =
        ran-byte _ (at idle (opens v (take n buf)) buf) b bs
        (ByteSteps.line v going Even n o buf b (ByteSteps.lf-even b lf)
        ∙ ap (λ (w : Log). with' w buf) (lined-is n o buf))
        ∙ opened ∙ paper Even ([] ∷ lines bs) _ (lines-lf b bs lf) (lf-even cap v acc (lines bs))
    one-lf (Odd h) lf = both-refuse (Odd h) ([] ∷ lines bs) (ByteSteps.lf-odd b lf h) (lines-lf b bs lf)
        (lf-odd cap v acc h (lines bs))

    module _ (other : eqb b 10 ≡ false) where
      digit-odd : (h : ℕ) → ltb (digit b) 16 ≡ true → (f : Bool) → ltb n (length buf) ≡ f
          → ran (at (reader (Odd h) n o) v buf) (b ∷ bs) ≡ opening cap v (Odd h) acc (lines (b ∷ bs))
      digit-odd h d true ef =
          let k : n < length buf = ltb-true n (length buf) ef in
          let x = h % 16 * 16 + digit b in
          ran-byte _ _ b bs (ByteSteps.fits v going (Odd h) n o buf b x (ByteSteps.digit-odd b other h d) k)
          ∙ ih Even (n + 1) o (set buf n x) (acc ++ (x ∷ [])) (omega (arith, length-set buf n x))
          (held_fits acc buf n x o k held).0
          ∙ ap (λ (c : ℕ). opening c v Even (acc ++ (x ∷ [])) (lines bs)) (length-set buf n x)
          ∙ paper (Odd h) (longer b (lines bs)) _ (lines_other b bs other) (whole cap v acc b d h (lines bs))
      digit-odd h d false ef =
          let k : length buf ≤ n = ltb-false n (length buf) ef in
          let x = h % 16 * 16 + digit b in
          ran-byte _ _ b bs (ByteSteps.over v going (Odd h) n o buf b x (ByteSteps.digit-odd b other h d) k)
          ∙ ih Even n true buf (acc ++ (x ∷ [])) wide (held-over acc buf n x o wide k held)
          ∙ paper (Odd h) (longer b (lines bs)) _ (lines_other b bs other) (whole cap v acc b d h (lines bs))

      one-other : (p : Place) (d : Bool) → ltb (digit b) 16 ≡ d
          → ran (at (reader p n o) v buf) (b ∷ bs) ≡ opening cap v p acc (lines (b ∷ bs))
      one-other p false d = both-refuse p (longer b (lines bs)) (ByteSteps.no_digit b other p d)
          (lines_other b bs other)
          (refused cap v acc b d p (lines bs))
      one-other Start true d =
          ran-byte _ _ b bs (ByteSteps.half v going Start n o buf b (digit b) (ByteSteps.digit-start b other d))
          ∙ ih (Odd (digit b)) n o buf acc wide held
          ∙ paper Start (longer b (lines bs)) _ (lines_other b bs other) (half-start cap v acc b d (lines bs))
      one-other Even true d =
          ran-byte _ _ b bs (ByteSteps.half v going Even n o buf b (digit b) (ByteSteps.digit-even b other d))
          ∙ ih (Odd (digit b)) n o buf acc wide held
          ∙ paper Even (longer b (lines bs)) _ (lines_other b bs other) (half-even cap v acc b d (lines bs))
      one-other (Odd h) true d = digit-odd h d (ltb n (length buf)) refl

    one : (p : Place) (e : Bool) → eqb b 10 ≡ e
        → ran (at (reader p n o) v buf) (b ∷ bs) ≡ opening cap v p acc (lines (b ∷ bs))
    one p true lf = one-lf p lf
    one p false other = one-other other p (ltb (digit b) 16) refl

  at-end : (p : Place) (n : ℕ) (o : Bool) (buf acc : List ℕ) → Held acc buf n o
      → ran (at (reader p n o) v buf) [] ≡ opening (length buf) v p acc (lines [])
  unfolding opening lines
  at-end Start n o buf acc held = end-start v n o buf
  at-end Even n o buf acc held =
      end-even v going n o buf ∙ ap (λ (w : Log). w.replay) (lined-is n o buf) ∙ held-opens v acc buf n o held
  at-end (Odd h) n o buf acc held = end-odd v going n o buf h

  first : (xs : List ℕ) → Opens v xs
  first [] p n o buf acc wide held = at-end p n o buf acc held
  first (b ∷ bs) p n o buf acc wide held = one b bs (first bs) n o buf acc wide held p (eqb b 10) refl

  -- From the beginning of the input.
  pub from_start : (xs buf : List ℕ) → 17 < length buf
      → ran (at idle v buf) xs ≡ opening (length buf) v Start [] (lines xs)
  from_start xs buf wide = first xs Start 0 false buf [] wide (all refl (omega arith))
