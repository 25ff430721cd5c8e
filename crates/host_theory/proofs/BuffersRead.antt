-- What a host reads in the buffers after a call is the client's own answer.
use Prim.Native.Nat.{ℕ, ◌<◌, ◌^◌}
use mathlib.Core.List.{List, [], ◌∷◌, ◌++◌}
use mathlib.Core.Path.{◌≡◌, refl, sym, ◌∙◌, ap}
use native.Mathlib.Omega.{arith}
use lib.ListN.{length, take, drop}
use lib.Seq.{take_at, drop_at}
use Rattle.paper.specs.Frame.{le, byte, field}
use Rattle.paper.proofs.Fields.{joined_length, spread, field_at, byte-in}
use Rattle.client.specs.declared.Told.{Told}
use Rattle.client.specs.Numbers.{says_of}
use Rattle.image.specs.InfoBytes.{saved_info}
use Rattle.image.proofs.info_bytes.Ways.{info-length}
use Rattle.image.proofs.info_bytes.Laws.{info-back}
use Rattle.host_turn_bytes.proofs.Laws.{flag-back}
use Rattle.refinement.specs.Calls.{code_answer}
use Rattle.host_state.specs.State as State
use Rattle.host_state.specs.State.{saved_id, saved_table, loaded, loaded_id, loaded_table}
use Rattle.host_state.proofs.Ways.{id-length, table-length}
use Rattle.host_state.proofs.Laws.{id-back, table-back}
use Rattle.host_answer.specs.declared.numbers.Note.{Note}
use Rattle.host_answer.specs.declared.numbers.Gain.{Gain}
use Rattle.host_answer.specs.Numbers.{note_of, gain_of, says_in, progress_in}
use Rattle.host_answer.proofs.numbers.Laws.{note-says, gain-progress}
use Rattle.host_answer.specs.AnswerBytes.{size, tagged, sizes, pair, numbered, shown}
use Rattle.host_buffers.specs.Codes.{coded}
use Rattle.host_buffers.specs.Hosts.{code_of, leaves, handed}
use Rattle.host_theory.specs.ExportedCalls.{Made, held, read_as, loaded_note, loaded_gain, read_from, Coded, behind}
use Rattle.host_theory.proofs.NumbersFit.{NoteFits, GainFits}
use Rattle.host_theory.proofs.ClientFits.{ToldFits}

-- An answer is 1,179 bytes.
numbers-length : (n : Note) (g : Gain) (rest : ℕ) → length (numbered n g rest) ≡ 66
unfolding numbered tagged sizes pair le
numbers-length n g rest = joined_length ((32, sizes n g rest) ∷ (8, pair n) ∷ (18, saved_info n.info) ∷ [])
    (tagged n g) 8 refl (refl, (refl, (info-length n.info, tt)))

shown-length : (t : Told) → ToldFits t → length (shown t.says t.progress t.id t.found t.rest) ≡ size
unfolding shown
shown-length t h =
    joined_length ((17, saved_id t.id) ∷ (1096, saved_table t.found) ∷ [])
    (numbered (note_of t.says) (gain_of t.progress) t.rest) 66 (numbers-length _ _ t.rest)
    (id-length t.id h.id.bytes.0, (table-length t.found h.found.ids.0 h.found.lens.0, tt))

-- The numbers of an answer are read back.
module _ (n : Note) (g : Gain) (rest : ℕ) (b : List ℕ) (hn : NoteFits n) (hg : GainFits g) (hr : rest < 2 ^ 64)
    (e : take 66 (drop 0 b) ≡ numbered n g rest) where
  numbers-back : (loaded_note b ≡ n) × ((loaded_gain b ≡ g) × (field 8 8 b ≡ rest))
  unfolding numbered tagged sizes pair loaded_note loaded_gain le
  numbers-back =
      let s = spread 0 b ((32, sizes n g rest) ∷ (8, pair n) ∷ (18, saved_info n.info) ∷ []) (tagged n g) 8 refl
      (refl, (refl, (info-length n.info, tt))) e in
      let z = spread 8 b ((8, le 8 n.length) ∷ (8, le 8 g.done) ∷ (8, le 8 g.total) ∷ []) (le 8 rest) 8 refl
      (refl, (refl, (refl, tt))) s.1.0 in
      let p = spread 40 b ((4, le 4 n.second) ∷ []) (le 4 n.first) 4 refl (refl, tt) s.1.1.0 in (
        rw (
          byte-in 0 8 0 (tagged n g) b (omega arith) s.0,
          byte-in 0 8 1 (tagged n g) b (omega arith) s.0,
          byte-in 0 8 2 (tagged n g) b (omega arith) s.0,
          byte-in 0 8 3 (tagged n g) b (omega arith) s.0,
          byte-in 0 8 4 (tagged n g) b (omega arith) s.0,
          byte-in 0 8 6 (tagged n g) b (omega arith) s.0,
          flag-back n.any,
          flag-back n.key,
          field_at 16 8 n.length b hn.length z.1.0,
          field_at 40 4 n.first b hn.first p.0,
          field_at 44 4 n.second b hn.second p.1.0,
          info-back 48 b n.info hn.info s.1.1.1.0,
        ),
        (
          rw (
            byte-in 0 8 5 (tagged n g) b (omega arith) s.0,
            flag-back g.made,
            field_at 24 8 g.done b hg.done z.1.1.0,
            field_at 32 8 g.total b hg.total z.1.1.1.0,
          ),
          field_at 8 8 rest b hr z.0,
        ),
      )

-- An answer is read back from its bytes, whatever follows.
module _ (t : Told) (h : ToldFits t) (b : List ℕ)
    (e : take size (drop 0 b) ≡ shown t.says t.progress t.id t.found t.rest) where
  parts : (take 66 (drop 0 b) ≡ numbered (note_of t.says) (gain_of t.progress) t.rest)
      × ((take 17 (drop 66 b) ≡ saved_id t.id) × (take 1096 (drop 83 b) ≡ saved_table t.found))
  unfolding shown
  parts =
      let s = spread 0 b ((17, saved_id t.id) ∷ (1096, saved_table t.found) ∷ [])
      (numbered (note_of t.says) (gain_of t.progress) t.rest) 66 (numbers-length _ _ t.rest)
      (id-length t.id h.id.bytes.0, (table-length t.found h.found.ids.0 h.found.lens.0, tt)) e in
      (s.0, (s.1.0, s.1.1.0))

  numbers : (loaded_note b ≡ note_of t.says) × ((loaded_gain b ≡ gain_of t.progress) × (field 8 8 b ≡ t.rest))
  numbers = numbers-back (note_of t.says) (gain_of t.progress) t.rest b h.says h.progress h.rest
      parts.0

  pub says_back : says_in (loaded_note b) ≡ t.says
  says_back = ap says_in numbers.0 ∙ note-says t.says

  pub code-back : code_of t.says ≡ coded (byte 0 b) (field 16 8 b)
  unfolding code_of loaded_note
  code-back = sym (ap (λ (n : Note). coded n.number n.length) numbers.0)

  pub progress-back : progress_in (loaded_gain b) ≡ t.progress
  progress-back = ap progress_in numbers.1.0 ∙ gain-progress t.progress

  pub rest_back : field 8 8 b ≡ t.rest
  rest_back = numbers.1.1

  pub beside-id : loaded_id 66 b ≡ t.id
  beside-id = id-back 66 b t.id h.id parts.1.0

  pub beside-found : loaded_table 83 b ≡ t.found
  beside-found = table-back 83 b t.found h.found parts.1.1

-- Everything that a call leaves is read back, if the state after it holds the client.
module _ (m : Made) (f : ToldFits m.told) (s a : List ℕ) where
  abbrev written : List ℕ
  written = shown m.told.says m.told.progress m.told.id m.told.found m.told.rest

  front : take size (drop 0 (written ++ drop size a)) ≡ written
  front = take_at written (drop size a) size (shown-length m.told f)

  pub held-read : loaded (held s a m).state ≡ m.told.client → read_from (held s a m) ≡ read_as m
  unfolding read_from read_as held handed leaves
  held-read e =
      λ i. code_answer (
        record {
          says = says_of (says_back m.told f (written ++ drop size a) front i)
              (progress-back m.told f (written ++ drop size a) front i)
              (beside-id m.told f (written ++ drop size a) front i)
              (beside-found m.told f (written ++ drop size a) front i);
          rest = rest_back m.told f (written ++ drop size a) front i;
          buffer = m.buffer;
        },
        e i,
      )

  pub held-coded : Coded (held s a m)
  unfolding held handed leaves
  held-coded = code-back m.told f (written ++ drop size a) front

  pub held-behind : (more : List ℕ) → drop State.size (held s a m).state ≡ more
      → behind (held s a m) ≡ (more, drop size a)
  unfolding held handed leaves
  held-behind more e = λ i. (e i, drop_at written (drop size a) size (shown-length m.told f) i)
