-- The bench log's output: once the pieces of an input are fed and finished, what is shown is document 01's output for
-- the whole input.
use Prim.Native.Nat.{ℕ, ◌≤◌, ◌<◌}
use mathlib.Core.Bool.{Bool, true, false, cond}
use mathlib.Core.List.{List, [], ◌∷◌, ◌++◌, map}
use mathlib.Core.Option.{Option, none, some}
use mathlib.Core.Path.{◌≡◌, refl, sym, ◌∙◌, ap, subst}
use native.Mathlib.Omega.{arith}
use lib.Dec.{leb, ltb, eqb}
use lib.ListN.{length}
use borrow.Author.Tests.{ltb-false}
use Rattle.paper.specs.Count.{All}
use Rattle.paper.specs.Client.{within_longest}
use Rattle.paper.specs.Hearing.{Id, bits_of, on_some, longest}
use Rattle.paper.specs.Text.{unhex}
use Rattle.paper.specs.Log.{Records, joined, lines, over_records, prefix_in, opened, id_lines, last_line, shown, output}
use Rattle.paper.specs.Walk.{Ended, done, stopped, discover}
use Rattle.theory.specs.WalkMachine as Walking
use Rattle.theory.specs.WalkMachine.{going}
use Rattle.theory.specs.OperationMachine.{selecting, walking, to, starting}
use Rattle.theory.specs.ClientMachine as Machine
use Rattle.theory.specs.ClientMachine.{ready}
use Rattle.theory.proofs.walk.StatesFit.{Short, FitsNext}
use Rattle.theory.proofs.frames.TextReadsBack.{unhex-bytes}
use Rattle.theory.proofs.client.ClientsFit.{Fits, fresh-fits, start_discover-fits}
use Rattle.theory.proofs.walk.MachineIsWalk.{resume-start}
use Rattle.walk_table.specs.declared.Table.{Table}
use Rattle.walk_table.specs.Rows.{no_table, rows}
use Rattle.client.specs.declared.Client.{Client}
use Rattle.client.specs.declared.Started.{Started}
use Rattle.client.specs.Clients as Code
use Rattle.client.specs.Numbers as Numbers
use Rattle.client.specs.Numbers.{number_of}
use Rattle.client_start.specs.Start.{start_discover}
use Rattle.refinement.specs.CodeWalk.{table_of}
use Rattle.refinement.specs.CodeClient.{client_of, refused_as, started_as}
use Rattle.refinement.specs.ClientServed.{end_table}
use Rattle.refinement.proofs.client.CallsAgree.{new-client}
use Rattle.refinement.proofs.client.AnswersRead.{ids-back}
use Rattle.refinement.proofs.client.StartAnswers.{discover-started}
use Rattle.refinement.proofs.walk.TableRows.{table-count}
use Rattle.log_listing.specs.declared.Answer.{Answer}
use Rattle.log_listing.specs.Listing.{used, in_row, first_ids, text}
use Rattle.log_run.specs.declared.Replay.{Replay}
use Rattle.log_run.specs.Run as Run
use Rattle.log_run.specs.Run.{begun, stops, goes, opens, answer}
use Rattle.log_feed.specs.FeedMachine as Bench
use Rattle.log_feed.specs.Pieces.{pieces, concat}
use Rattle.log_theory.specs.WholeTalk.{talk, opened_by, run_of}
use Rattle.log_theory.proofs.ReadToEnd.{talk-ended}
use Rattle.log_theory.proofs.WholeInput.{whole-text}
use Rattle.log_theory.proofs.CountFits.{count-fits}
use Rattle.log_theory.proofs.RecordsAreTalk.{numbered, Closed, asked-stands, talks}

-- The answer of a run that has ended.
abbrev of : ℕ → ℕ → Table → Answer
of code selects found = record { code = code; selects = selects; found = found }

used_all : (n : ℕ) → n ≤ 64 → cond (ltb n 64) n 64 ≡ n
used_all n h = go (ltb n 64) refl
  where
    go : (b : Bool) → ltb n 64 ≡ b → cond b n 64 ≡ n
    go true e = refl
    go false e = let k : 64 ≤ n = ltb-false n 64 e in omega arith

all-used : (ids : List Id) → length ids ≤ 64 → used (table_of ids) ≡ length ids
unfolding used
all-used ids h = ap (λ (n : ℕ). cond (ltb n 64) n 64) (table-count ids) ∙ used_all (length ids) h

all_listed : (ids : List Id) → length ids ≤ 64 → All Short ids → first_ids (table_of ids) (length ids) ≡ ids
unfolding first_ids Numbers.ids_of
all_listed ids h s = ap (λ (n : ℕ). map in_row (rows (table_of ids) 0 n)) (sym (table-count ids)) ∙ ids-back ids h s

done-text : (ids : List Id) (k : ℕ) → length ids ≤ 64 → All Short ids → text (of 0 k (table_of ids)) ≡ shown (done ids) k
unfolding text shown
done-text ids k h s =
    ap (λ (n : ℕ). id_lines (first_ids (table_of ids) n) ++ last_line 0 n k) (all-used ids h)
    ∙ ap (λ (l : List Id). id_lines l ++ last_line 0 (length ids) k) (all_listed ids h s)

stopped-text : (n k : ℕ) → text (of n k no_table) ≡ shown (stopped n) k
unfolding text shown used first_ids rows id_lines no_table
stopped-text n k = refl

end-text : (e : Ended (List Id)) (k : ℕ) → FitsNext (Walking.ended e)
    → text (of (numbered e) k (end_table e)) ≡ shown e k
end-text (done ids) k f = done-text ids k f.0 f.1
end-text (stopped n) k f = stopped-text n k

as-of : (v : Replay) → answer v ≡ of (answer v).code v.selects v.found
unfolding answer
as-of v = refl

closed-text : (v : Replay) (e : Ended (List Id)) (k : ℕ) → k < 65536 → Closed v e k → text (answer v) ≡ shown e k
closed-text v e k small c =
    ap text (as-of v)
    ∙ ap (λ (n : ℕ). text (of n v.selects v.found)) c.code
    ∙ ap (λ (n : ℕ). text (of (numbered e) n v.found)) count
    ∙ ap (λ (t : Table). text (of (numbered e) k t)) c.found
    ∙ end-text e k c.fits
  where
    count : v.selects ≡ k
    count = omega (arith, c.selects)

-- A run that ends with a number before any Select.
refused-text : (v : Replay) (n : ℕ) (rs : Records) → v ≡ Run.ended v.client 0 no_table n
    → text (answer (talk v rs)) ≡ shown (stopped n) 0
unfolding answer
refused-text v n rs e =
    ap (λ (w : Replay). text (answer (talk w rs))) e
    ∙ ap (λ (w : Replay). text (answer w)) (talk-ended rs (Run.ended v.client 0 no_table n) refl)
    ∙ stopped-text n 0

-- The discovery under a prefix.
module _ (given : Id) (bytes : All (λ b. b < 256) given) (rs : Records) where
  abbrev Start : Machine.Told
  Start = Machine.start_discover Machine.fresh given

  abbrev from : Started → Replay
  from s = goes s.says s.client 0 no_table

  abbrev paper : Bool → Ended (List Id) × ℕ
  paper b = cond b (over_records (discover (bits_of given)) rs 0) (stopped 13, 0)

  started : start_discover Code.fresh given ≡ started_as Start
  started = ap (λ (c : Client). start_discover c given) new-client ∙ discover-started Machine.fresh given bytes

  abbrev first : Machine.Client
  first = record { seed = 0; id = none; turn = ready (selecting (walking (starting (bits_of given)))) }

  short-starts : within_longest given ≡ true
      → Start ≡ Machine.settle Machine.fresh none (to (selecting (walking (starting (bits_of given))))) 0
  unfolding Machine.start_discover Machine.start Machine.fresh
  short-starts e = rw e

  long-starts : within_longest given ≡ false → Start ≡ Machine.unchanged Machine.fresh 13 []
  unfolding Machine.start_discover Machine.start Machine.fresh
  long-starts e = rw e

  first_fits : within_longest given ≡ true → Fits first
  unfolding Machine.settle Machine.fresh
  first_fits e = subst (λ (t : Machine.Told). Fits t.client) (short-starts e)
      (start_discover-fits Machine.fresh fresh-fits given)

  pub begins : (b : Bool) → within_longest given ≡ b
      → text (answer (talk (from (start_discover Code.fresh given)) rs)) ≡ shown (paper b).0 (paper b).1
  unfolding goes Machine.settle Machine.fresh refused_as number_of Walking.start
  begins true e =
      ap (λ (t : Started). text (answer (talk (from t) rs))) (started ∙ ap started_as (short-starts e))
      ∙ closed-text (talk (Run.asked (client_of first) 0) rs) (over_records (discover (bits_of given)) rs 0).0
      (over_records (discover (bits_of given)) rs 0).1
      (count-fits (bits_of given) rs)
      (rw (resume-start (bits_of given))
      (talks rs (Run.asked (client_of first) 0) (going (starting (bits_of given))) 0
      (asked-stands 0 none (starting (bits_of given)) (first_fits e) 0 0 refl)))
  begins false e =
      ap (λ (t : Started). text (answer (talk (from t) rs))) (started ∙ ap started_as (long-starts e))
      ∙ refused-text (Run.ended (client_of Machine.fresh) 0 no_table 13) 13 rs refl

-- Line one, and the lines after it.
abbrev paper_line : Option Id → List (List ℕ) → Ended (List Id) × ℕ
paper_line t ls =
    on_some t (stopped 22, 0) (λ bytes. on_some (prefix_in bytes) (stopped 22, 0) (λ given.
    cond (leb (length given) longest) (over_records (discover (bits_of given)) (joined 4096 [] ls) 0) (stopped 13, 0)))

abbrev code_line : Option Id → List (List ℕ) → Replay
code_line t ls = on_some t (stops begun 22) (λ bytes. talk (opens begun bytes) (joined 4096 [] ls))

line-text : (t : Option Id) → ((bytes : Id) → t ≡ some bytes → All (λ b. b < 256) bytes) → (ls : List (List ℕ))
    → text (answer (code_line t ls)) ≡ shown (paper_line t ls).0 (paper_line t ls).1
unfolding answer begun prefix_in opens
line-text none all ls = stopped-text 22 0
line-text (some []) all ls = refused-text (stops begun 22) 22 (joined 4096 [] ls) refl
line-text (some (b ∷ given)) all ls = go (eqb b 1)
  where
    go : (x : Bool)
        → text (answer (talk (on_some (cond x (some given) none) (stops begun 22)
        (λ given. goes (start_discover Code.fresh given).says (start_discover Code.fresh given).client 0 no_table))
        (joined 4096 [] ls)))
        ≡ shown (on_some (cond x (some given) none) (stopped 22, 0)
        (λ given. cond (leb (length given) longest) (over_records (discover (bits_of given)) (joined 4096 [] ls) 0)
        (stopped 13, 0))).0
        (on_some (cond x (some given) none) (stopped 22, 0)
        (λ given. cond (leb (length given) longest) (over_records (discover (bits_of given)) (joined 4096 [] ls) 0)
        (stopped 13, 0))).1
    go true = begins given (all (b ∷ given) refl).1 (joined 4096 [] ls) (within_longest given) refl
    go false = refused-text (stops begun 22) 22 (joined 4096 [] ls) refl

opened-text : (ls : List (List ℕ)) → text (answer (opened_by ls)) ≡ shown (opened ls).0 (opened ls).1
unfolding opened_by opened answer begun
opened-text [] = stopped-text 22 0
opened-text (l ∷ ls) = line-text (unhex l) (λ bytes e. unhex-bytes l bytes e) ls

pub run-output : (input : List ℕ) → text (answer (run_of input)) ≡ output input
unfolding run_of output
run-output input = opened-text (lines input)

-- The theorem that `acceptance` promises.
pub log-output : (ps : List (List ℕ)) (buf : List ℕ) → length buf ≡ 4096
    → text (answer (Bench.last_line (pieces (record { log = Bench.begun; bytes = buf }) ps)).log.replay)
    ≡ output (concat ps)
log-output ps buf h = whole-text ps buf h ∙ run-output (concat ps)
