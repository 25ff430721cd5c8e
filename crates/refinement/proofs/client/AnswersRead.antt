-- The code's answers, read as document 01's, are the machine's.
use Prim.Native.Nat.{ℕ, ◌≤◌}
use mathlib.Core.Bool.{Bool, true, false, cond}
use mathlib.Core.List.{List, [], ◌∷◌, map}
use mathlib.Core.Option.{Option, none, some}
use mathlib.Core.Path.{◌≡◌, refl, ◌∙◌, ap, ap₂}
use lib.ListN.{length}
use Rattle.paper.specs.Answers.{key}
use Rattle.paper.specs.Client.{Says, refused, onward, over}
use Rattle.paper.specs.Count.{All}
use Rattle.paper.specs.Hearing as Paper
use Rattle.paper.specs.Flash.{keys}
use Rattle.paper.specs.Frame.{Info}
use Rattle.paper.specs.Hearing.{nothing, one, unaddressed, garble, on_some}
use Rattle.paper.specs.Talk.{AnswerTo, Outcome, quiet, heard, attached, found, knows}
use Rattle.paper.specs.Walk.{long, done, stopped}
use Rattle.theory.specs.WalkMachine as Walk
use Rattle.theory.specs.WalkMachine.{State, asked, mine, other, leaving, going, ended}
use Rattle.theory.specs.ClientMachine.{Brief}
use Rattle.theory.specs.OperationMachine as OperationMachine
use Rattle.theory.specs.OperationMachine.{Search, probing, parting, seeking, backing, walking, Phase, selecting}
use Rattle.theory.specs.OperationMachine.{demanding, leaving, Then, to, ends, refuses, unless_long, sought, walked}
use Rattle.theory.specs.OperationMachine.{hears, step}
use Rattle.theory.proofs.walk.StepEnds.{Undone, Staying, step-undone}
use Rattle.theory.proofs.walk.StatesFit.{Short, FitsNext, step_fits}
use Rattle.theory.proofs.client.ClientsFit.{FitsSearch, FitsPhase, FitsOutcome}
use Rattle.theory.proofs.talk.JobSteps.{Ends, told-leads}
use Rattle.ids.specs.Ids.{id_of}
use Rattle.ids.proofs.Laws.{id-of-from}
use Rattle.hearing.specs.declared.Hearing.{Hearing}
use Rattle.hearing.specs.Heard.{kind_of, id_in}
use Rattle.walk_table.specs.declared.Entry.{Entry}
use Rattle.walk_table.specs.Rows.{rows}
use Rattle.client.specs.Numbers.{number_of, carried_by, ids_of, heard_from, progress_of, end_of, says_of}
use Rattle.refinement.specs.CodeWalk.{row_of, table_of}
use Rattle.refinement.specs.CodeClient.{Shown, progress_in, refused_as, shown_says}
use Rattle.refinement.proofs.walk.StepIsMachine.{short-of, told}
use Rattle.refinement.proofs.walk.TableRows.{table-rows, table-count}

abbrev pub read_back : Shown → Says
read_back s = says_of s.says s.progress s.id s.found

-- The code's form of this answer reads back as the same answer.
abbrev pub Readable : Says → Type 0
Readable s = read_back (shown_says s) ≡ s

-- The ids read from the table of some ids are those ids.
map_back : (ids : List Paper.Id) → All Short ids → map (λ (e : Entry). id_of e.id) (map row_of ids) ≡ ids
map_back [] s = refl
map_back (x ∷ xs) s = ap₂ ◌∷◌ (id-of-from x s.0) (map_back xs s.1)

pub ids-back : (ids : List Paper.Id) → length ids ≤ 64 → All Short ids → ids_of (table_of ids) ≡ ids
unfolding ids_of
ids-back ids few s =
    ap (λ (n : ℕ). map (λ (e : Entry). id_of e.id) (rows (table_of ids) 0 n)) (table-count ids)
    ∙ ap (map (λ (e : Entry). id_of e.id)) (table-rows ids few s)
    ∙ map_back ids s

-- The refusals that carry nothing.
pub io-read : Readable (refused 1 [])
unfolding refused_as says_of end_of number_of carried_by
io-read = refl

unsound-read : Readable (refused 5 [])
unfolding refused_as says_of end_of number_of carried_by
unsound-read = refl

none_read : Readable (refused 7 [])
unfolding refused_as says_of end_of number_of carried_by
none_read = refl

several-read : Readable (refused 8 [])
unfolding refused_as says_of end_of number_of carried_by
several-read = refl

bare-read : Readable (refused 11 [])
unfolding refused_as says_of end_of number_of carried_by
bare-read = refl

deep-read : Readable (refused 12 [])
unfolding refused_as says_of end_of number_of carried_by
deep-read = refl

long-read : Readable (refused 14 [])
unfolding refused_as says_of end_of number_of carried_by
long-read = refl

full-read : Readable (refused 15 [])
unfolding refused_as says_of end_of number_of carried_by
full-read = refl

spent-read : Readable (refused 17 [])
unfolding refused_as says_of end_of number_of carried_by
spent-read = refl

brief-read : Readable (refused 18 [])
unfolding refused_as says_of end_of number_of carried_by
brief-read = refl

far-read : Readable (refused 19 [])
unfolding refused_as says_of end_of number_of carried_by
far-read = refl

pub image-read : Readable (refused 20 [])
unfolding refused_as says_of end_of number_of carried_by
image-read = refl

pub turn-read : Readable (refused 21 [])
unfolding refused_as says_of end_of number_of carried_by
turn-read = refl

unaddressed-read : Readable (refused 23 [])
unfolding refused_as says_of end_of number_of carried_by
unaddressed-read = refl

-- Those that carry numbers.
device-read : (status : ℕ) → Readable (refused 2 (status ∷ []))
unfolding refused_as says_of number_of carried_by
device-read status = refl

large-read : (size capacity : ℕ) → Readable (refused 3 (size ∷ capacity ∷ []))
unfolding refused_as says_of number_of carried_by
large-read size capacity = refl

check-read : (expected actual : ℕ) → Readable (refused 4 (expected ∷ actual ∷ []))
unfolding refused_as says_of number_of carried_by
check-read expected actual = refl

keys-read : (info : Info) (image : List ℕ) → Readable (refused 6 (keys info image))
unfolding refused_as says_of number_of carried_by
keys-read info image = go (key image)
  where
    go : (o : Option ℕ) → Readable (refused 6 (info.compat ∷ on_some o [] (λ k. k ∷ [])))
    go none = refl
    go (some k) = refl

-- Those that carry a prefix.
missing-read : (x : Paper.Id) → Short x → Readable (refused 9 x)
unfolding refused_as says_of number_of carried_by
missing-read x s = ap (refused 9) (id-of-from x s)

ambiguous-read : (x : Paper.Id) → Short x → Readable (refused 10 x)
unfolding refused_as says_of number_of carried_by
ambiguous-read x s = ap (refused 10) (id-of-from x s)

-- The progress.
progress-back : (p : Option (ℕ × ℕ)) → progress_of (progress_in p) ≡ p
unfolding progress_of
progress-back none = refl
progress-back (some p) = refl

pub onward-read : (p : Option (ℕ × ℕ)) → Readable (onward p)
unfolding says_of
onward-read p = ap onward (progress-back p)

-- The outcomes.
quiet_read : (p : Option (ℕ × ℕ)) → Readable (over p quiet)
unfolding says_of end_of
quiet_read p = ap (λ (q : Option (ℕ × ℕ)). over q quiet) (progress-back p)

knows_read : (info : Info) (p : Option (ℕ × ℕ)) → Readable (over p (knows info))
unfolding says_of end_of
knows_read info p = ap (λ (q : Option (ℕ × ℕ)). over q (knows info)) (progress-back p)

outcome-read : (o : Outcome) → FitsOutcome o → Readable (over none o)
unfolding says_of end_of heard_from progress_of
outcome-read quiet f = quiet_read none
outcome-read (heard nothing) f = refl
outcome-read (heard (one x)) f =
    ap (λ (r : Hearing). over none (heard (heard_from (kind_of r) (id_in r)))) (told x f)
    ∙ ap (λ (y : Paper.Id). over none (heard (one y))) (id-of-from x (short-of x f))
outcome-read (heard unaddressed) f = refl
outcome-read (heard garble) f = refl
outcome-read (attached none) f = refl
outcome-read (attached (some x)) f = ap (λ (y : Paper.Id). over none (attached (some y))) (id-of-from x f)
outcome-read (found ids) f = ap (λ (l : List Paper.Id). over none (found l)) (ids-back ids f.0 f.1)
outcome-read (knows info) f = knows_read info none

-- What follows a step reads back, with the progress made.
abbrev pub ReadableThen : Option (ℕ × ℕ) → Then → Type 0
ReadableThen p (to ph) = Unit {0}
ReadableThen p (ends o) = Readable (over p o)
ReadableThen p (refuses n carries) = Readable (refused n carries)

refuse_if-read : (h : Paper.Heard) (t : Then) → (long h ≡ false → ReadableThen none t)
    → ReadableThen none (unless_long h t)
refuse_if-read h t f = go (long h) refl
  where
    go : (b : Bool) → long h ≡ b → ReadableThen none (cond b (refuses 14 []) t)
    go true e = long-read
    go false e = f e

sought-read : (uid : Option Paper.Id) → Brief uid → (h : Paper.Heard) → long h ≡ false
    → ReadableThen none (sought uid h)
unfolding sought
sought-read none b nothing e = none_read
sought-read (some x) b nothing e = missing-read x b
sought-read uid b (one x) e = outcome-read (attached (some x)) (short-of x e)
sought-read none b unaddressed e = outcome-read (attached none) tt
sought-read (some x) b unaddressed e = bare-read
sought-read uid b garble e = tt

-- If the walk has stopped, its number reads back.
abbrev pub Stops : Walk.Next → Type 0
Stops (going s) = Unit {0}
Stops (ended (done ids)) = Unit {0}
Stops (ended (stopped n)) = Readable (refused n [])

undone-stops : (n : Walk.Next) → Undone (λ n. Readable (refused n [])) n → Stops n
undone-stops (going s) u = tt
undone-stops (ended (done ids)) u = tt
undone-stops (ended (stopped n)) u = u

pub walked-read : (n : Walk.Next) → FitsNext n → Stops n → ReadableThen none (walked n)
walked-read (going s) f u = tt
walked-read (ended (done ids)) f u = outcome-read (found ids) f
walked-read (ended (stopped c)) f u = u

pub step-stops : (s : State) (h : Paper.Heard) → Stops (Walk.step s h)
unfolding Walk.step Walk.too_long Walk.tell
step-stops s h = go s.phase
  where
    at : Walk.Phase → State
    at p = record { pre = s.pre; marks = s.marks; ids = s.ids; phase = p }

    asks : (p : Walk.Phase) → Staying p → Stops (Walk.step (at p) h)
    asks p a = undone-stops (Walk.step (at p) h)
        (step-undone (λ n. Readable (refused n [])) deep-read long-read full-read unaddressed-read (at p) h a)

    go : (p : Walk.Phase) → Stops (Walk.step (at p) h)
    go asked = asks asked tt
    go (mine x) = asks (mine x) tt
    go (other x good) = asks (other x good) tt
    go leaving = tt

search-read : (s : Search) → FitsSearch s → (h : Paper.Heard) → ReadableThen none (hears s h)
unfolding hears
search-read (probing bytes bits) f h = refuse_if-read h (ends (heard h)) (λ e. outcome-read (heard h) e)
search-read parting f h = outcome-read quiet tt
search-read (seeking uid) f h = refuse_if-read h (sought uid h) (sought-read uid f h)
search-read (backing none) f h = several-read
search-read (backing (some x)) f h = ambiguous-read x f
search-read (walking s) f h = walked-read (Walk.step s h) (step_fits s h f) (step-stops s h)

-- What a job leads to: a phase that satisfies P, or an end that reads back with any progress.
abbrev pub Reads : (Phase → Type 0) → Then → Type 0
Reads P (to ph) = P ph
Reads P (ends o) = (p : Option (ℕ × ℕ)) → Readable (over p o)
Reads P (refuses n carries) = Readable (refused n carries)

pub job-ends : (P : Phase → Type 0) → Ends (Reads P)
job-ends P = record {
  quiet = quiet_read;
  knows = knows_read;
  device = device-read;
  large = λ n info. large-read _ info.capacity;
  check = λ payload image. check-read _ _;
  unsound = unsound-read;
  incompatible = keys-read;
  spent = spent-read;
  short = brief-read;
  far = far-read;
}

-- Whatever is answered in a phase that fits, what follows reads back.
pub phase-read : (ph : Phase) → FitsPhase ph → (a : AnswerTo (OperationMachine.request ph))
    → ReadableThen (step ph a).progress (step ph a).then
unfolding step
phase-read (selecting s) f h = search-read s f h
phase-read (demanding j) f a =
    go (step (demanding j) a).then (told-leads _ (job-ends (λ k. Unit {0})) j (λ k w. tt) a.reply a.image)
  where
    go : (t : Then) → Reads (λ k. Unit {0}) t → ReadableThen (step (demanding j) a).progress t
    go (to ph) r = tt
    go (ends o) r = r (step (demanding j) a).progress
    go (refuses n carries) r = r
phase-read (leaving bootloader baud) f a = quiet_read none
