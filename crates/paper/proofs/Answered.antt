-- The frame that answers a request: where it is in the record, and where its payload is.
use Prim.Native.Nat.{ℕ, zero, suc, ◌+◌, ◌-◌, ◌≤◌}
use mathlib.Core.Bool.{Bool, true, false, cond}
use mathlib.Core.List.{List}
use mathlib.Core.Path.{◌≡◌, refl, sym, ◌∙◌, ap}
use native.Mathlib.Omega.{arith}
use lib.ListN.{length, take, drop, length-drop}
use lib.Seq.{drop-drop}
use lib.Dec.{eqb}
use Rattle.paper.specs.Frame.{Frame, size, Reading, short, too_long, bad_check, whole, on_reading, read}
use Rattle.paper.specs.Frame.{status-Request, status-Ok, status-CrcMismatch}
use Rattle.paper.specs.Answers.{Reply, ok, device, Answer, lost, answered, reply_of, unless_echo, answer_from}
use Rattle.paper.specs.Answers.{answer}
use Rattle.paper.proofs.Readings.{Read, framed, read_known}

-- The reply of a frame, by whether its check is right.
abbrev pub said_by : Bool → Frame → Reply
said_by true f = reply_of f
said_by false f = device status-CrcMismatch

-- A frame of the record that gives the reply r and ends at the place end. Reading it begins at the place from.
pub record Found (bytes : List ℕ) (r : Reply) (end : ℕ) : Type 0 where
  pub from : ℕ
  pub skip : ℕ
  pub frame : Frame
  pub right : Bool
  pub reads : read (drop from bytes) ≡ framed right skip frame
  pub says : said_by right frame ≡ r
  pub ends : from + (skip + size frame) ≡ end

found_from : (n at : ℕ) (bytes : List ℕ) (r : Reply) (end : ℕ) → answer_from n at bytes ≡ answered r end
    → Found bytes r end
unfolding answer_from
found_from zero at bytes r end e = absurd (let z : ◌≡◌ {A = ℕ} 0 1 = cc in omega arith)
found_from (suc n) at bytes r end e = go (λ later. found_from n later bytes r end) (read (drop at bytes)) refl e
  where
    More : Type 0
    More = (later : ℕ) → answer_from n later bytes ≡ answered r end → Found bytes r end

    next : ℕ → Frame → Answer
    next k f = answer_from n (at + (k + size f)) bytes

    which : More → (right : Bool) (k : ℕ) (f : Frame) → read (drop at bytes) ≡ framed right k f → (b : Bool)
        → cond b (next k f) (answered (said_by right f) (at + (k + size f))) ≡ answered r end → Found bytes r end
    which more right k f q true e = more (at + (k + size f)) e
    which more right k f q false e =
        record { from = at; skip = k; frame = f; right = right; reads = q; says = cc; ends = cc }

    go : More → (x : Reading) → read (drop at bytes) ≡ x
        → on_reading x lost lost (λ k f. unless_echo f (next k f)
        (answered (device status-CrcMismatch) (at + (k + size f))))
        (λ k f. unless_echo f (next k f) (answered (reply_of f) (at + (k + size f)))) ≡ answered r end
        → Found bytes r end
    go more short q e = absurd (let z : ◌≡◌ {A = ℕ} 0 1 = cc in omega arith)
    go more too_long q e = absurd (let z : ◌≡◌ {A = ℕ} 0 1 = cc in omega arith)
    go more (bad_check k f) q e = which more false k f q (eqb f.status status-Request) e
    go more (whole k f) q e = which more true k f q (eqb f.status status-Request) e

pub answer-found : (bytes : List ℕ) (r : Reply) (end : ℕ) → answer bytes ≡ answered r end → Found bytes r end
unfolding answer
answer-found bytes r end e = found_from (length bytes) 0 bytes r end e

pub answer-end : (bytes : List ℕ) (r : Reply) (end : ℕ) → answer bytes ≡ answered r end → end ≤ length bytes
answer-end bytes r end e =
    let f : Found bytes r end = answer-found bytes r end e in
    let k : Read (drop f.from bytes) f.skip f.frame f.right = read_known _ _ _ _ f.reads in
    omega (arith, k.room, f.ends, length-drop f.from bytes)

ok-payload : (right : Bool) (f : Frame) (payload : List ℕ) → said_by right f ≡ ok payload → f.payload ≡ payload
ok-payload true f payload e = go (eqb f.status status-Ok) e
  where
    go : (b : Bool) → cond b (ok f.payload) (device f.status) ≡ ok payload → f.payload ≡ payload
    go true e = cc
    go false e = absurd (let z : ◌≡◌ {A = ℕ} 0 1 = cc in omega arith)
ok-payload false f payload e = absurd (let z : ◌≡◌ {A = ℕ} 0 1 = cc in omega arith)

-- The payload of an answer of status Ok ends two bytes before the answer does.
pub answer-payload : (bytes payload : List ℕ) (end : ℕ) → answer bytes ≡ answered (ok payload) end
    → (end - (2 + length payload) + length payload ≤ length bytes)
    × (take (length payload) (drop (end - (2 + length payload)) bytes) ≡ payload)
answer-payload bytes payload end e = (
  omega (arith, start, f.ends, ap length same, answer-end bytes (ok payload) end e),
  ap (λ (x : ℕ). take (length payload) (drop x bytes)) start ∙ there,
)
  where
    f : Found bytes (ok payload) end
    f = answer-found bytes (ok payload) end e

    k : Read (drop f.from bytes) f.skip f.frame f.right
    k = read_known _ _ _ _ f.reads

    same : f.frame.payload ≡ payload
    same = ok-payload f.right f.frame payload f.says

    start : end - (2 + length payload) ≡ f.from + (f.skip + 10)
    start = omega (arith, f.ends, ap length same)

    there : take (length payload) (drop (f.from + (f.skip + 10)) bytes) ≡ payload
    there =
        ap (λ (x : List ℕ). take (length payload) x)
        (sym (drop-drop (f.skip + 10) f.from bytes) ∙ sym (drop-drop 10 f.skip (drop f.from bytes)))
        ∙ ap (λ (x : List ℕ). take (length x) (drop 10 (drop f.skip (drop f.from bytes)))) (sym same)
        ∙ sym (ap (λ (x : Frame). x.payload) k.frame)
        ∙ same
