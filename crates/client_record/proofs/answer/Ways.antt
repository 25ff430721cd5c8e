-- A lemma for each way through the handling of a reply, with the facts known there as its premises.
use Prim.Native.Nat.{ℕ, ◌+◌, ◌-◌, ◌^◌, ◌<◌, ◌≤◌}
use mathlib.Core.List.{List}
use mathlib.Core.Path.{◌≡◌, refl, sym, ◌∙◌, ap}
use native.Mathlib.Omega.{arith}
use lib.ListN.{length, take, drop}
use mir.Syntax.{w64}
use mir.Val.{Fits}
use Rattle.std.specs.Prelude.{Result, Ok, Err}
use Rattle.paper.specs.Answers.{Answer, lost, answered, ok, device, answer}
use Rattle.paper.proofs.Answered.{answer-payload}
use Rattle.hearing.specs.declared.Reply.{Reply}
use Rattle.hearing.specs.declared.NoReply.{NoReply}
use Rattle.hearing.specs.declared.NoReply.TheVariants.{Lost, Device}
use Rattle.hearing.specs.Heard.{shown_answer}
use Rattle.walk.specs.declared.Walk.{Walk}
use Rattle.client.specs.declared.Front.{Front}
use Rattle.client.specs.declared.Job.{Job}
use Rattle.client.specs.declared.Refusal.TheVariants.{Io}
use Rattle.client.specs.declared.Says.TheVariants as Says
use Rattle.client.specs.declared.Verdict.{Verdict}
use Rattle.client.specs.Clients.{stops}
use Rattle.client.specs.Verdicts.{client_of, told_of}
use Rattle.client_job.specs.declared.Next.{Next}
use Rattle.client_job.specs.Job.{accepted, declined}
use Rattle.client_record.specs.Answer.{goes, tells}

-- Document 01's answer, from what the code has of it.
was-lost : (x : Answer) → shown_answer x ≡ Err Lost → x ≡ lost
was-lost lost e = refl
was-lost (answered (ok p) m) e = absurd (let z : ◌≡◌ {A = ℕ} 0 1 = cc in omega arith)
was-lost (answered (device s) m) e = absurd (let z : ◌≡◌ {A = ℕ} 0 1 = cc in omega arith)

was-device : (x : Answer) (s end : ℕ) → shown_answer x ≡ Err (Device s end) → x ≡ answered (device s) end
was-device lost s end e = absurd (let z : ◌≡◌ {A = ℕ} 0 1 = cc in omega arith)
was-device (answered (ok p) m) s end e = absurd (let z : ◌≡◌ {A = ℕ} 0 1 = cc in omega arith)
was-device (answered (device k) m) s end e = cc

-- Document 01's answer of status Ok, with the places in the record that the code has.
record Paid (x : Answer) (r : Reply) : Type 0 where
  payload : List ℕ
  came : x ≡ answered (ok payload) r.end
  starts : r.payload ≡ r.end - (2 + length payload)
  long : r.len ≡ length payload

paid : (x : Answer) (r : Reply) → shown_answer x ≡ Ok r → Paid x r
paid lost r e = absurd (let z : ◌≡◌ {A = ℕ} 0 1 = cc in omega arith)
paid (answered (ok p) m) r e = record { payload = p; came = cc; starts = cc; long = cc }
paid (answered (device s) m) r e = absurd (let z : ◌≡◌ {A = ℕ} 0 1 = cc in omega arith)

module _ (bytes : List ℕ) (a : Result Reply NoReply) (ea : a ≡ shown_answer (answer bytes)) (y : Reply)
    (h : a ≡ Ok y) where
  known : Paid (answer bytes) y
  known = paid (answer bytes) y (sym ea ∙ h)

  pub payload-within : y.payload + y.len ≤ length bytes
  payload-within = omega (arith, known.starts, known.long, answer-payload bytes known.payload y.end known.came)

  pub payload-fits : length bytes < 2 ^ 64 → Fits w64 (y.payload + y.len)
  payload-fits l = omega (arith, payload-within)

  payload-is : take (y.payload + y.len - y.payload) (drop y.payload bytes) ≡ known.payload
  payload-is =
      let all : y.payload + y.len - y.payload ≡ length known.payload = omega (arith, known.long) in
      ap (λ (k : ℕ). take k (drop y.payload bytes)) all
      ∙ ap (λ (k : ℕ). take (length known.payload) (drop k bytes)) known.starts
      ∙ (answer-payload bytes known.payload y.end known.came).1

module _ (f : Front) (job : Job) (image bytes : List ℕ) (a : Result Reply NoReply)
    (ea : a ≡ shown_answer (answer bytes)) (r : Verdict) where
  pub tells-lost : a ≡ Err Lost → ((w : Walk) → told_of r w ≡ stops (client_of f w) (Says.Refused Io) (length bytes))
      → (w : Walk) → told_of r w ≡ tells (client_of f w) job image bytes
  unfolding tells
  tells-lost h q w = rw (was-lost (answer bytes) (sym ea ∙ h)) (q w)

  pub tells-device : (s end : ℕ) (n : Next) → a ≡ Err (Device s end) → n ≡ declined job s
      → ((w : Walk) → told_of r w ≡ goes (client_of f w) n end)
      → (w : Walk) → told_of r w ≡ tells (client_of f w) job image bytes
  unfolding tells
  tells-device s end n h en q w = rw (was-device (answer bytes) s end (sym ea ∙ h)) (rw en at q w)

  pub tells-ok : (y : Reply) (n : Next) → a ≡ Ok y
      → n ≡ accepted job (take (y.payload + y.len - y.payload) (drop y.payload bytes)) image
      → ((w : Walk) → told_of r w ≡ goes (client_of f w) n y.end) → (w : Walk)
      → told_of r w ≡ tells (client_of f w) job image bytes
  unfolding tells
  tells-ok y n h en q w =
      rw (known bytes a ea y h).came
      (q w ∙ ap (λ (m : Next). goes (client_of f w) m y.end)
      (en ∙ ap (λ (p : List ℕ). accepted job p image) (payload-is bytes a ea y h)))
