-- Handling the record heard after a request with one answer.
use Rattle.std.specs.Prelude.{ℕ, List, length}
use Rattle.paper.specs.Answers.{Answer, lost, answered, ok, device, answer}
use Rattle.client.specs.declared.Client.{Client}
use Rattle.client.specs.declared.Job.{Job}
use Rattle.client.specs.declared.Phase.TheVariants.{Demand}
use Rattle.client.specs.declared.Refusal.TheVariants.{Io}
use Rattle.client.specs.declared.Says.TheVariants as Says
use Rattle.client.specs.declared.Told.{Told}
use Rattle.client.specs.Clients.{stops, onward, making}
use Rattle.client_job.specs.declared.Next.{Next}
use Rattle.client_job.specs.Job.{on_then, accepted, declined}

-- The answer for what is next. The unread rest begins at the place given.
unfoldable pub goes : Client → Next → ℕ → Told
goes c next at =
    on_then next.then
    (λ job. making (onward c (Demand job) c.walk at) next.progress)
    (λ o. making (stops c (Says.Over o) at) next.progress)
    (λ r. stops c (Says.Refused r) at)

-- A value for each case.
abbrev pub on_answer {ℓ} : {A : Type ℓ} → Answer → A → (List ℕ → ℕ → A) → (ℕ → ℕ → A) → A
on_answer lost l o d = l
on_answer (answered (ok payload) end) l o d = o payload end
on_answer (answered (device status) end) l o d = d status end

-- The reply is handled by its job. "Short or too long, of any status: 1."
unfoldable pub tells : Client → Job → List ℕ → List ℕ → Told
tells c job image bytes =
    on_answer (answer bytes)
    (stops c (Says.Refused Io) (length bytes))
    (λ payload end. goes c (accepted job payload image) end)
    (λ status end. goes c (declined job status) end)
