-- Examples: each theorem with a premise, applied to values that meet it.
use Prim.Native.Nat.{ℕ, ◌+◌, ◌≤◌}
use mathlib.Core.List.{List, [], ◌∷◌, ◌++◌}
use mathlib.Core.Path.{◌≡◌}
use native.Mathlib.Omega.{arith}
use lib.ListN.{length, replicate, length-replicate}
use Rattle.client.specs.Clients.{attached}
use Rattle.client_start.specs.Start.{start_info}
use Rattle.client_request.specs.Request.{request}
use Rattle.client_record.specs.Record.{record'}
use Rattle.host_state.specs.State.{saved}
use Rattle.host_state.proofs.Instances.{seeking, seeking-fits}
use Rattle.host_answer.specs.AnswerBytes as AnswerBytes
use Rattle.host_buffers.specs.Hosts.{told_by, leaves, tells, starts, asks, requests, shows_attached, views}
use Rattle.fahireky.proofs.Laws.{tells-saved, starts-saved, requests-saved, views-saved}

-- A saved client whose Select for an attach is out, with a byte after it; an answer's buffer one byte longer than
-- needed; the reply of C1 07.
abbrev state : List ℕ
state = saved seeking ++ (0x99 ∷ [])

abbrev answer : List ℕ
answer = replicate (AnswerBytes.size + 1) 0xEE

room : AnswerBytes.size ≤ length answer
room = omega (arith, length-replicate {A = ℕ} (AnswerBytes.size + 1) 0xEE)

abbrev replied : List ℕ
replied = 0xA5 ∷ 0x05 ∷ 0x01 ∷ 0x00 ∷ 0x00 ∷ 0x00 ∷ 0x00 ∷ 0x00 ∷ 0x02 ∷ 0x00 ∷ 0xC1 ∷ 0x07 ∷ 0xAE ∷ 0x8A ∷ []

pub tells-saved-met : tells (λ c. record' c [] replied) state answer ≡ leaves (record' seeking [] replied) state answer
tells-saved-met = tells-saved seeking seeking-fits (0x99 ∷ []) answer room (λ c. record' c [] replied)

pub starts-saved-met : starts start_info state answer ≡ leaves (told_by (start_info seeking)) state answer
starts-saved-met = starts-saved seeking seeking-fits (0x99 ∷ []) answer room start_info

pub requests-saved-met :
    requests [] state (replicate 31 0) answer
    ≡ asks (request seeking [] (replicate 31 0)) state answer
requests-saved-met = requests-saved seeking seeking-fits (0x99 ∷ []) answer room [] (replicate 31 0)

pub views-saved-met : views state answer ≡ shows_attached (attached seeking) answer
views-saved-met = views-saved seeking seeking-fits (0x99 ∷ []) answer room
