-- The exported calls answer as document 01 says, in the buffers that a host lends: from a state of zero bytes, over any
-- calls in any order, link failures and calls out of turn included.
use Prim.Native.Nat.{ℕ, ◌%◌, ◌≤◌}
use mathlib.Core.Bool.{true}
use mathlib.Core.List.{List, ◌++◌, map}
use mathlib.Core.Path.{◌≡◌, ◌∙◌}
use lib.ListN.{length, drop, replicate}
use Rattle.paper.specs.Client as Paper
use Rattle.paper.specs.Count.{All}
use Rattle.client.specs.Clients.{fresh}
use Rattle.client.specs.Numbers.{changes_no_state}
use Rattle.refinement.specs.Calls.{Call, paper_answers}
use Rattle.host_state.specs.State as State
use Rattle.host_answer.specs.AnswerBytes as AnswerBytes
use Rattle.host_buffers.specs.Exports as Export
use Rattle.host_theory.specs.ExportedCalls.{buffer_of, exported, Lending, Fair, exports, read_from, Coded, behind}
use Rattle.host_theory.proofs.CallsChain as Chain
use Rattle.host_theory.proofs.RefusedBytes as Refused
use Rattle.acceptance.proofs.Calls.{agree}

module _ (more : List ℕ) (xs : List Lending) (ks : All Fair xs) where
  -- What a host reads in its buffers after each call: the answer, the place where the unread rest begins, every byte of
  -- the request buffer, the seed and the attached id.
  pub exports-agree : map read_from (exports (replicate State.size 0 ++ more) xs)
      ≡ paper_answers Paper.fresh (map (λ x. x.call) xs)
  exports-agree = Chain.chain-reads _ fresh more (Chain.zero-holds more) xs ks ∙ agree _ (Chain.fair-good xs ks)

  -- Each code is made of the number and the length in its answer.
  pub exports-coded : All Coded (exports (replicate State.size 0 ++ more) xs)
  exports-coded = Chain.chain-codes _ fresh more (Chain.zero-holds more) xs ks

  -- Every byte after the state and after the answer is unchanged.
  pub exports-behind : map behind (exports (replicate State.size 0 ++ more) xs)
      ≡ map (λ x. (more, drop AnswerBytes.size x.answer)) xs
  exports-behind = Chain.chain-behind _ fresh more (Chain.zero-holds more) xs ks

-- Refusals that change no state. This holds for any buffers and any state, also for a state that no call could leave.
module _ (s a : List ℕ) (call : Call) where
  -- "13, 16, 20, 21, 22 change no state": no byte of the state or of the request buffer changes.
  pub refused-untouched : changes_no_state ((exported s a call).code % 256) ≡ true
      → ((exported s a call).state ≡ s) × ((exported s a call).buffer ≡ buffer_of call)
  refused-untouched = Refused.untouched s a call

  -- If the state or the answer's buffer is too short, no byte of the answer's buffer changes either.
  pub short-untouched : (State.size ≤ length s → AnswerBytes.size ≤ length a → ⊥)
      → ((exported s a call).state ≡ s) × (((exported s a call).buffer ≡ buffer_of call) × ((exported s a call).answer ≡ a))
  short-untouched = Refused.unwritten s a call

-- Id to text refused with 13 or 16, text to id refused with 22 or 16: no byte of the output buffer changes.
pub text-untouched : (id text : List ℕ) → ((Export.uid_hex id text).code % 256 ≡ 0 → ⊥)
    → (Export.uid_hex id text).bytes ≡ text
text-untouched = Refused.text-untouched

pub id-untouched : (text id : List ℕ) → ((Export.parse_uid text id).code % 256 ≡ 0 → ⊥)
    → (Export.parse_uid text id).bytes ≡ id
id-untouched = Refused.id-untouched
