-- The client answers as document 01 says over any calls in any order, link failures and calls out of turn included.
use mathlib.Core.List.{List}
use mathlib.Core.Path.{◌≡◌}
use Rattle.paper.specs.Client as Paper
use Rattle.paper.specs.Count.{All}
use Rattle.client.specs.declared.Turn.TheVariants.{Idle}
use Rattle.client.specs.Clients.{fresh, attached, known}
use Rattle.refinement.specs.Calls.{Call, Good, paper_answers, code_answers, reached}
use Rattle.refinement.proofs.client.CallsAgree as CallsAgree

-- After each call these are document 01's: the answer, the place where the unread rest begins, every byte of the
-- request buffer, the seed and the attached id. `Good` asks only that prefixes and records are bytes.
pub agree : (calls : List Call) → All Good calls → code_answers fresh calls ≡ paper_answers Paper.fresh calls
agree = CallsAgree.calls-agree

-- Two clients with no operation running are equal if their seeds and attached ids are, whatever calls came before.
pub idle-canonical : (xs ys : List Call) → All Good xs → All Good ys → (reached fresh xs).front.turn ≡ Idle
    → (reached fresh ys).front.turn ≡ Idle
    → (reached fresh xs).front.seed ≡ (reached fresh ys).front.seed
    → known (attached (reached fresh xs)) ≡ known (attached (reached fresh ys))
    → reached fresh xs ≡ reached fresh ys
idle-canonical = CallsAgree.idle-canonical
