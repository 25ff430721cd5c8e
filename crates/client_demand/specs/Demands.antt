-- Document 01's request for each job.
use Rattle.std.specs.Prelude.{ℕ, cond}
use Rattle.std.proofs.Math.Option.{Option, none, some}
use Rattle.paper.specs.Flash.{info_request, erase_request, write_request, verify_request, reset_flags, reset_request}
use Rattle.paper.specs.Talk.{Demand}
use Rattle.image.specs.Images.{paper_info}
use Rattle.frame.specs.declared.Head.{Head}
use Rattle.client.specs.declared.Reset.{Reset}
use Rattle.client.specs.declared.Job.{Job}
use Rattle.client.specs.Clients.{on_job}

abbrev pub head_for : ℕ → ℕ → ℕ → Head
head_for command flags address = record { command = command; status = 0; flags = flags; address = address }

-- The baud that a reset stores, if one is given.
abbrev pub baud_of : Reset → Option ℕ
baud_of reset = cond reset.given (some reset.baud) none

unfoldable pub flags_of : Reset → ℕ
flags_of reset = reset_flags reset.bootloader (baud_of reset)

abbrev pub reset_of : Reset → Demand
reset_of reset = reset_request reset.bootloader (baud_of reset)

-- The request of a job, when an image of n bytes is lent.
unfoldable pub demand_of : Job → ℕ → Demand
demand_of j n =
    on_job j
    (λ why. info_request)
    (λ why info address. erase_request (paper_info info) address)
    (λ m info offset retries. write_request (paper_info info) n offset)
    (λ m info. verify_request n)
    reset_of
