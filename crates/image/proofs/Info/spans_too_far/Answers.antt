-- Answers to the goals of `image::Info::spans_too_far`.
use Rattle.std.proofs.Common.{rules}
use Rattle.image.proofs.Ways.{spans_is}
use Rattle.image.proofs.Info.spans_too_far.Goals as goal

pub returns-then-e-ne0 : goal.returns-then-e-ne0
returns-then-e-ne0 c = search (rules, spans_is)
