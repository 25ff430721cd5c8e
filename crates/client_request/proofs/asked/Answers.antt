-- Answers to the goals of `client_request::asked`.
use Rattle.walk.specs.Moves.{no_walk}
use Rattle.client_request.proofs.Ways.{asked-made}
use Rattle.std.proofs.Common.{rules}
use Rattle.client_request.proofs.asked.Goals as goal

pub returns : goal.returns
returns c = search (asked-made, c.granted.ensures no_walk, rules)
