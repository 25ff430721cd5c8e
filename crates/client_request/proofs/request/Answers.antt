-- Answers to the goals of `client_request::request`.
use Rattle.client_request.proofs.Ways.{request-is}
use Rattle.std.proofs.Common.{rules}
use Rattle.client_request.proofs.request.Goals as goal

pub returns : goal.returns
returns c = search (request-is, rules)
