-- Answers to the goals of `host_turn_bytes::load_flat`.
use Rattle.host_turn_bytes.proofs.Ways.{flat-loaded}
use borrow.Author.Rules.{rules}
use Rattle.host_turn_bytes.proofs.load_flat.Goals as goal

pub returns : goal.returns
returns c = search (flat-loaded, rules)
