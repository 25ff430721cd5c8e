-- Answers to the goals of `host_turn_bytes::load_reset`.
use Rattle.host_turn_bytes.specs.TurnBytes.{loaded_reset}
use borrow.Author.Rules.{rules}
use Rattle.host_turn_bytes.proofs.load_reset.Goals as goal

pub returns : goal.returns
unfolding loaded_reset
returns c = search rules
