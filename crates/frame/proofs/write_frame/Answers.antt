-- Answers to the goals of `frame::write_frame`.
use Rattle.frame.proofs.Writes.{long-bytes, long-padding, was-written, was-short}
use borrow.Author.Rules.{rules}
use Rattle.frame.proofs.write_frame.Goals as goal

pub returns-then-m-gt-MAX_PAYLOAD : goal.returns-then-m-gt-MAX_PAYLOAD
returns-then-m-gt-MAX_PAYLOAD c = search (long-bytes, rules)

pub returns-then-m-pad : goal.returns-then-m-pad
returns-then-m-pad c = search (long-padding, rules)

pub returns-in_err-place_frame : goal.returns-in_err-place_frame
returns-in_err-place_frame c = let was = c.in_err-place_frame.ensures in search (was-short, rules)

pub returns : goal.returns
returns c = let was = c.in_ok-place_frame.ensures in search (was-written, rules)
