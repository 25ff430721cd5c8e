-- Answers to the goals of `frame::put_tag`.
use lib.Seq.{sets-eq}
use lib.ListN.{length-set}
use native.Mathlib.Omega.{arith}
use Rattle.frame.specs.Writing.{tag_of}
use Rattle.frame.proofs.put_tag.Goals as goal

pub bounds-buf-1 : goal.bounds-buf-1
bounds-buf-1 c = simp length-set (omega arith)

pub bounds-buf-2 : goal.bounds-buf-2
bounds-buf-2 c = simp length-set (omega arith)

pub returns : goal.returns
returns c = sets-eq (tag_of c.args.head) c.args.buf.now 0 c.requires
