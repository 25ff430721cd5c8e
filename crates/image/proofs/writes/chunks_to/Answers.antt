-- Answers to the goals of `image::writes::chunks_to`.
use Rattle.std.proofs.Common.{rules}
use Rattle.image.proofs.Ways.{few_before}
use Rattle.image.proofs.writes.chunks_to.Goals as goal

pub overflow_add-result : goal.overflow_add-result
overflow_add-result c = search (few_before, rules)
