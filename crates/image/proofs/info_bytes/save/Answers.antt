-- Answers to the goals of `image::info_bytes::save`.
use Rattle.image.proofs.info_bytes.Ways.{put-info}
use borrow.Author.Rules.{rules}
use Rattle.image.proofs.info_bytes.save.Goals as goal

pub returns : goal.returns
returns c = search (put-info, rules)
