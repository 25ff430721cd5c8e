-- Answers to the goals of `image::info_bytes::save_geometry`.
use Rattle.image.proofs.info_bytes.Ways.{put-geometry}
use borrow.Author.Rules.{rules}
use Rattle.image.proofs.info_bytes.save_geometry.Goals as goal

pub returns : goal.returns
returns c = search (put-geometry, rules)
