-- Answers to the goals of `ids::path::begins`.
use native.Mathlib.Omega.{arith}
use lib.ListN.{length}
use mathlib.Core.Path.{refl}
use borrow.Author.Rules.{rules}
use borrow.Author.Tests.{tests}
use Rattle.std.proofs.lemmas.Iterator.{YieldsList-from_range}
use Rattle.std.proofs.lemmas.Iterator.Search.{all_from_yields_List}
use Rattle.ids.specs.Ids.{id_of}
use Rattle.ids.proofs.path.Ways.{has_bit, begins_is}
use Rattle.ids.proofs.path.begins.Goals as goal

pub returns : goal.returns
returns c = begins_is c.args.path c.args.id.bytes c.args.bits c.args.id.len (search rules) c.requires c.all.result
    (all_from_yields_List (has_bit c.args.path c.args.id.bytes (length (id_of c.args.id))) _ _ c.all.result
    c.all.ensures.ran (YieldsList-from_range 0 c.args.bits c.args.bits refl (omega arith)) (λ x b q k. search (rules, tests)))
