-- The code's walk driven over a wire: the wire gives what is heard for each Select, and the walk steps on that.
use Rattle.std.specs.Prelude.{ℕ, zero, suc, []}
use Rattle.paper.specs.Hearing as Paper
use Rattle.paper.specs.Hearing.{Prefix}
use Rattle.paper.specs.Walk.{Wire}
use Rattle.ids.specs.Ids.{no_id}
use Rattle.hearing.specs.Heard.{id_in, kind_of, shown_heard}
use Rattle.walk.specs.declared.Walk.{Walk}
use Rattle.walk.specs.declared.Phase.{Phase}
use Rattle.walk.specs.declared.Phase.TheVariants.{Asked}
use Rattle.walk_step.specs.Steps.{Goes, On, Done, Stopped, Next}
use Rattle.walk.specs.declared.Ask.{Ask}
use Rattle.select.specs.Selects.{asked}
use Rattle.walk.specs.Moves.{asks}
use Rattle.walk_step.specs.Steps.{step, going}
use Rattle.refinement.specs.CodeWalk.{standing_at}

-- The bits that a request asks for: the first n of the bits of its 16 bytes and zeros after them.
abbrev pub bits_asked : Ask → Prefix
bits_asked a = asked a.bits a.count

abbrev pub told : Walk → Phase → Paper.Heard → Next
told w p h = step w p (kind_of (shown_heard h)) (id_in (shown_heard h))

abbrev pub on_goes {ℓ} : {A : Type ℓ} → Goes → (Phase → A) → A → A
on_goes (On p) on ended = on p
on_goes Done on ended = ended
on_goes (Stopped c) on ended = ended

-- At most m Selects after k: what follows then, and the number of Selects by then.
unfoldable pub driven : ℕ → Wire → ℕ → Next → Next × ℕ
driven zero wire k n = (n, k)
driven (suc m) wire k n = on_goes n.goes
    (λ p. driven m wire (suc k) (told n.walk p (wire k (bits_asked (asks n.walk p))))) (n, k)

-- A walk under any prefix, at its first Select.
unfoldable pub begun : Prefix → Next
begun pre = going Asked (standing_at pre [] [] no_id)
