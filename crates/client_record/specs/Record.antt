-- Handling a record or a failed link: the answer, and the client after it.
use Rattle.std.specs.Prelude.{ℕ, Bool, true, false, cond, List, length}
use Rattle.paper.specs.Hearing.{hear}
use Rattle.ids.specs.declared.Id.{Id}
use Rattle.ids.specs.Ids.{no_id}
use Rattle.hearing.specs.declared.Heard.{Heard}
use Rattle.hearing.specs.Heard.{on_heard, kind_of, id_in, shown_heard}
use Rattle.walk_table.specs.Rows.{no_table}
use Rattle.walk.specs.declared.Walk.{Walk}
use Rattle.walk.specs.declared.Phase as Walk
use Rattle.hearing.specs.Heard.{is_long}
use Rattle.walk_step.specs.declared.End.{End}
use Rattle.walk_step.specs.Steps as Steps
use Rattle.walk_step.specs.Steps.{Goes, On, Done, Stopped}
use Rattle.client_record.specs.Answer.{tells}
use Rattle.client.specs.declared.Search.{Search}
use Rattle.client.specs.declared.Search.TheVariants.{Backing, Walking}
use Rattle.client.specs.declared.Phase.{Phase}
use Rattle.client.specs.declared.Phase.TheVariants.{Select}
use Rattle.client.specs.declared.Client.{Client}
use Rattle.client.specs.declared.Refusal.TheVariants.{Io, NoDevice, SeveralDevices, NoSuchUid, AmbiguousUid}
use Rattle.client.specs.declared.Refusal.TheVariants.{NotAddressable, DuplicateUid, LongId, TableFull, OtherImage}
use Rattle.client.specs.declared.Refusal.TheVariants.{OutOfTurn}
use Rattle.client.specs.declared.Outcome.TheVariants as Outcome
use Rattle.client.specs.declared.Says.{Says}
use Rattle.client.specs.declared.Says.TheVariants.{Over, Refused}
use Rattle.client.specs.declared.Told.{Told}
use Rattle.client.specs.Clients.{on_turn, on_phase, on_search, other_image, holding, cleared, refuses, over, stops, onward}

-- A value for each case.
abbrev pub on_goes {ℓ} : {A : Type ℓ} → Goes → (Walk.Phase → A) → A → (End → A) → A
on_goes (On p) on done stopped = on p
on_goes Done on done stopped = done
on_goes (Stopped end) on done stopped = stopped end

-- The attach has succeeded: with the pod's id, or without one if the pod has none.
unfoldable pub attaches : Client → Bool → Id → ℕ → Told
attaches c any x at = over (holding c any x) (Over (Outcome.Attached any)) x no_table at

-- "One: attached. Unaddressed: success with no id if no prefix was given, else 11. Nothing: 9 with a prefix, 7 without.
-- Garble: deselect."
unfoldable pub met : Client → Bool → Heard → Id → ℕ → Told
met c given h x at =
    on_heard h
    (cond given (over c (Refused NoSuchUid) c.front.prefix no_table at) (stops c (Refused NoDevice) at))
    (attaches c true x at)
    (stops c (Refused LongId) at)
    (cond given (stops c (Refused NotAddressable) at) (attaches c false no_id at))
    (onward c (Select (Backing given)) c.walk at)

-- "then 10 with a prefix, 8 without."
unfoldable pub backed : Client → Bool → ℕ → Told
backed c given at =
    cond given (over (cleared c) (Refused AmbiguousUid) c.front.prefix no_table at)
    (stops (cleared c) (Refused SeveralDevices) at)

-- What the answer says when a walk ends early.
unfoldable pub stop_of : End → Says
stop_of End.DuplicateUid = Refused DuplicateUid
stop_of End.LongId = Refused LongId
stop_of End.TableFull = Refused TableFull
stop_of End.Unaddressed = Over Outcome.Unaddressed

-- The answer for the walk's next step.
unfoldable pub walked : Client → Goes → Walk → ℕ → Told
walked c g w at =
    on_goes g
    (λ p. onward c (Select (Walking p)) w at)
    (over (cleared c) (Over Outcome.Found) no_id w.found at)
    (λ end. stops c (stop_of end) at)

-- The record of a plain select.
unfoldable pub probed : Client → Heard → Id → ℕ → Told
probed c h x at = cond (is_long h) (stops c (Refused LongId) at) (over c (Over (Outcome.Heard h)) x no_table at)

-- The record of a Select, by what it was for.
unfoldable pub hears : Client → Search → Heard → Id → ℕ → Told
hears c s h x at =
    on_search s
    (probed c h x at)
    (stops (cleared c) (Over Outcome.Quiet) at)
    (λ given. met c given h x at)
    (λ given. backed c given at)
    (λ q. walked c (Steps.step c.walk q h x).goes (Steps.step c.walk q h x).walk at)

-- The record of a phase's request.
unfoldable pub answered_to : Client → Phase → List ℕ → List ℕ → Told
answered_to c p image bytes =
    on_phase p
    (λ s. hears c s (kind_of (shown_heard (hear bytes))) (id_in (shown_heard (hear bytes))) (length bytes))
    (λ j. tells c j image bytes)
    (λ reset. stops c (Over Outcome.Quiet) (length bytes))

-- The whole call. 21 is checked first, then 20, then the record.
unfoldable pub record' : Client → List ℕ → List ℕ → Told
record' c image bytes =
    on_turn c.front.turn (refuses c OutOfTurn) (λ p. refuses c OutOfTurn)
    (λ p. cond (other_image p (length image)) (refuses c OtherImage) (answered_to c p image bytes))

unfoldable pub link_failed : Client → Told
link_failed c = on_turn c.front.turn (refuses c OutOfTurn) (λ p. refuses c OutOfTurn) (λ p. stops c (Refused Io) 0)
