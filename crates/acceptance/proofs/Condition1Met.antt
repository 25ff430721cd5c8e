-- What meets the premises of condition 1: each of its theorems with a premise, applied to values that meet it.
use Prim.Native.Nat.{ℕ}
use mathlib.Core.Bool.{true, false}
use mathlib.Core.List.{List, [], ◌∷◌, ◌++◌}
use mathlib.Core.Option.{none}
use mathlib.Core.Path.{◌≡◌, refl}
use lib.ListN.{replicate}
use Rattle.paper.specs.Answers.{answer_from, answer, chunk, padding}
use Rattle.paper.specs.Client.{demand_frame, payload_of}
use Rattle.paper.specs.Flash.{write_request, reset_request}
use Rattle.paper.specs.Frame.{le, number, frame_head, frame_body, frame_bytes, skipped, read_sized, read_synced, read}
use Rattle.ids.specs.Ids.{no_id, id_from}
use Rattle.walk.specs.Moves.{no_walk}
use Rattle.image.specs.Images.{code_info}
use Rattle.client.specs.declared.Client.{Client}
use Rattle.client.specs.declared.Job.TheVariants.{Informing, Writing}
use Rattle.client.specs.declared.Phase.{Phase}
use Rattle.client.specs.declared.Phase.TheVariants.{Select, Demand, Leave}
use Rattle.client.specs.declared.Purpose.TheVariants.{Load}
use Rattle.client.specs.declared.Refusal.TheVariants.{Io, Device, NoSuchUid, BadPrefix, ShortBuffer, OtherImage}
use Rattle.client.specs.declared.Refusal.TheVariants.{OutOfTurn}
use Rattle.client.specs.declared.Says.TheVariants.{Granted, Closing, Onward, Refused}
use Rattle.client.specs.declared.Search.TheVariants.{Probing}
use Rattle.client.specs.declared.Turn.TheVariants.{Idle, Ready}
use Rattle.client.specs.Clients.{other_for, other_image, begun, idle, turned, running, refuse, refuses, over, stops}
use Rattle.client.specs.Numbers.{number_of}
use Rattle.client_demand.specs.Demands.{demand_of}
use Rattle.client_start.specs.Start.{start_select, start_deselect, start_attach, start_attach_to, start_discover, start_info}
use Rattle.client_start.specs.Start.{start_erase, start_flash, start_reset, start_set_baud}
use Rattle.client_request.specs.Request.{frame_of, handing, handed, withheld, granting, asked_for, request}
use Rattle.client_record.specs.Answer.{tells}
use Rattle.client_record.specs.Record.{answered_to, record', link_failed}
use Rattle.refinement.specs.Refusals.{keeps, parts, leaves, begins}
use Rattle.refinement.specs.ClientServed.{resting}
use Rattle.acceptance.proofs.Condition1 as Condition1
use Rattle.acceptance.proofs.Instances.{device, wrote, image, attached, writing}

-- Clients in two of the turns: with no operation running, and before the second Write of a flash of 5 bytes. `writing`
-- of `Instances` is the third: that Write is out.
abbrev quietly : Client
quietly = resting 255 attached

abbrev second : Phase
second = Demand (Writing 5 (code_info device) 4 0)

abbrev ready : Client
ready = turned quietly (Ready second)

abbrev shorter : List ℕ
shorter = 0x10 ∷ 0x21 ∷ []

abbrev seventeen : List ℕ
seventeen = replicate 17 0xC1

-- Starts while an operation is running; starts refused with 13; starts that begin.
pub starts-late-met :
    (start_select ready (0x05 ∷ []) 3 ≡ refuse ready OutOfTurn)
    × ((start_deselect ready ≡ refuse ready OutOfTurn)
    × ((start_attach ready ≡ refuse ready OutOfTurn)
    × ((start_attach_to ready (0xC1 ∷ []) ≡ refuse ready OutOfTurn)
    × ((start_discover ready seventeen ≡ refuse ready OutOfTurn)
    × ((start_info ready ≡ refuse ready OutOfTurn)
    × ((start_erase ready ≡ refuse ready OutOfTurn)
    × ((start_flash ready image ≡ refuse ready OutOfTurn)
    × ((start_reset ready true true ≡ refuse ready OutOfTurn)
    × (start_set_baud ready 5 true false ≡ refuse ready OutOfTurn)))))))))
unfolding begins running
starts-late-met =
    let s : Condition1.Starts ready = Condition1.starts ready in (
      s.select (0x05 ∷ []) 3,
      (
        s.deselect,
        (
          s.attach,
          (
            s.attach-to (0xC1 ∷ []),
            (
              s.discover seventeen,
              (
                s.info,
                (s.erase, (s.flash image, (s.reset true true, s.set-baud 5 true false))),
              ),
            ),
          ),
        ),
      ),
    )

pub starts-refused-met :
    (start_select quietly (0x05 ∷ []) 9 ≡ refuse quietly BadPrefix)
    × ((start_attach_to quietly seventeen ≡ refuse quietly BadPrefix)
    × (start_discover quietly seventeen ≡ refuse quietly BadPrefix))
unfolding begins running
starts-refused-met =
    let s : Condition1.Starts quietly = Condition1.starts quietly in
    (s.select (0x05 ∷ []) 9, (s.attach-to seventeen, s.discover seventeen))

pub starts-begun-met :
    (start_select quietly (0x05 ∷ []) 8
    ≡ record { says = Onward; client = begun quietly (Ready (Select Probing)) (id_from (0x05 ∷ [])) 8 no_walk })
    × (start_flash quietly image ≡ record
    { says = Onward; client = begun quietly (Ready (Demand (Informing (Load 5)))) no_id 0 no_walk })
unfolding begins running
starts-begun-met = let s : Condition1.Starts quietly = Condition1.starts quietly
    in (s.select (0x05 ∷ []) 8, s.flash image)

pub asked-idle-met : request quietly image (replicate 15 0xEE) ≡ withheld quietly OutOfTurn (replicate 15 0xEE)
asked-idle-met = Condition1.asked-idle quietly image (replicate 15 0xEE) refl

pub asked-waiting-met : request writing image (replicate 15 0xEE) ≡ withheld writing OutOfTurn (replicate 15 0xEE)
asked-waiting-met = Condition1.asked-waiting writing image (replicate 15 0xEE) second refl

-- With an image of another length; with a buffer one byte too short; with a buffer one byte longer than the request.
pub asked-ready-met :
    (request ready shorter (replicate 15 0xEE) ≡ withheld ready OtherImage (replicate 15 0xEE))
    × ((request ready image (replicate 15 0xEE) ≡ withheld ready (ShortBuffer 16) (replicate 15 0xEE))
    × (request ready image (replicate 17 0xEE)
    ≡ record {
      answer = record { says = Granted 16; client = writing };
      bytes = frame_bytes (demand_frame (write_request device 5 4) image) ++ (0xEE ∷ []);
    }))
unfolding other_image other_for granting handing handed frame_of demand_of frame_bytes frame_body frame_head le payload_of
    chunk padding
asked-ready-met = (
  Condition1.asked-ready ready shorter (replicate 15 0xEE) second refl,
  (
    Condition1.asked-ready ready image (replicate 15 0xEE) second refl,
    Condition1.asked-ready ready image (replicate 17 0xEE) second refl,
  ),
)

-- A Reset whose reply is not awaited: the operation has ended once its request is handed out.
abbrev parting : Phase
parting = Leave (record { bootloader = true; given = false; baud = 0 })

pub asked-closing-met :
    request (turned quietly (Ready parting)) [] (replicate 12 0xEE)
    ≡ record {
      answer = record { says = Closing 12; client = quietly };
      bytes = frame_bytes (demand_frame (reset_request true none) []);
    }
unfolding other_image granting handing handed frame_of idle frame_bytes frame_body frame_head le payload_of
asked-closing-met = Condition1.asked-ready (turned quietly (Ready parting)) [] (replicate 12 0xEE) parting refl

pub asked-refused-met :
    ((request ready image (replicate 15 0xEE)).answer.client ≡ ready)
    × (((request ready image (replicate 15 0xEE)).bytes ≡ replicate 15 0xEE) × (keeps (ShortBuffer 16) ≡ true))
unfolding request asked_for granting frame_of demand_of other_image other_for frame_bytes frame_body frame_head le payload_of
    chunk padding
asked-refused-met = Condition1.asked-refused ready image (replicate 15 0xEE) (ShortBuffer 16) refl

pub told-idle-met : record' quietly image wrote ≡ refuses quietly OutOfTurn
told-idle-met = Condition1.told-idle quietly image wrote refl

pub told-ready-met : record' ready image wrote ≡ refuses ready OutOfTurn
told-ready-met = Condition1.told-ready ready image wrote second refl

pub told-waiting-met : (record' writing shorter wrote ≡ refuses writing OtherImage)
    × (record' writing image wrote ≡ answered_to writing second image wrote)
unfolding other_image other_for
told-waiting-met = (
  Condition1.told-waiting writing shorter wrote second refl,
  Condition1.told-waiting writing image
      wrote second refl,
)

-- The Write's answer, cut off before its check: refused with 1. With another image: 20.
abbrev cut_off : List ℕ
cut_off = 0xA5 ∷ 0x02 ∷ 0x01 ∷ 0x00 ∷ 0x00 ∷ 0x00 ∷ 0x00 ∷ 0x00 ∷ 0x00 ∷ 0x00 ∷ []

pub told-due-met : keeps Io ≡ false
unfolding record' answered_to tells other_image other_for over answer answer_from read read_synced read_sized skipped number
told-due-met = Condition1.told-due writing image cut_off second refl refl Io refl

pub told-refused-met : (record' writing image cut_off).client ≡ leaves Io writing
unfolding record' answered_to tells other_image other_for over answer answer_from read read_synced read_sized skipped number
told-refused-met = Condition1.told-refused writing image cut_off Io refl

pub told-kept-met : (record' writing shorter wrote).rest ≡ 0
unfolding record' other_image other_for keeps number_of
told-kept-met = Condition1.told-kept writing shorter wrote OtherImage refl refl

pub told-lost-met : (record' writing image cut_off).rest ≡ 10
unfolding record' answered_to tells other_image other_for over answer answer_from read read_synced read_sized skipped number
told-lost-met = Condition1.told-lost writing image cut_off refl

pub failed-idle-met : link_failed quietly ≡ refuses quietly OutOfTurn
failed-idle-met = Condition1.failed-idle quietly refl

pub failed-ready-met : link_failed ready ≡ refuses ready OutOfTurn
failed-ready-met = Condition1.failed-ready ready second refl

pub failed-waiting-met : link_failed writing ≡ stops writing (Refused Io) 0
failed-waiting-met = Condition1.failed-waiting writing second refl

pub leaves-kept-met : leaves (ShortBuffer 16) ready ≡ ready
unfolding keeps number_of
leaves-kept-met = Condition1.leaves_kept ready (ShortBuffer 16) refl

pub leaves-idle-met : (leaves (Device 7) writing).front.turn ≡ Idle
unfolding keeps number_of
leaves-idle-met = Condition1.leaves-idle writing (Device 7) refl

pub leaves-attached-met : ((leaves NoSuchUid writing).front.attached ≡ true)
    × ((leaves NoSuchUid writing).front.id ≡ id_from (0xC1 ∷ 0x07 ∷ []))
unfolding parts number_of
leaves-attached-met = Condition1.leaves-attached writing NoSuchUid refl
