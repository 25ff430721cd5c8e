-- The contract of each exported call is exactly the equation that is promised for it, with its arguments in their
-- places.
use mathlib.Core.List.{[]}
use mathlib.Core.Option.{none, some}
use mathlib.Core.Path.{◌≡◌, refl, ap}
use seplogic.Ra.Ura.{Ura}
use base.Logic.{both⊢}
use contract.Monad.{fact, fact_mono}
use Rattle.fahireky.specs.contracts.fahireky_start_select as StartSelect
use Rattle.fahireky.specs.contracts.fahireky_start_deselect as StartDeselect
use Rattle.fahireky.specs.contracts.fahireky_start_attach as StartAttach
use Rattle.fahireky.specs.contracts.fahireky_start_attach_to as StartAttachTo
use Rattle.fahireky.specs.contracts.fahireky_start_discover as StartDiscover
use Rattle.fahireky.specs.contracts.fahireky_start_info as StartInfo
use Rattle.fahireky.specs.contracts.fahireky_start_erase as StartErase
use Rattle.fahireky.specs.contracts.fahireky_start_flash as StartFlash
use Rattle.fahireky.specs.contracts.fahireky_start_reset as StartReset
use Rattle.fahireky.specs.contracts.fahireky_start_set_baud as StartSetBaud
use Rattle.fahireky.specs.contracts.fahireky_request as Request
use Rattle.fahireky.specs.contracts.fahireky_record as Record
use Rattle.fahireky.specs.contracts.fahireky_link_failed as LinkFailed
use Rattle.fahireky.specs.contracts.fahireky_attached as Attached
use Rattle.fahireky.specs.contracts.fahireky_hear as Hear
use Rattle.fahireky.specs.contracts.fahireky_uid_hex as UidHex
use Rattle.fahireky.specs.contracts.fahireky_parse_uid as ParseUid
use Rattle.fahireky.specs.contracts.fahireky_rest as Rest
use Rattle.fahireky.specs.contracts.fahireky_image_compat as ImageCompat
use Rattle.fahireky.specs.contracts.fahireky_crc16 as Crc16
use Rattle.fahireky.specs.contracts.fahireky_state_size as StateSize
use Rattle.fahireky.specs.contracts.fahireky_answer_size as AnswerSize
use Rattle.host_buffers.specs.Hosts.{Exported, Requested, handed}
use Rattle.host_buffers.specs.Exports as Export
use Rattle.refinement.specs.Calls.{start_select, start_deselect, start_attach, start_discover, start_info, start_erase}
use Rattle.refinement.specs.Calls.{start_flash, start_reset, start_set_baud, request, record', link_failed}
use Rattle.host_theory.specs.ExportedCalls.{bufferless, exported}
use Rattle.acceptance.proofs.Contracts.{Is, first, second, third, fourth, fifth}

-- Adding an empty request buffer to both sides changes no equation.
promised : {M : Type 1} (𝓤 : Ura M) (x y : Exported) → fact 𝓤 (x ≡ y) ≡ fact 𝓤 (bufferless x ≡ bufferless y)
unfolding handed
promised 𝓤 x y =
    both⊢ 𝓤 (fact_mono 𝓤 (x ≡ y) (bufferless x ≡ bufferless y) (λ e. ap bufferless e))
    (fact_mono 𝓤 (bufferless x ≡ bufferless y) (x ≡ y)
    (λ e. ap (λ (z : Requested). record { code = z.code; state = z.state; answer = z.answer }) e))

-- The client's calls: each contract is that of `exported`.
pub start-select-tied : Is (record { ended = StartSelect.ended; clauses = StartSelect.clauses })
    (λ κs a r w. record { code = r; state = first w; buffer = []; answer = fourth w }
    ≡ exported (first a).now (fourth a).now (start_select (second a).now (third a)))
unfolding exported handed
start-select-tied M 𝓤 𝓛 mem run κs a g r w = promised 𝓤 _ _

pub start-deselect-tied : Is (record { ended = StartDeselect.ended; clauses = StartDeselect.clauses })
    (λ κs a r w. record { code = r; state = first w; buffer = []; answer = second w }
    ≡ exported (first a).now (second a).now start_deselect)
unfolding exported handed
start-deselect-tied M 𝓤 𝓛 mem run κs a g r w = promised 𝓤 _ _

pub start-attach-tied : Is (record { ended = StartAttach.ended; clauses = StartAttach.clauses })
    (λ κs a r w. record { code = r; state = first w; buffer = []; answer = second w }
    ≡ exported (first a).now (second a).now (start_attach none))
unfolding exported handed
start-attach-tied M 𝓤 𝓛 mem run κs a g r w = promised 𝓤 _ _

pub start-attach-to-tied : Is (record { ended = StartAttachTo.ended; clauses = StartAttachTo.clauses })
    (λ κs a r w. record { code = r; state = first w; buffer = []; answer = third w }
    ≡ exported (first a).now (third a).now (start_attach (some (second a).now)))
unfolding exported handed
start-attach-to-tied M 𝓤 𝓛 mem run κs a g r w = promised 𝓤 _ _

pub start-discover-tied : Is (record { ended = StartDiscover.ended; clauses = StartDiscover.clauses })
    (λ κs a r w. record { code = r; state = first w; buffer = []; answer = third w }
    ≡ exported (first a).now (third a).now (start_discover (second a).now))
unfolding exported handed
start-discover-tied M 𝓤 𝓛 mem run κs a g r w = promised 𝓤 _ _

pub start-info-tied : Is (record { ended = StartInfo.ended; clauses = StartInfo.clauses })
    (λ κs a r w. record { code = r; state = first w; buffer = []; answer = second w }
    ≡ exported (first a).now (second a).now start_info)
unfolding exported handed
start-info-tied M 𝓤 𝓛 mem run κs a g r w = promised 𝓤 _ _

pub start-erase-tied : Is (record { ended = StartErase.ended; clauses = StartErase.clauses })
    (λ κs a r w. record { code = r; state = first w; buffer = []; answer = second w }
    ≡ exported (first a).now (second a).now start_erase)
unfolding exported handed
start-erase-tied M 𝓤 𝓛 mem run κs a g r w = promised 𝓤 _ _

pub start-flash-tied : Is (record { ended = StartFlash.ended; clauses = StartFlash.clauses })
    (λ κs a r w. record { code = r; state = first w; buffer = []; answer = third w }
    ≡ exported (first a).now (third a).now (start_flash (second a).now))
unfolding exported handed
start-flash-tied M 𝓤 𝓛 mem run κs a g r w = promised 𝓤 _ _

pub start-reset-tied : Is (record { ended = StartReset.ended; clauses = StartReset.clauses })
    (λ κs a r w. record { code = r; state = first w; buffer = []; answer = fourth w }
    ≡ exported (first a).now (fourth a).now (start_reset (second a) (third a)))
unfolding exported handed
start-reset-tied M 𝓤 𝓛 mem run κs a g r w = promised 𝓤 _ _

pub start-set-baud-tied : Is (record { ended = StartSetBaud.ended; clauses = StartSetBaud.clauses })
    (λ κs a r w. record { code = r; state = first w; buffer = []; answer = fifth w }
    ≡ exported (first a).now (fifth a).now (start_set_baud (second a) (third a) (fourth a)))
unfolding exported handed
start-set-baud-tied M 𝓤 𝓛 mem run κs a g r w = promised 𝓤 _ _

pub request-tied : Is (record { ended = Request.ended; clauses = Request.clauses })
    (λ κs a r w. record { code = r; state = first w; buffer = third w; answer = fourth w }
    ≡ exported (first a).now (fourth a).now (request (second a).now (third a).now))
unfolding exported handed
request-tied M 𝓤 𝓛 mem run κs a g r w = refl

pub record-tied : Is (record { ended = Record.ended; clauses = Record.clauses })
    (λ κs a r w. record { code = r; state = first w; buffer = []; answer = fourth w }
    ≡ exported (first a).now (fourth a).now (record' (second a).now (third a).now))
unfolding exported handed
record-tied M 𝓤 𝓛 mem run κs a g r w = promised 𝓤 _ _

pub link-failed-tied : Is (record { ended = LinkFailed.ended; clauses = LinkFailed.clauses })
    (λ κs a r w. record { code = r; state = first w; buffer = []; answer = second w }
    ≡ exported (first a).now (second a).now link_failed)
unfolding exported handed
link-failed-tied M 𝓤 𝓛 mem run κs a g r w = promised 𝓤 _ _

-- The other calls: each contract is its definition in `Exports`.
pub attached-tied : Is (record { ended = Attached.ended; clauses = Attached.clauses })
    (λ κs a r w. record { code = r; bytes = second w } ≡ Export.attached (first a).now (second a).now)
attached-tied M 𝓤 𝓛 mem run κs a g r w = refl

pub hear-tied : Is (record { ended = Hear.ended; clauses = Hear.clauses })
    (λ κs a r w. record { code = r; bytes = second w } ≡ Export.hear (first a).now (second a).now)
hear-tied M 𝓤 𝓛 mem run κs a g r w = refl

pub uid-hex-tied : Is (record { ended = UidHex.ended; clauses = UidHex.clauses })
    (λ κs a r w. record { code = r; bytes = second w } ≡ Export.uid_hex (first a).now (second a).now)
uid-hex-tied M 𝓤 𝓛 mem run κs a g r w = refl

pub parse-uid-tied : Is (record { ended = ParseUid.ended; clauses = ParseUid.clauses })
    (λ κs a r w. record { code = r; bytes = second w } ≡ Export.parse_uid (first a).now (second a).now)
parse-uid-tied M 𝓤 𝓛 mem run κs a g r w = refl

pub rest-tied : Is (record { ended = Rest.ended; clauses = Rest.clauses })
    (λ κs a r w. r ≡ Export.rest (first a).now (second a))
rest-tied M 𝓤 𝓛 mem run κs a g r w = refl

pub image-compat-tied : Is (record { ended = ImageCompat.ended; clauses = ImageCompat.clauses })
    (λ κs a r w. r ≡ Export.image_compat (first a).now)
image-compat-tied M 𝓤 𝓛 mem run κs a g r w = refl

pub crc16-tied : Is (record { ended = Crc16.ended; clauses = Crc16.clauses })
    (λ κs a r w. r ≡ Export.crc16 (first a) (second a).now)
crc16-tied M 𝓤 𝓛 mem run κs a g r w = refl

pub state-size-tied : Is (record { ended = StateSize.ended; clauses = StateSize.clauses })
    (λ κs a r w. r ≡ Export.state_size)
state-size-tied M 𝓤 𝓛 mem run κs a g r w = refl

pub answer-size-tied : Is (record { ended = AnswerSize.ended; clauses = AnswerSize.clauses })
    (λ κs a r w. r ≡ Export.answer_size)
answer-size-tied M 𝓤 𝓛 mem run κs a g r w = refl
