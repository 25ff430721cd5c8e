-- Each exported call has the contract of the call of that name in the crate `fahireky`: the same parameters in the same
-- places, and the same clauses. So what `acceptance` says of those contracts is said of the exports.
use mathlib.Core.Path.{◌≡◌, refl}
use Rattle.acceptance.proofs.Contracts.{Contract}
use Rattle.fahireky.specs.contracts.fahireky_state_size as StateSize
use Rattle.fahireky_c.specs.contracts.fahireky_state_size as StateSizeExported
use Rattle.fahireky.specs.contracts.fahireky_answer_size as AnswerSize
use Rattle.fahireky_c.specs.contracts.fahireky_answer_size as AnswerSizeExported
use Rattle.fahireky.specs.contracts.fahireky_start_select as StartSelect
use Rattle.fahireky_c.specs.contracts.fahireky_start_select as StartSelectExported
use Rattle.fahireky.specs.contracts.fahireky_start_deselect as StartDeselect
use Rattle.fahireky_c.specs.contracts.fahireky_start_deselect as StartDeselectExported
use Rattle.fahireky.specs.contracts.fahireky_start_attach as StartAttach
use Rattle.fahireky_c.specs.contracts.fahireky_start_attach as StartAttachExported
use Rattle.fahireky.specs.contracts.fahireky_start_attach_to as StartAttachTo
use Rattle.fahireky_c.specs.contracts.fahireky_start_attach_to as StartAttachToExported
use Rattle.fahireky.specs.contracts.fahireky_start_discover as StartDiscover
use Rattle.fahireky_c.specs.contracts.fahireky_start_discover as StartDiscoverExported
use Rattle.fahireky.specs.contracts.fahireky_start_info as StartInfo
use Rattle.fahireky_c.specs.contracts.fahireky_start_info as StartInfoExported
use Rattle.fahireky.specs.contracts.fahireky_start_erase as StartErase
use Rattle.fahireky_c.specs.contracts.fahireky_start_erase as StartEraseExported
use Rattle.fahireky.specs.contracts.fahireky_start_flash as StartFlash
use Rattle.fahireky_c.specs.contracts.fahireky_start_flash as StartFlashExported
use Rattle.fahireky.specs.contracts.fahireky_start_reset as StartReset
use Rattle.fahireky_c.specs.contracts.fahireky_start_reset as StartResetExported
use Rattle.fahireky.specs.contracts.fahireky_start_set_baud as StartSetBaud
use Rattle.fahireky_c.specs.contracts.fahireky_start_set_baud as StartSetBaudExported
use Rattle.fahireky.specs.contracts.fahireky_request as Request
use Rattle.fahireky_c.specs.contracts.fahireky_request as RequestExported
use Rattle.fahireky.specs.contracts.fahireky_record as Record
use Rattle.fahireky_c.specs.contracts.fahireky_record as RecordExported
use Rattle.fahireky.specs.contracts.fahireky_link_failed as LinkFailed
use Rattle.fahireky_c.specs.contracts.fahireky_link_failed as LinkFailedExported
use Rattle.fahireky.specs.contracts.fahireky_attached as Attached
use Rattle.fahireky_c.specs.contracts.fahireky_attached as AttachedExported
use Rattle.fahireky.specs.contracts.fahireky_hear as Hear
use Rattle.fahireky_c.specs.contracts.fahireky_hear as HearExported
use Rattle.fahireky.specs.contracts.fahireky_rest as Rest
use Rattle.fahireky_c.specs.contracts.fahireky_rest as RestExported
use Rattle.fahireky.specs.contracts.fahireky_uid_hex as UidHex
use Rattle.fahireky_c.specs.contracts.fahireky_uid_hex as UidHexExported
use Rattle.fahireky.specs.contracts.fahireky_parse_uid as ParseUid
use Rattle.fahireky_c.specs.contracts.fahireky_parse_uid as ParseUidExported
use Rattle.fahireky.specs.contracts.fahireky_image_compat as ImageCompat
use Rattle.fahireky_c.specs.contracts.fahireky_image_compat as ImageCompatExported
use Rattle.fahireky.specs.contracts.fahireky_crc16 as Crc16
use Rattle.fahireky_c.specs.contracts.fahireky_crc16 as Crc16Exported

pub state_size-same : ◌≡◌ {A = Contract}
    (record { ended = StateSizeExported.ended; clauses = StateSizeExported.clauses })
    (record { ended = StateSize.ended; clauses = StateSize.clauses })
state_size-same = refl

pub answer_size-same : ◌≡◌ {A = Contract}
    (record { ended = AnswerSizeExported.ended; clauses = AnswerSizeExported.clauses })
    (record { ended = AnswerSize.ended; clauses = AnswerSize.clauses })
answer_size-same = refl

pub start_select-same : ◌≡◌ {A = Contract}
    (record { ended = StartSelectExported.ended; clauses = StartSelectExported.clauses })
    (record { ended = StartSelect.ended; clauses = StartSelect.clauses })
start_select-same = refl

pub start_deselect-same : ◌≡◌ {A = Contract}
    (record { ended = StartDeselectExported.ended; clauses = StartDeselectExported.clauses })
    (record { ended = StartDeselect.ended; clauses = StartDeselect.clauses })
start_deselect-same = refl

pub start_attach-same : ◌≡◌ {A = Contract}
    (record { ended = StartAttachExported.ended; clauses = StartAttachExported.clauses })
    (record { ended = StartAttach.ended; clauses = StartAttach.clauses })
start_attach-same = refl

pub start_attach_to-same : ◌≡◌ {A = Contract}
    (record { ended = StartAttachToExported.ended; clauses = StartAttachToExported.clauses })
    (record { ended = StartAttachTo.ended; clauses = StartAttachTo.clauses })
start_attach_to-same = refl

pub start_discover-same : ◌≡◌ {A = Contract}
    (record { ended = StartDiscoverExported.ended; clauses = StartDiscoverExported.clauses })
    (record { ended = StartDiscover.ended; clauses = StartDiscover.clauses })
start_discover-same = refl

pub start_info-same : ◌≡◌ {A = Contract}
    (record { ended = StartInfoExported.ended; clauses = StartInfoExported.clauses })
    (record { ended = StartInfo.ended; clauses = StartInfo.clauses })
start_info-same = refl

pub start_erase-same : ◌≡◌ {A = Contract}
    (record { ended = StartEraseExported.ended; clauses = StartEraseExported.clauses })
    (record { ended = StartErase.ended; clauses = StartErase.clauses })
start_erase-same = refl

pub start_flash-same : ◌≡◌ {A = Contract}
    (record { ended = StartFlashExported.ended; clauses = StartFlashExported.clauses })
    (record { ended = StartFlash.ended; clauses = StartFlash.clauses })
start_flash-same = refl

pub start_reset-same : ◌≡◌ {A = Contract}
    (record { ended = StartResetExported.ended; clauses = StartResetExported.clauses })
    (record { ended = StartReset.ended; clauses = StartReset.clauses })
start_reset-same = refl

pub start_set_baud-same : ◌≡◌ {A = Contract}
    (record { ended = StartSetBaudExported.ended; clauses = StartSetBaudExported.clauses })
    (record { ended = StartSetBaud.ended; clauses = StartSetBaud.clauses })
start_set_baud-same = refl

pub request-same : ◌≡◌ {A = Contract}
    (record { ended = RequestExported.ended; clauses = RequestExported.clauses })
    (record { ended = Request.ended; clauses = Request.clauses })
request-same = refl

pub record-same : ◌≡◌ {A = Contract}
    (record { ended = RecordExported.ended; clauses = RecordExported.clauses })
    (record { ended = Record.ended; clauses = Record.clauses })
record-same = refl

pub link_failed-same : ◌≡◌ {A = Contract}
    (record { ended = LinkFailedExported.ended; clauses = LinkFailedExported.clauses })
    (record { ended = LinkFailed.ended; clauses = LinkFailed.clauses })
link_failed-same = refl

pub attached-same : ◌≡◌ {A = Contract}
    (record { ended = AttachedExported.ended; clauses = AttachedExported.clauses })
    (record { ended = Attached.ended; clauses = Attached.clauses })
attached-same = refl

pub hear-same : ◌≡◌ {A = Contract}
    (record { ended = HearExported.ended; clauses = HearExported.clauses })
    (record { ended = Hear.ended; clauses = Hear.clauses })
hear-same = refl

pub rest-same : ◌≡◌ {A = Contract}
    (record { ended = RestExported.ended; clauses = RestExported.clauses })
    (record { ended = Rest.ended; clauses = Rest.clauses })
rest-same = refl

pub uid_hex-same : ◌≡◌ {A = Contract}
    (record { ended = UidHexExported.ended; clauses = UidHexExported.clauses })
    (record { ended = UidHex.ended; clauses = UidHex.clauses })
uid_hex-same = refl

pub parse_uid-same : ◌≡◌ {A = Contract}
    (record { ended = ParseUidExported.ended; clauses = ParseUidExported.clauses })
    (record { ended = ParseUid.ended; clauses = ParseUid.clauses })
parse_uid-same = refl

pub image_compat-same : ◌≡◌ {A = Contract}
    (record { ended = ImageCompatExported.ended; clauses = ImageCompatExported.clauses })
    (record { ended = ImageCompat.ended; clauses = ImageCompat.clauses })
image_compat-same = refl

pub crc16-same : ◌≡◌ {A = Contract}
    (record { ended = Crc16Exported.ended; clauses = Crc16Exported.clauses })
    (record { ended = Crc16.ended; clauses = Crc16.clauses })
crc16-same = refl
