-- Any two results that a contract allows are equal, as document 01 asks. For each public call this is stated about its
-- own contract: the answer, the client after it, and every byte lent.
use mathlib.Core.Path.{◌≡◌, refl, ap}
use Rattle.client.specs.contracts.Client.new as ClientNew
use Rattle.client.specs.contracts.Client.attached as ClientAttached
use Rattle.client_start.specs.contracts.start_select as StartSelect
use Rattle.client_start.specs.contracts.start_deselect as StartDeselect
use Rattle.client_start.specs.contracts.start_attach as StartAttach
use Rattle.client_start.specs.contracts.start_attach_to as StartAttachTo
use Rattle.client_start.specs.contracts.start_discover as StartDiscover
use Rattle.client_start.specs.contracts.start_info as StartInfo
use Rattle.client_start.specs.contracts.start_erase as StartErase
use Rattle.client_start.specs.contracts.start_flash as StartFlash
use Rattle.client_start.specs.contracts.start_reset as StartReset
use Rattle.client_start.specs.contracts.start_set_baud as StartSetBaud
use Rattle.client_request.specs.contracts.request as Request
use Rattle.client_record.specs.contracts.record as Record
use Rattle.client_record.specs.contracts.link_failed as LinkFailed
use Rattle.client_record.specs.contracts.rest as Rest
use Rattle.text.specs.contracts.uid_hex as UidHex
use Rattle.text.specs.contracts.parse_uid as ParseUid
use Rattle.image.specs.contracts.image_compat as ImageCompat
use Rattle.image.specs.contracts.device_info as DeviceInfo
use Rattle.crc.specs.contracts.crc16 as Crc16
use Rattle.frame.specs.contracts.write_frame as WriteFrame
use Rattle.reader.specs.contracts.read as Read
use Rattle.hearing.specs.contracts.hear as Hear
use Rattle.hearing.specs.contracts.answer as Answer
use Rattle.fahireky.specs.contracts.fahireky_state_size as FahirekyStateSize
use Rattle.fahireky.specs.contracts.fahireky_answer_size as FahirekyAnswerSize
use Rattle.fahireky.specs.contracts.fahireky_start_select as FahirekyStartSelect
use Rattle.fahireky.specs.contracts.fahireky_start_deselect as FahirekyStartDeselect
use Rattle.fahireky.specs.contracts.fahireky_start_attach as FahirekyStartAttach
use Rattle.fahireky.specs.contracts.fahireky_start_attach_to as FahirekyStartAttachTo
use Rattle.fahireky.specs.contracts.fahireky_start_discover as FahirekyStartDiscover
use Rattle.fahireky.specs.contracts.fahireky_start_info as FahirekyStartInfo
use Rattle.fahireky.specs.contracts.fahireky_start_erase as FahirekyStartErase
use Rattle.fahireky.specs.contracts.fahireky_start_flash as FahirekyStartFlash
use Rattle.fahireky.specs.contracts.fahireky_start_reset as FahirekyStartReset
use Rattle.fahireky.specs.contracts.fahireky_start_set_baud as FahirekyStartSetBaud
use Rattle.fahireky.specs.contracts.fahireky_request as FahirekyRequest
use Rattle.fahireky.specs.contracts.fahireky_record as FahirekyRecord
use Rattle.fahireky.specs.contracts.fahireky_link_failed as FahirekyLinkFailed
use Rattle.fahireky.specs.contracts.fahireky_attached as FahirekyAttached
use Rattle.fahireky.specs.contracts.fahireky_hear as FahirekyHear
use Rattle.fahireky.specs.contracts.fahireky_rest as FahirekyRest
use Rattle.fahireky.specs.contracts.fahireky_uid_hex as FahirekyUidHex
use Rattle.fahireky.specs.contracts.fahireky_parse_uid as FahirekyParseUid
use Rattle.fahireky.specs.contracts.fahireky_image_compat as FahirekyImageCompat
use Rattle.fahireky.specs.contracts.fahireky_crc16 as FahirekyCrc16
use Rattle.acceptance.proofs.Contracts.{DeterminedBy, Determined, agree}

-- The client's calls, and the functions that it is built on.
pub new-determined : Determined (record { ended = ClientNew.ended; clauses = ClientNew.clauses })
new-determined M 𝓤 𝓛 mem run κs a g g' r r' w w' = agree 𝓤 r r' _ (λ e. (e, refl))

pub attached-determined : Determined (record { ended = ClientAttached.ended; clauses = ClientAttached.clauses })
attached-determined M 𝓤 𝓛 mem run κs a g g' r r' w w' = agree 𝓤 r r' _ (λ e. (e, refl))

pub start-select-determined : Determined (record { ended = StartSelect.ended; clauses = StartSelect.clauses })
start-select-determined M 𝓤 𝓛 mem run κs a g g' r r' w w' = agree 𝓤 r r' _ (λ e. (e, refl))

pub start-deselect-determined : Determined (record { ended = StartDeselect.ended; clauses = StartDeselect.clauses })
start-deselect-determined M 𝓤 𝓛 mem run κs a g g' r r' w w' = agree 𝓤 r r' _ (λ e. (e, refl))

pub start-attach-determined : Determined (record { ended = StartAttach.ended; clauses = StartAttach.clauses })
start-attach-determined M 𝓤 𝓛 mem run κs a g g' r r' w w' = agree 𝓤 r r' _ (λ e. (e, refl))

pub start-attach-to-determined : Determined (record { ended = StartAttachTo.ended; clauses = StartAttachTo.clauses })
start-attach-to-determined M 𝓤 𝓛 mem run κs a g g' r r' w w' = agree 𝓤 r r' _ (λ e. (e, refl))

pub start-discover-determined : Determined (record { ended = StartDiscover.ended; clauses = StartDiscover.clauses })
start-discover-determined M 𝓤 𝓛 mem run κs a g g' r r' w w' = agree 𝓤 r r' _ (λ e. (e, refl))

pub start-info-determined : Determined (record { ended = StartInfo.ended; clauses = StartInfo.clauses })
start-info-determined M 𝓤 𝓛 mem run κs a g g' r r' w w' = agree 𝓤 r r' _ (λ e. (e, refl))

pub start-erase-determined : Determined (record { ended = StartErase.ended; clauses = StartErase.clauses })
start-erase-determined M 𝓤 𝓛 mem run κs a g g' r r' w w' = agree 𝓤 r r' _ (λ e. (e, refl))

pub start-flash-determined : Determined (record { ended = StartFlash.ended; clauses = StartFlash.clauses })
start-flash-determined M 𝓤 𝓛 mem run κs a g g' r r' w w' = agree 𝓤 r r' _ (λ e. (e, refl))

pub start-reset-determined : Determined (record { ended = StartReset.ended; clauses = StartReset.clauses })
start-reset-determined M 𝓤 𝓛 mem run κs a g g' r r' w w' = agree 𝓤 r r' _ (λ e. (e, refl))

pub start-set-baud-determined : Determined (record { ended = StartSetBaud.ended; clauses = StartSetBaud.clauses })
start-set-baud-determined M 𝓤 𝓛 mem run κs a g g' r r' w w' = agree 𝓤 r r' _ (λ e. (e, refl))

pub request-determined : Determined (record { ended = Request.ended; clauses = Request.clauses })
request-determined M 𝓤 𝓛 mem run κs a g g' r r' w w' =
    agree 𝓤 _ _ _ (λ e. (ap (λ x. x.answer) e, λ i. (tt, (tt, ((e i).bytes, tt)))))

pub record-determined : Determined (record { ended = Record.ended; clauses = Record.clauses })
record-determined M 𝓤 𝓛 mem run κs a g g' r r' w w' = agree 𝓤 r r' _ (λ e. (e, refl))

pub link-failed-determined : Determined (record { ended = LinkFailed.ended; clauses = LinkFailed.clauses })
link-failed-determined M 𝓤 𝓛 mem run κs a g g' r r' w w' = agree 𝓤 r r' _ (λ e. (e, refl))

-- The result is a reference to a part of the record; its bytes are equal.
pub rest-determined : DeterminedBy (record { ended = Rest.ended; clauses = Rest.clauses }) (λ κs r r'. r.now ≡ r'.now)
rest-determined M 𝓤 𝓛 mem run κs a g g' r r' w w' = agree 𝓤 r.now r'.now _ (λ e. (e, refl))

pub uid-hex-determined : Determined (record { ended = UidHex.ended; clauses = UidHex.clauses })
uid-hex-determined M 𝓤 𝓛 mem run κs a g g' r r' w w' =
    agree 𝓤 _ _ _ (λ e. (ap (λ x. x.answer) e, λ i. (tt, ((e i).bytes, tt))))

pub parse-uid-determined : Determined (record { ended = ParseUid.ended; clauses = ParseUid.clauses })
parse-uid-determined M 𝓤 𝓛 mem run κs a g g' r r' w w' = agree 𝓤 r r' _ (λ e. (e, refl))

pub image-compat-determined : Determined (record { ended = ImageCompat.ended; clauses = ImageCompat.clauses })
image-compat-determined M 𝓤 𝓛 mem run κs a g g' r r' w w' = agree 𝓤 r r' _ (λ e. (e, refl))

pub device-info-determined : Determined (record { ended = DeviceInfo.ended; clauses = DeviceInfo.clauses })
device-info-determined M 𝓤 𝓛 mem run κs a g g' r r' w w' = agree 𝓤 r r' _ (λ e. (e, refl))

pub crc16-determined : Determined (record { ended = Crc16.ended; clauses = Crc16.clauses })
crc16-determined M 𝓤 𝓛 mem run κs a g g' r r' w w' = agree 𝓤 r r' _ (λ e. (e, refl))

pub write-frame-determined : Determined (record { ended = WriteFrame.ended; clauses = WriteFrame.clauses })
write-frame-determined M 𝓤 𝓛 mem run κs a g g' r r' w w' =
    agree 𝓤 _ _ _ (λ e. (ap (λ x. x.answer) e, λ i. (tt, (tt, (tt, ((e i).bytes, tt))))))

pub read-determined : Determined (record { ended = Read.ended; clauses = Read.clauses })
read-determined M 𝓤 𝓛 mem run κs a g g' r r' w w' = agree 𝓤 r r' _ (λ e. (e, refl))

pub hear-determined : Determined (record { ended = Hear.ended; clauses = Hear.clauses })
hear-determined M 𝓤 𝓛 mem run κs a g g' r r' w w' = agree 𝓤 r r' _ (λ e. (e, refl))

pub answer-determined : Determined (record { ended = Answer.ended; clauses = Answer.clauses })
answer-determined M 𝓤 𝓛 mem run κs a g g' r r' w w' = agree 𝓤 r r' _ (λ e. (e, refl))

-- The exported calls.
pub fahireky-state-size-determined : Determined
    (record { ended = FahirekyStateSize.ended; clauses = FahirekyStateSize.clauses })
fahireky-state-size-determined M 𝓤 𝓛 mem run κs a g g' r r' w w' = agree 𝓤 r r' _ (λ e. (e, refl))

pub fahireky-answer-size-determined : Determined
    (record { ended = FahirekyAnswerSize.ended; clauses = FahirekyAnswerSize.clauses })
fahireky-answer-size-determined M 𝓤 𝓛 mem run κs a g g' r r' w w' = agree 𝓤 r r' _ (λ e. (e, refl))

pub fahireky-start-select-determined : Determined
    (record { ended = FahirekyStartSelect.ended; clauses = FahirekyStartSelect.clauses })
fahireky-start-select-determined M 𝓤 𝓛 mem run κs a g g' r r' w w' =
    agree 𝓤 _ _ _ (λ e. (ap (λ x. x.code) e, λ i. ((e i).state, (tt, (tt, ((e i).answer, tt))))))

pub fahireky-start-deselect-determined : Determined
    (record { ended = FahirekyStartDeselect.ended; clauses = FahirekyStartDeselect.clauses })
fahireky-start-deselect-determined M 𝓤 𝓛 mem run κs a g g' r r' w w' =
    agree 𝓤 _ _ _ (λ e. (ap (λ x. x.code) e, λ i. ((e i).state, ((e i).answer, tt))))

pub fahireky-start-attach-determined : Determined
    (record { ended = FahirekyStartAttach.ended; clauses = FahirekyStartAttach.clauses })
fahireky-start-attach-determined M 𝓤 𝓛 mem run κs a g g' r r' w w' =
    agree 𝓤 _ _ _ (λ e. (ap (λ x. x.code) e, λ i. ((e i).state, ((e i).answer, tt))))

pub fahireky-start-attach-to-determined : Determined
    (record { ended = FahirekyStartAttachTo.ended; clauses = FahirekyStartAttachTo.clauses })
fahireky-start-attach-to-determined M 𝓤 𝓛 mem run κs a g g' r r' w w' =
    agree 𝓤 _ _ _ (λ e. (ap (λ x. x.code) e, λ i. ((e i).state, (tt, ((e i).answer, tt)))))

pub fahireky-start-discover-determined : Determined
    (record { ended = FahirekyStartDiscover.ended; clauses = FahirekyStartDiscover.clauses })
fahireky-start-discover-determined M 𝓤 𝓛 mem run κs a g g' r r' w w' =
    agree 𝓤 _ _ _ (λ e. (ap (λ x. x.code) e, λ i. ((e i).state, (tt, ((e i).answer, tt)))))

pub fahireky-start-info-determined : Determined
    (record { ended = FahirekyStartInfo.ended; clauses = FahirekyStartInfo.clauses })
fahireky-start-info-determined M 𝓤 𝓛 mem run κs a g g' r r' w w' =
    agree 𝓤 _ _ _ (λ e. (ap (λ x. x.code) e, λ i. ((e i).state, ((e i).answer, tt))))

pub fahireky-start-erase-determined : Determined
    (record { ended = FahirekyStartErase.ended; clauses = FahirekyStartErase.clauses })
fahireky-start-erase-determined M 𝓤 𝓛 mem run κs a g g' r r' w w' =
    agree 𝓤 _ _ _ (λ e. (ap (λ x. x.code) e, λ i. ((e i).state, ((e i).answer, tt))))

pub fahireky-start-flash-determined : Determined
    (record { ended = FahirekyStartFlash.ended; clauses = FahirekyStartFlash.clauses })
fahireky-start-flash-determined M 𝓤 𝓛 mem run κs a g g' r r' w w' =
    agree 𝓤 _ _ _ (λ e. (ap (λ x. x.code) e, λ i. ((e i).state, (tt, ((e i).answer, tt)))))

pub fahireky-start-reset-determined : Determined
    (record { ended = FahirekyStartReset.ended; clauses = FahirekyStartReset.clauses })
fahireky-start-reset-determined M 𝓤 𝓛 mem run κs a g g' r r' w w' =
    agree 𝓤 _ _ _ (λ e. (ap (λ x. x.code) e, λ i. ((e i).state, (tt, (tt, ((e i).answer, tt))))))

pub fahireky-start-set-baud-determined : Determined
    (record { ended = FahirekyStartSetBaud.ended; clauses = FahirekyStartSetBaud.clauses })
fahireky-start-set-baud-determined M 𝓤 𝓛 mem run κs a g g' r r' w w' =
    agree 𝓤 _ _ _ (λ e. (ap (λ x. x.code) e, λ i. ((e i).state, (tt, (tt, (tt, ((e i).answer, tt)))))))

pub fahireky-request-determined : Determined
    (record { ended = FahirekyRequest.ended; clauses = FahirekyRequest.clauses })
fahireky-request-determined M 𝓤 𝓛 mem run κs a g g' r r' w w' =
    agree 𝓤 _ _ _ (λ e. (ap (λ x. x.code) e, λ i. ((e i).state, (tt, ((e i).buffer, ((e i).answer, tt))))))

pub fahireky-record-determined : Determined (record { ended = FahirekyRecord.ended; clauses = FahirekyRecord.clauses })
fahireky-record-determined M 𝓤 𝓛 mem run κs a g g' r r' w w' =
    agree 𝓤 _ _ _ (λ e. (ap (λ x. x.code) e, λ i. ((e i).state, (tt, (tt, ((e i).answer, tt))))))

pub fahireky-link-failed-determined : Determined
    (record { ended = FahirekyLinkFailed.ended; clauses = FahirekyLinkFailed.clauses })
fahireky-link-failed-determined M 𝓤 𝓛 mem run κs a g g' r r' w w' =
    agree 𝓤 _ _ _ (λ e. (ap (λ x. x.code) e, λ i. ((e i).state, ((e i).answer, tt))))

pub fahireky-attached-determined : Determined
    (record { ended = FahirekyAttached.ended; clauses = FahirekyAttached.clauses })
fahireky-attached-determined M 𝓤 𝓛 mem run κs a g g' r r' w w' =
    agree 𝓤 _ _ _ (λ e. (ap (λ x. x.code) e, λ i. (tt, ((e i).bytes, tt))))

pub fahireky-hear-determined : Determined (record { ended = FahirekyHear.ended; clauses = FahirekyHear.clauses })
fahireky-hear-determined M 𝓤 𝓛 mem run κs a g g' r r' w w' =
    agree 𝓤 _ _ _ (λ e. (ap (λ x. x.code) e, λ i. (tt, ((e i).bytes, tt))))

pub fahireky-rest-determined : Determined (record { ended = FahirekyRest.ended; clauses = FahirekyRest.clauses })
fahireky-rest-determined M 𝓤 𝓛 mem run κs a g g' r r' w w' = agree 𝓤 r r' _ (λ e. (e, refl))

pub fahireky-uid-hex-determined : Determined (record { ended = FahirekyUidHex.ended; clauses = FahirekyUidHex.clauses })
fahireky-uid-hex-determined M 𝓤 𝓛 mem run κs a g g' r r' w w' =
    agree 𝓤 _ _ _ (λ e. (ap (λ x. x.code) e, λ i. (tt, ((e i).bytes, tt))))

pub fahireky-parse-uid-determined : Determined
    (record { ended = FahirekyParseUid.ended; clauses = FahirekyParseUid.clauses })
fahireky-parse-uid-determined M 𝓤 𝓛 mem run κs a g g' r r' w w' =
    agree 𝓤 _ _ _ (λ e. (ap (λ x. x.code) e, λ i. (tt, ((e i).bytes, tt))))

pub fahireky-image-compat-determined : Determined
    (record { ended = FahirekyImageCompat.ended; clauses = FahirekyImageCompat.clauses })
fahireky-image-compat-determined M 𝓤 𝓛 mem run κs a g g' r r' w w' = agree 𝓤 r r' _ (λ e. (e, refl))

pub fahireky-crc16-determined : Determined (record { ended = FahirekyCrc16.ended; clauses = FahirekyCrc16.clauses })
fahireky-crc16-determined M 𝓤 𝓛 mem run κs a g g' r r' w w' = agree 𝓤 r r' _ (λ e. (e, refl))
