-- Answers to the goals of `host_answer::numbers::refusal_note`.
use Rattle.host_answer.specs.Numbers.{refusal_note}
use Rattle.host_turn.proofs.Ways.{at-case}
use Rattle.host_answer.proofs.numbers.Ways.{refusing-with}
use borrow.Author.Rules.{rules}
use Rattle.host_answer.proofs.numbers.refusal_note.Goals as goal

pub returns-in-Io : goal.returns-in-Io
unfolding refusal_note
returns-in-Io c = search (at-case refusal_note, rules)

pub returns-in-Device : goal.returns-in-Device
unfolding refusal_note
returns-in-Device c = search (at-case refusal_note, rules)

pub returns-in-FirmwareTooLarge : goal.returns-in-FirmwareTooLarge
unfolding refusal_note
returns-in-FirmwareTooLarge c = search (at-case refusal_note, rules)

pub returns-in-CrcMismatch : goal.returns-in-CrcMismatch
unfolding refusal_note
returns-in-CrcMismatch c = search (at-case refusal_note, rules)

pub returns-in-BadInfo : goal.returns-in-BadInfo
unfolding refusal_note
returns-in-BadInfo c = search (at-case refusal_note, rules)

pub returns-in-Incompatible : goal.returns-in-Incompatible
unfolding refusal_note
returns-in-Incompatible c = search (at-case refusal_note, refusing-with, rules)

pub returns-in-NoDevice : goal.returns-in-NoDevice
unfolding refusal_note
returns-in-NoDevice c = search (at-case refusal_note, rules)

pub returns-in-SeveralDevices : goal.returns-in-SeveralDevices
unfolding refusal_note
returns-in-SeveralDevices c = search (at-case refusal_note, rules)

pub returns-in-NoSuchUid : goal.returns-in-NoSuchUid
unfolding refusal_note
returns-in-NoSuchUid c = search (at-case refusal_note, rules)

pub returns-in-AmbiguousUid : goal.returns-in-AmbiguousUid
unfolding refusal_note
returns-in-AmbiguousUid c = search (at-case refusal_note, rules)

pub returns-in-NotAddressable : goal.returns-in-NotAddressable
unfolding refusal_note
returns-in-NotAddressable c = search (at-case refusal_note, rules)

pub returns-in-DuplicateUid : goal.returns-in-DuplicateUid
unfolding refusal_note
returns-in-DuplicateUid c = search (at-case refusal_note, rules)

pub returns-in-BadPrefix : goal.returns-in-BadPrefix
unfolding refusal_note
returns-in-BadPrefix c = search (at-case refusal_note, rules)

pub returns-in-LongId : goal.returns-in-LongId
unfolding refusal_note
returns-in-LongId c = search (at-case refusal_note, rules)

pub returns-in-TableFull : goal.returns-in-TableFull
unfolding refusal_note
returns-in-TableFull c = search (at-case refusal_note, rules)

pub returns-in-ShortBuffer : goal.returns-in-ShortBuffer
unfolding refusal_note
returns-in-ShortBuffer c = search (at-case refusal_note, rules)

pub returns-in-RetriesSpent : goal.returns-in-RetriesSpent
unfolding refusal_note
returns-in-RetriesSpent c = search (at-case refusal_note, rules)

pub returns-in-ShortVerify : goal.returns-in-ShortVerify
unfolding refusal_note
returns-in-ShortVerify c = search (at-case refusal_note, rules)

pub returns-in-SpansTooFar : goal.returns-in-SpansTooFar
unfolding refusal_note
returns-in-SpansTooFar c = search (at-case refusal_note, rules)

pub returns-in-OtherImage : goal.returns-in-OtherImage
unfolding refusal_note
returns-in-OtherImage c = search (at-case refusal_note, rules)

pub returns-in-OutOfTurn : goal.returns-in-OutOfTurn
unfolding refusal_note
returns-in-OutOfTurn c = search (at-case refusal_note, rules)
