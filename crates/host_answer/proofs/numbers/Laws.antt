-- An answer's numbers give that answer back: nothing is lost.
use mathlib.Core.Path.{◌≡◌, refl, ap}
use Rattle.std.specs.Prelude as Std
use Rattle.std.specs.Prelude.{ℕ, is_some}
use Rattle.std.specs.Option.{unwrap_or}
use Rattle.hearing.specs.declared.Heard.{Heard}
use Rattle.client.specs.declared.Outcome.{Outcome}
use Rattle.client.specs.declared.Refusal.{Refusal}
use Rattle.client.specs.declared.Refusal.TheVariants.{Io, Device, FirmwareTooLarge, CrcMismatch, BadInfo, Incompatible}
use Rattle.client.specs.declared.Refusal.TheVariants.{NoDevice, SeveralDevices, NoSuchUid, AmbiguousUid}
use Rattle.client.specs.declared.Refusal.TheVariants.{NotAddressable, DuplicateUid, BadPrefix, LongId, TableFull}
use Rattle.client.specs.declared.Refusal.TheVariants.{ShortBuffer, RetriesSpent, ShortVerify, SpansTooFar, OtherImage}
use Rattle.client.specs.declared.Refusal.TheVariants.{OutOfTurn}
use Rattle.client.specs.declared.Progress.{Progress}
use Rattle.client.specs.declared.Says.{Says}
use Rattle.client.specs.declared.Says.TheVariants.{Granted, Closing, Onward, Over, Refused}
use Rattle.client.specs.Numbers.{number_of}
use Rattle.host_answer.specs.Numbers.{going, ending, refusing, heard_tag, outcome_note, refusal_note}
use Rattle.host_answer.specs.Numbers.{note_of, gain_of, heard_in, key_in, outcome_in, refusal_in, says_in, progress_in}

heard-tag : (h : Heard) → heard_in (heard_tag h) ≡ h
unfolding heard_in heard_tag
heard-tag Heard.Nothing = refl
heard-tag Heard.One = refl
heard-tag Heard.TooLong = refl
heard-tag Heard.Unaddressed = refl
heard-tag Heard.Garble = refl

key-in : (k : Std.Option ℕ) → key_in (is_some k) (unwrap_or k 0) ≡ k
unfolding key_in
key-in (Std.Some k) = refl
key-in Std.None = refl

note-outcome : (o : Outcome) → says_in (outcome_note o) ≡ Over o
unfolding says_in outcome_note outcome_in ending
note-outcome Outcome.Quiet = refl
note-outcome (Outcome.Heard h) = ap (λ (x : Heard). Over (Outcome.Heard x)) (heard-tag h)
note-outcome (Outcome.Attached any) = refl
note-outcome Outcome.Found = refl
note-outcome (Outcome.Knows info) = refl
note-outcome Outcome.Unaddressed = refl

note-refusal : (r : Refusal) → says_in (refusal_note (number_of r) r) ≡ Refused r
unfolding says_in refusal_note refusal_in refusing number_of
note-refusal Io = refl
note-refusal (Device status) = refl
note-refusal (FirmwareTooLarge size capacity) = refl
note-refusal (CrcMismatch expected actual) = refl
note-refusal BadInfo = refl
note-refusal (Incompatible device k) = ap (λ (x : Std.Option ℕ). Refused (Incompatible device x)) (key-in k)
note-refusal NoDevice = refl
note-refusal SeveralDevices = refl
note-refusal NoSuchUid = refl
note-refusal AmbiguousUid = refl
note-refusal NotAddressable = refl
note-refusal DuplicateUid = refl
note-refusal BadPrefix = refl
note-refusal LongId = refl
note-refusal TableFull = refl
note-refusal (ShortBuffer n) = refl
note-refusal RetriesSpent = refl
note-refusal ShortVerify = refl
note-refusal SpansTooFar = refl
note-refusal OtherImage = refl
note-refusal OutOfTurn = refl

pub note-says : (s : Says) → says_in (note_of s) ≡ s
unfolding note_of says_in going
note-says (Granted n) = refl
note-says (Closing n) = refl
note-says Onward = refl
note-says (Over o) = note-outcome o
note-says (Refused r) = note-refusal r

pub gain-progress : (p : Std.Option Progress) → progress_in (gain_of p) ≡ p
unfolding progress_in gain_of
gain-progress Std.None = refl
gain-progress (Std.Some p) = refl
