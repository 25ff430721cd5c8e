-- An answer as numbers and flags, and the answer that numbers and flags stand for.
use Rattle.std.specs.Prelude as Std
use Rattle.std.specs.Option.{unwrap_or}
use Rattle.std.specs.Prelude.{ℕ, is_some, Bool, true, false, cond, eqb}
use Rattle.hearing.specs.declared.Heard.{Heard}
use Rattle.hearing.specs.Heard.{on_heard}
use Rattle.image.specs.declared.Info.{Info}
use Rattle.client.specs.declared.Outcome.{Outcome}
use Rattle.client.specs.declared.Refusal.{Refusal}
use Rattle.client.specs.declared.Refusal.TheVariants.{Io, Device, FirmwareTooLarge, CrcMismatch, BadInfo, Incompatible}
use Rattle.client.specs.declared.Refusal.TheVariants.{NoDevice, SeveralDevices, NoSuchUid, AmbiguousUid}
use Rattle.client.specs.declared.Refusal.TheVariants.{NotAddressable, DuplicateUid, BadPrefix, LongId, TableFull}
use Rattle.client.specs.declared.Refusal.TheVariants.{ShortBuffer, RetriesSpent, ShortVerify, SpansTooFar, OtherImage}
use Rattle.client.specs.declared.Refusal.TheVariants.{OutOfTurn}
use Rattle.client.specs.declared.Progress.{Progress}
use Rattle.client.specs.declared.Says.{Says}
use Rattle.client.specs.declared.Says.TheVariants.{Granted, Closing, Onward, Over, Refused}
use Rattle.client.specs.Numbers.{number_of}
use Rattle.image.specs.InfoBytes.{no_info}
use Rattle.host_answer.specs.declared.numbers.Note.{Note}
use Rattle.host_answer.specs.declared.numbers.Gain.{Gain}
use Rattle.client.specs.Clients.{some_progress}

-- The numbers of a call that goes on or hands out a request, of an operation that has ended, and of a refusal.
unfoldable pub going : ℕ → ℕ → Note
going says length = record {
  number = 0;
  says = says;
  outcome = 0;
  heard = 0;
  any = false;
  key = false;
  length = length;
  first = 0;
  second = 0;
  info = no_info;
}

unfoldable pub ending : ℕ → ℕ → ℕ → Bool → Info → Note
ending number outcome heard any info = record {
  number = number;
  says = 2;
  outcome = outcome;
  heard = heard;
  any = any;
  key = false;
  length = 0;
  first = 0;
  second = 0;
  info = info;
}

unfoldable pub refusing : ℕ → Bool → ℕ → ℕ → ℕ → Note
refusing number key length first second = record {
  number = number;
  says = 3;
  outcome = 0;
  heard = 0;
  any = false;
  key = key;
  length = length;
  first = first;
  second = second;
  info = no_info;
}

-- An answer as numbers.
unfoldable pub heard_tag : Heard → ℕ
heard_tag h = on_heard h 0 1 2 3 4

unfoldable pub outcome_note : Outcome → Note
outcome_note Outcome.Quiet = ending 0 0 0 false no_info
outcome_note (Outcome.Heard h) = ending 0 1 (heard_tag h) false no_info
outcome_note (Outcome.Attached any) = ending 0 2 0 any no_info
outcome_note Outcome.Found = ending 0 3 0 false no_info
outcome_note (Outcome.Knows info) = ending 0 4 0 false info
outcome_note Outcome.Unaddressed = ending 23 5 0 false no_info

unfoldable pub refusal_note : ℕ → Refusal → Note
refusal_note number Io = refusing number false 0 0 0
refusal_note number (Device status) = refusing number false 0 status 0
refusal_note number (FirmwareTooLarge size capacity) = refusing number false 0 size capacity
refusal_note number (CrcMismatch expected actual) = refusing number false 0 expected actual
refusal_note number BadInfo = refusing number false 0 0 0
refusal_note number (Incompatible device k) = refusing number (is_some k) 0 device (unwrap_or k 0)
refusal_note number NoDevice = refusing number false 0 0 0
refusal_note number SeveralDevices = refusing number false 0 0 0
refusal_note number NoSuchUid = refusing number false 0 0 0
refusal_note number AmbiguousUid = refusing number false 0 0 0
refusal_note number NotAddressable = refusing number false 0 0 0
refusal_note number DuplicateUid = refusing number false 0 0 0
refusal_note number BadPrefix = refusing number false 0 0 0
refusal_note number LongId = refusing number false 0 0 0
refusal_note number TableFull = refusing number false 0 0 0
refusal_note number (ShortBuffer n) = refusing number false n 0 0
refusal_note number RetriesSpent = refusing number false 0 0 0
refusal_note number ShortVerify = refusing number false 0 0 0
refusal_note number SpansTooFar = refusing number false 0 0 0
refusal_note number OtherImage = refusing number false 0 0 0
refusal_note number OutOfTurn = refusing number false 0 0 0

unfoldable pub note_of : Says → Note
note_of (Granted n) = going 1 n
note_of (Closing n) = going 4 n
note_of Onward = going 0 0
note_of (Over o) = outcome_note o
note_of (Refused r) = refusal_note (number_of r) r

unfoldable pub gain_of : Std.Option Progress → Gain
gain_of Std.None = record { made = false; done = 0; total = 0 }
gain_of (Std.Some p) = record { made = true; done = p.done; total = p.total }

-- Numbers as an answer. A number that names no case is read as the last case listed.
unfoldable pub heard_in : ℕ → Heard
heard_in n = cond (eqb n 0) Heard.Nothing
    (cond (eqb n 1) Heard.One (cond (eqb n 2) Heard.TooLong (cond (eqb n 3) Heard.Unaddressed Heard.Garble)))

unfoldable pub key_in : Bool → ℕ → Std.Option ℕ
key_in any k = cond any (Std.Some k) Std.None

unfoldable pub outcome_in : Note → Outcome
outcome_in n =
    cond (eqb n.outcome 0) Outcome.Quiet
    (cond (eqb n.outcome 1) (Outcome.Heard (heard_in n.heard))
    (cond (eqb n.outcome 2) (Outcome.Attached n.any)
    (cond (eqb n.outcome 3) Outcome.Found
    (cond (eqb n.outcome 4) (Outcome.Knows n.info) Outcome.Unaddressed))))

unfoldable pub refusal_in : Note → Refusal
refusal_in n =
    cond (eqb n.number 1) Io
    (cond (eqb n.number 2) (Device n.first)
    (cond (eqb n.number 3) (FirmwareTooLarge n.first n.second)
    (cond (eqb n.number 4) (CrcMismatch n.first n.second)
    (cond (eqb n.number 5) BadInfo
    (cond (eqb n.number 6) (Incompatible n.first (key_in n.key n.second))
    (cond (eqb n.number 7) NoDevice
    (cond (eqb n.number 8) SeveralDevices
    (cond (eqb n.number 9) NoSuchUid
    (cond (eqb n.number 10) AmbiguousUid
    (cond (eqb n.number 11) NotAddressable
    (cond (eqb n.number 12) DuplicateUid
    (cond (eqb n.number 13) BadPrefix
    (cond (eqb n.number 14) LongId
    (cond (eqb n.number 15) TableFull
    (cond (eqb n.number 16) (ShortBuffer n.length)
    (cond (eqb n.number 17) RetriesSpent
    (cond (eqb n.number 18) ShortVerify
    (cond (eqb n.number 19) SpansTooFar (cond (eqb n.number 20) OtherImage OutOfTurn)))))))))))))))))))

unfoldable pub says_in : Note → Says
says_in n =
    cond (eqb n.says 0) Onward
    (cond (eqb n.says 1) (Granted n.length)
    (cond (eqb n.says 2) (Over (outcome_in n))
    (cond (eqb n.says 4) (Closing n.length) (Refused (refusal_in n)))))

unfoldable pub progress_in : Gain → Std.Option Progress
progress_in g = cond g.made (some_progress g.done g.total) Std.None
