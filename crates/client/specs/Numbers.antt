-- Document 01, "Refusal numbers": the number of each refusal and what it carries. The code's answers as document 01's.
use Rattle.std.specs.Prelude as Std
use Rattle.std.specs.Prelude.{ℕ, Bool, ◌||◌, cond, List, [], ◌∷◌, map, eqb, replicate}
use Rattle.std.proofs.Math.Option.{Option, none, some}
use Rattle.paper.specs.Client as PaperClient
use Rattle.paper.specs.Client.{refused, granted, closing, onward, over}
use Rattle.paper.specs.Hearing as PaperHearing
use Rattle.paper.specs.Hearing.{nothing, one, unaddressed, garble}
use Rattle.paper.specs.Talk.{quiet, heard, attached, found, knows}
use Rattle.ids.specs.declared.Id.{Id}
use Rattle.ids.specs.Ids.{id_of}
use Rattle.walk_table.specs.declared.Table.{Table}
use Rattle.walk_table.specs.Rows.{rows}
use Rattle.hearing.specs.declared.Heard.{Heard}
use Rattle.hearing.specs.Heard.{on_heard}
use Rattle.image.specs.Images.{paper_info}
use Rattle.client.specs.declared.Outcome.{Outcome}
use Rattle.client.specs.declared.Outcome.TheVariants as Code
use Rattle.client.specs.declared.Refusal.{Refusal}
use Rattle.client.specs.declared.Refusal.TheVariants.{Io, Device, FirmwareTooLarge, CrcMismatch, BadInfo}
use Rattle.client.specs.declared.Refusal.TheVariants.{Incompatible, NoDevice, SeveralDevices, NoSuchUid}
use Rattle.client.specs.declared.Refusal.TheVariants.{AmbiguousUid, NotAddressable, DuplicateUid, BadPrefix}
use Rattle.client.specs.declared.Refusal.TheVariants.{LongId, TableFull, ShortBuffer, RetriesSpent, ShortVerify}
use Rattle.client.specs.declared.Refusal.TheVariants.{SpansTooFar, OtherImage, OutOfTurn}
use Rattle.client.specs.declared.Progress.{Progress}
use Rattle.client.specs.declared.Says.{Says}
use Rattle.client.specs.declared.Says.TheVariants.{Granted, Closing, Onward, Over, Refused}

unfoldable pub number_of : Refusal → ℕ
number_of Io = 1
number_of (Device status) = 2
number_of (FirmwareTooLarge size capacity) = 3
number_of (CrcMismatch expected actual) = 4
number_of BadInfo = 5
number_of (Incompatible device image) = 6
number_of NoDevice = 7
number_of SeveralDevices = 8
number_of NoSuchUid = 9
number_of AmbiguousUid = 10
number_of NotAddressable = 11
number_of DuplicateUid = 12
number_of BadPrefix = 13
number_of LongId = 14
number_of TableFull = 15
number_of (ShortBuffer n) = 16
number_of RetriesSpent = 17
number_of ShortVerify = 18
number_of SpansTooFar = 19
number_of OtherImage = 20
number_of OutOfTurn = 21

-- "13, 16, 20, 21, 22 change no state." No call of the client gives 22: it is for text.
abbrev pub changes_no_state : ℕ → Bool
changes_no_state n = eqb n 13 || (eqb n 16 || (eqb n 20 || eqb n 21))

-- The image's key, if it has one.
abbrev pub key_of : Std.Option ℕ → List ℕ
key_of (Std.Some k) = k ∷ []
key_of Std.None = []

-- What a refusal carries: its own numbers, or the answer's prefix.
unfoldable pub carried_by : Refusal → Id → List ℕ
carried_by Io x = []
carried_by (Device status) x = status ∷ []
carried_by (FirmwareTooLarge size capacity) x = size ∷ capacity ∷ []
carried_by (CrcMismatch expected actual) x = expected ∷ actual ∷ []
carried_by BadInfo x = []
carried_by (Incompatible device image) x = device ∷ key_of image
carried_by NoDevice x = []
carried_by SeveralDevices x = []
carried_by NoSuchUid x = id_of x
carried_by AmbiguousUid x = id_of x
carried_by NotAddressable x = []
carried_by DuplicateUid x = []
carried_by BadPrefix x = []
carried_by LongId x = []
carried_by TableFull x = []
carried_by (ShortBuffer n) x = n ∷ []
carried_by RetriesSpent x = []
carried_by ShortVerify x = []
carried_by SpansTooFar x = []
carried_by OtherImage x = []
carried_by OutOfTurn x = []

-- The ids of a table, row by row.
unfoldable pub ids_of : Table → List PaperHearing.Id
ids_of t = map (λ e. id_of e.id) (rows t 0 t.count)

-- What was heard, with the answer's id. TooLong is read as an id of 17 bytes. No answer holds one, since it is refused.
unfoldable pub heard_from : Heard → Id → PaperHearing.Heard
heard_from h x = on_heard h nothing (one (id_of x)) (one (replicate 17 0)) unaddressed garble

unfoldable pub progress_of : Std.Option Progress → Option (ℕ × ℕ)
progress_of Std.None = none
progress_of (Std.Some p) = some (p.done, p.total)

-- An outcome, with the answer's progress, id and ids. "outcome 23" is a number in document 01, an outcome in the code.
unfoldable pub end_of : Outcome → Std.Option Progress → Id → Table → PaperClient.Says
end_of Code.Quiet p x t = over (progress_of p) quiet
end_of (Code.Heard h) p x t = over (progress_of p) (heard (heard_from h x))
end_of (Code.Attached any) p x t = over (progress_of p) (attached (cond any (some (id_of x)) none))
end_of Code.Found p x t = over (progress_of p) (found (ids_of t))
end_of (Code.Knows info) p x t = over (progress_of p) (knows (paper_info info))
end_of Code.Unaddressed p x t = refused 23 []

-- What a call says, with the answer's progress, id and ids.
unfoldable pub says_of : Says → Std.Option Progress → Id → Table → PaperClient.Says
says_of (Granted n) p x t = granted n
says_of (Closing n) p x t = closing n
says_of Onward p x t = onward (progress_of p)
says_of (Over o) p x t = end_of o p x t
says_of (Refused r) p x t = refused (number_of r) (carried_by r x)
