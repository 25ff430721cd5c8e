-- What is heard in a record, and the answer to a request, as values of the code.
use Rattle.std.specs.Prelude.{ℕ, ◌+◌, ◌-◌, ◌≤◌, Bool, true, false, cond, List, Result, Ok, Err, ltb, eqb, length, take, drop}
use Rattle.paper.specs.Hearing as PaperHearing
use Rattle.paper.specs.Hearing.{longest, nothing, one, unaddressed, garble}
use Rattle.paper.specs.Answers as PaperAnswers
use Rattle.paper.specs.Answers.{lost, answered, ok, device}
use Rattle.ids.specs.declared.Id.{Id}
use Rattle.ids.specs.Ids.{no_id, id_from}
use Rattle.reader.specs.declared.Frame.{Frame}
use Rattle.hearing.specs.declared.Heard.{Heard}
use Rattle.hearing.specs.declared.Hearing.{Hearing}
use Rattle.hearing.specs.declared.Hearing.TheVariants.{Nothing, TooLong, Unaddressed, Garble}
use Rattle.hearing.specs.declared.Replies.{Replies}
use Rattle.hearing.specs.declared.Replies.TheVariants.{None, Several}
use Rattle.hearing.specs.declared.Reply.{Reply}
use Rattle.hearing.specs.declared.NoReply.{NoReply}
use Rattle.hearing.specs.declared.NoReply.TheVariants.{Lost, Device}

-- A result for each case of what is heard.
abbrev pub on_heard {ℓ} : {A : Type ℓ} → Heard → A → A → A → A → A → A
on_heard Heard.Nothing n o t u g = n
on_heard Heard.One n o t u g = o
on_heard Heard.TooLong n o t u g = t
on_heard Heard.Unaddressed n o t u g = u
on_heard Heard.Garble n o t u g = g

-- The kind of what is heard.
abbrev pub kind_of : Hearing → Heard
kind_of Nothing = Heard.Nothing
kind_of (Hearing.One x) = Heard.One
kind_of TooLong = Heard.TooLong
kind_of Unaddressed = Heard.Unaddressed
kind_of Garble = Heard.Garble

-- The id heard, or no id.
abbrev pub id_in : Hearing → Id
id_in Nothing = no_id
id_in (Hearing.One x) = x
id_in TooLong = no_id
id_in Unaddressed = no_id
id_in Garble = no_id

-- Whether an id over 16 bytes was heard.
unfoldable pub is_long : Heard → Bool
is_long h = on_heard h false false true false false

-- A result for no reply, for one, and for several.
abbrev pub on_replies {ℓ} : {A : Type ℓ} → Replies → A → (Frame → A) → A → A
on_replies None none this many = none
on_replies (Replies.One f) none this many = this f
on_replies Several none this many = many

-- If there is one reply, its payload is within the record.
abbrev pub Within : List ℕ → Replies → Type 0
Within bytes r = on_replies r (Unit {0}) (λ f. f.payload + f.len ≤ length bytes) (Unit {0})

-- The replies after one more frame. An echo (status 0) is no reply.
unfoldable pub noted : Replies → Frame → Replies
noted r f = cond (eqb f.status 0) r (on_replies r (Replies.One f) (λ g. Several) Several)

-- One reply with status Ok, whose payload is the id. An id of over 16 bytes is too long.
unfoldable pub one_heard : List ℕ → Hearing
one_heard id = cond (ltb longest (length id)) TooLong (Hearing.One (id_from id))

-- What is heard once every frame of the record is read.
unfoldable pub concluded : List ℕ → Replies → Hearing
concluded bytes r =
    on_replies r Nothing
    (λ f.
    cond (eqb f.status 1) (one_heard (take f.len (drop f.payload bytes)))
    (cond (eqb f.status 2) Unaddressed Garble))
    Garble

-- What the paper hears, as a value of the code.
abbrev pub shown_heard : PaperHearing.Heard → Hearing
shown_heard nothing = Nothing
shown_heard (one id) = one_heard id
shown_heard unaddressed = Unaddressed
shown_heard garble = Garble

-- The answer of a whole frame that is no echo.
unfoldable pub replied_by : Frame → Result Reply NoReply
replied_by f =
    cond (eqb f.status 1) (Ok (record { payload = f.payload; len = f.len; end = f.end })) (Err (Device f.status f.end))

-- The paper's answer as a value of the code. The payload ends two bytes before the frame does, at its check.
abbrev pub shown_answer : PaperAnswers.Answer → Result Reply NoReply
shown_answer lost = Err Lost
shown_answer (answered (ok payload) end) =
    Ok (record { payload = end - (2 + length payload); len = length payload; end = end })
shown_answer (answered (device status) end) = Err (Device status end)
