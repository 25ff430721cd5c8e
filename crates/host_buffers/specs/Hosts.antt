-- How each exported call changes the buffers that a host lends, and the code that it returns.
use Rattle.std.specs.Prelude.{◌≡◌, ℕ, cond, List, ◌++◌, ltb, length, drop, Option, Some, None, IfSome, IfNone}
use Rattle.ids.specs.declared.Id.{Id}
use Rattle.ids.specs.Ids.{no_id}
use Rattle.walk_table.specs.Rows.{no_table}
use Rattle.hearing.specs.declared.Heard.{Heard}
use Rattle.hearing.specs.declared.Hearing.{Hearing}
use Rattle.hearing.specs.Heard.{is_long, kind_of, id_in}
use Rattle.client.specs.declared.Client.{Client}
use Rattle.client.specs.declared.Outcome.TheVariants as Outcome
use Rattle.client.specs.declared.Refusal.TheVariants.{LongId}
use Rattle.client.specs.declared.Says.{Says}
use Rattle.client.specs.declared.Says.TheVariants.{Over, Refused}
use Rattle.client.specs.declared.Started.{Started}
use Rattle.client.specs.declared.Told.{Told}
use Rattle.client.specs.declared.Attached.{Attached}
use Rattle.client.specs.Clients.{attached}
use Rattle.client.specs.declared.Opening.{Opening}
use Rattle.client.specs.declared.Verdict.{Verdict}
use Rattle.client.specs.Verdicts.{started_of, told_of}
use Rattle.client.specs.Numbers.{changes_no_state}
use Rattle.client_request.specs.Request.{Asking, request}
use Rattle.host_answer.specs.Numbers.{note_of}
use Rattle.host_buffers.specs.Codes.{coded, Coded}
use Rattle.host_state.specs.State as State
use Rattle.host_state.specs.State.{saved, loaded}
use Rattle.host_answer.specs.AnswerBytes as AnswerBytes
use Rattle.host_answer.specs.AnswerBytes.{shown}

unfoldable pub code_of : Says → ℕ
code_of says = coded (note_of says).number (note_of says).length

-- A state of n bytes and an answer's buffer of m: the first that is too short is refused with 16 and the length needed.
unfoldable pub lent : {A : Type 0} → ℕ → ℕ → (ℕ → A) → A → A
lent n m short enough = cond (ltb n State.size) (short (coded 16 State.size))
    (cond (ltb m AnswerBytes.size) (short (coded 16 AnswerBytes.size)) enough)

unfoldable pub short_code : ℕ → ℕ → Option ℕ
short_code n m = lent n m Some None

-- The code, and the state and the answer's buffer after the call.
pub record Exported : Type 0 where
  pub code : ℕ
  pub state : List ℕ
  pub answer : List ℕ

-- The same, with the request buffer.
pub record Requested : Type 0 where
  pub code : ℕ
  pub state : List ℕ
  pub buffer : List ℕ
  pub answer : List ℕ

-- The answer of a start or a request: it has no rest, progress, id or list.
unfoldable pub told_by : Started → Told
told_by s = record { says = s.says; client = s.client; rest = 0; progress = None; id = no_id; found = no_table }

-- What a call leaves: its answer is written, and the client is saved. After a refusal that changes no state, the state
-- is as it was, byte for byte.
unfoldable pub leaves : Told → List ℕ → List ℕ → Exported
leaves t s a = record {
  code = code_of t.says;
  state = cond (changes_no_state (note_of t.says).number) s (saved t.client ++ drop State.size s);
  answer = shown t.says t.progress t.id t.found t.rest ++ drop AnswerBytes.size a;
}

-- A call that has the code and the bytes r leaves: the code of a buffer that is too short, and nothing changed; else
-- what one of the openings leaves that `gives` allows.
pub record Starts (gives : Opening → Type 0) (s a : List ℕ) (r : Exported) : Type 0 where
  pub short : IfSome (short_code (length s) (length a)) (λ code. r ≡ record { code = code; state = s; answer = a })
  pub decided : IfNone (short_code (length s) (length a))
      ((o : Opening) × gives o × (r ≡ leaves (told_by (started_of o (loaded s).walk)) s a))

-- The same for verdicts.
pub record Tells (gives : Verdict → Type 0) (s a : List ℕ) (r : Exported) : Type 0 where
  pub short : IfSome (short_code (length s) (length a)) (λ code. r ≡ record { code = code; state = s; answer = a })
  pub decided : IfNone (short_code (length s) (length a))
      ((v : Verdict) × gives v × (r ≡ leaves (told_of v (loaded s).walk) s a))

unfoldable pub tells : (Client → Told) → List ℕ → List ℕ → Exported
tells f s a = lent (length s) (length a) (λ code. record { code = code; state = s; answer = a })
    (leaves (f (loaded s)) s a)

unfoldable pub starts : (Client → Started) → List ℕ → List ℕ → Exported
starts f s a = tells (λ c. told_by (f c)) s a

unfoldable pub handed : Exported → List ℕ → Requested
handed e b = record { code = e.code; state = e.state; buffer = b; answer = e.answer }

unfoldable pub asks : Asking → List ℕ → List ℕ → Requested
asks x s a = handed (leaves (told_by x.answer) s a) x.bytes

unfoldable pub requests : List ℕ → List ℕ → List ℕ → List ℕ → Requested
requests image s b a =
    lent (length s) (length a) (λ code. record { code = code; state = s; buffer = b; answer = a })
    (asks (request (loaded s) image b) s a)

-- Only an answer, with an id.
unfoldable pub shows : Says → Id → List ℕ → Coded
shows says x a = record { code = code_of says; bytes = shown says None x no_table 0 ++ drop AnswerBytes.size a }

unfoldable pub shows_attached : Attached → List ℕ → Coded
shows_attached x a = shows (Over (Outcome.Attached x.any)) x.id a

unfoldable pub views : List ℕ → List ℕ → Coded
views s a = lent (length s) (length a) (λ code. record { code = code; bytes = a })
    (shows_attached (attached (loaded s)) a)

-- The answer of a plain select that heard h.
unfoldable pub said_of : Heard → Says
said_of h = cond (is_long h) (Refused LongId) (Over (Outcome.Heard h))

unfoldable pub hears_out : Hearing → List ℕ → Coded
hears_out x a = lent State.size (length a) (λ code. record { code = code; bytes = a })
    (shows (said_of (kind_of x)) (id_in x) a)
