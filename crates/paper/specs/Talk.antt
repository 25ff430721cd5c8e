-- Document 01, "The port and its edges": an operation as a conversation (Talk) of requests and their answers.
use Rattle.std.specs.Prelude.{ℕ, List, [], ◌∷◌}
use Rattle.std.proofs.Math.Option.{Option}
use Rattle.paper.specs.Frame.{Info}
use Rattle.paper.specs.Hearing.{Id, Prefix, Heard}
use Rattle.paper.specs.Answers.{Reply}
use Rattle.paper.specs.Walk.{Walk}

-- "each Write carries the image from its offset on": the payload of a request. It is either these bytes, or a piece of
-- the image lent with the request: an offset and a length.
pub data Payload : Type 0 where
  these : List ℕ → Payload
  piece : ℕ → ℕ → Payload

-- "Requests with one answer": any request other than a Select.
pub record Demand : Type 0 where
  pub command : ℕ
  pub flags : ℕ
  pub address : ℕ
  pub payload : Payload

-- "asks for a request": a Select of a prefix (the seed is added when it is written); a request with one answer; or a
-- request whose answer is not awaited.
pub data Ask : Type 0 where
  select : Prefix → Ask
  demand : Demand → Ask
  leave : Demand → Ask

-- "The image is lent to each call anew": the reply to a request, and the image lent with its record.
pub record Answered : Type 0 where
  pub reply : Reply
  pub image : List ℕ

-- "hands back the bytes heard": what they say, for each kind of request.
abbrev pub AnswerTo : Ask → Type 0
AnswerTo (select p) = Heard
AnswerTo (demand d) = Answered
AnswerTo (leave d) = Unit {0}

-- "We add a step machine": a conversation returns a value; stops the operation with a number and the values that it
-- carries; reports progress and goes on; or asks for a request and goes on with the answer.
pub data Talk (A : Type 0) : Type 0 where
  return : A → Talk A
  stop : ℕ → List ℕ → Talk A
  report : ℕ → ℕ → Talk A → Talk A
  ask : (q : Ask) → (AnswerTo q → Talk A) → Talk A

infixl 20 ◌>>=◌
-- "The port and its edges": one conversation, then another that depends on its value. If the first stops, so does the
-- whole.
unfoldable pub ◌>>=◌ : {A B : Type 0} → Talk A → (A → Talk B) → Talk B
return a >>= f = f a
stop c carries >>= f = stop c carries
report a b m >>= f = report a b (m >>= f)
ask q g >>= f = ask q (λ x. g x >>= f)

infixl 20 ◌>>◌
-- "The port and its edges": one conversation, then another; the value of the first is not used.
abbrev pub ◌>>◌ : {A B : Type 0} → Talk A → Talk B → Talk B
m >> k = m >>= λ _. k

-- "The port and its edges": one conversation for each number of a list, in order.
unfoldable pub each : List ℕ → (ℕ → Talk (Unit {0})) → Talk (Unit {0})
each [] f = return tt
each (x ∷ xs) f = f x >> each xs f

-- "The walk": a conversation of Selects only (Walk), as a Talk.
unfoldable pub walking : {A : Type 0} → Walk A → Talk A
walking (Walk.return a) = return a
walking (Walk.stop c) = stop c []
walking (Walk.select p f) = ask (select p) (λ h. walking (f h))

-- "the operation succeeds": with no value, what a Select heard, the attached id (or none), the ids found, or the device
-- information.
pub data Outcome : Type 0 where
  quiet : Outcome
  heard : Heard → Outcome
  attached : Option Id → Outcome
  found : List Id → Outcome
  knows : Info → Outcome
