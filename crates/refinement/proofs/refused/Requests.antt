-- The answer to asking for a request, granted or refused, for every value of the client.
use Prim.Native.Nat.{ℕ}
use mathlib.Core.Bool.{true, cond}
use mathlib.Core.List.{List}
use mathlib.Core.Path.{◌≡◌, refl, sym}
use lib.Dec.{ltb}
use lib.ListN.{length}
use Rattle.paper.specs.Frame.{frame_bytes}
use Rattle.lore.proofs.Choice.{either}
use Rattle.client.specs.declared.Client.{Client}
use Rattle.client.specs.declared.Phase.{Phase}
use Rattle.client.specs.declared.Phase.TheVariants.{Select, Demand, Leave}
use Rattle.client.specs.declared.Refusal.{Refusal}
use Rattle.client.specs.declared.Refusal.TheVariants.{ShortBuffer, OtherImage, OutOfTurn}
use Rattle.client.specs.declared.Says.TheVariants.{Granted, Closing, Refused}
use Rattle.client.specs.declared.Turn.{Turn}
use Rattle.client.specs.declared.Turn.TheVariants.{Idle, Ready, Waiting}
use Rattle.client.specs.Clients.{other_image}
use Rattle.client.specs.Numbers.{number_of}
use Rattle.client.proofs.Ways.{at-idle, at_ready, at-waiting}
use Rattle.client_request.specs.Request.{frame_of, handing, Asking, withheld, granting, asked_for, request}
use Rattle.refinement.specs.Refusals.{keeps}
use Rattle.refinement.proofs.refused.TurnCases.{each_turn, unrefused, same-refusal}

-- A request that is refused leaves the client and the buffer as they were.
record Asks (c : Client) (buffer : List ℕ) (o : Asking) : Type 0 where
  refused : (r : Refusal) → o.answer.says ≡ Refused r
      → (o.answer.client ≡ c) × ((o.bytes ≡ buffer) × (keeps r ≡ true))

module _ (c : Client) (buffer : List ℕ) where
  withheld-asks : (q : Refusal) → keeps q ≡ true → Asks c buffer (withheld c q buffer)
  withheld-asks q h = record { refused = λ r e. (refl, (refl, rw (← same-refusal q r e) h)) }

  handed-asks : (p : Phase) (n : ℕ) (next : Client) (after : List ℕ)
      → Asks c buffer (record { answer = record { says = handing p n; client = next }; bytes = after })
  unfolding handing
  handed-asks (Select s) n next after = record { refused = λ r e. unrefused (Granted n) r refl e }
  handed-asks (Demand j) n next after = record { refused = λ r e. unrefused (Granted n) r refl e }
  handed-asks (Leave reset) n next after = record { refused = λ r e. unrefused (Closing n) r refl e }

  granting-asks : (p : Phase) (bytes : List ℕ) → Asks c buffer (granting c p bytes buffer)
  unfolding granting keeps number_of
  granting-asks p bytes = either (Asks c buffer) (ltb (length buffer) (length bytes))
      (withheld-asks (ShortBuffer (length bytes)) refl) (handed-asks p _ _ _)

module _ (c : Client) (image buffer : List ℕ) where
  request-asks : Asks c buffer (request c image buffer)
  unfolding request asked_for keeps number_of
  request-asks =
      each_turn (λ (t : Turn) (o : Asking). Asks c buffer o) c.front.turn
      (withheld-asks c buffer OutOfTurn refl)
      (λ p. either (Asks c buffer) (other_image p (length image)) (withheld-asks c buffer OtherImage refl)
      (granting-asks c buffer p _))
      (λ p. withheld-asks c buffer OutOfTurn refl)

  pub asked-refused : (r : Refusal) → (request c image buffer).answer.says ≡ Refused r
      → ((request c image buffer).answer.client ≡ c) × (((request c image buffer).bytes ≡ buffer) × (keeps r ≡ true))
  asked-refused = request-asks.refused

  -- "Order: 21, 20, .. 16".
  pub asked-idle : c.front.turn ≡ Idle → request c image buffer ≡ withheld c OutOfTurn buffer
  unfolding request
  asked-idle e = sym (at-idle c.front.turn _ _ _ e)

  pub asked-waiting : (p : Phase) → c.front.turn ≡ Waiting p → request c image buffer ≡ withheld c OutOfTurn buffer
  unfolding request
  asked-waiting p e = sym (at-waiting c.front.turn _ _ _ p e)

  pub asked-ready : (p : Phase) → c.front.turn ≡ Ready p
      → request c image buffer ≡ cond (other_image p (length image)) (withheld c OtherImage buffer)
      (granting c p (frame_bytes (frame_of c p image)) buffer)
  unfolding request asked_for
  asked-ready p e = sym (at_ready c.front.turn _ _ _ p e)
