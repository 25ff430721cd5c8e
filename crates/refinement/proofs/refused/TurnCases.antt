-- Case analysis on a turn and on a call's answer.
use mathlib.Core.Bool.{Bool, true, false}
use mathlib.Core.Path.{◌≡◌, ap}
use Rattle.lore.proofs.Choice.{clash}
use Rattle.client.specs.declared.Phase.{Phase}
use Rattle.client.specs.declared.Refusal.{Refusal}
use Rattle.client.specs.declared.Says.{Says}
use Rattle.client.specs.declared.Says.TheVariants.{Granted, Closing, Onward, Over, Refused}
use Rattle.client.specs.declared.Turn.{Turn}
use Rattle.client.specs.declared.Turn.TheVariants.{Idle, Ready, Waiting}
use Rattle.client.specs.Clients.{on_turn}

-- What holds in each of the three turns holds in any turn.
pub each_turn : {A : Type 0} (P : Turn → A → Type 0) (t : Turn) {a : A} {f g : Phase → A} → P Idle a
    → ((p : Phase) → P (Ready p) (f p)) → ((p : Phase) → P (Waiting p) (g p))
    → P t (on_turn t a f g)
each_turn P Idle i r w = i
each_turn P (Ready p) i r w = r p
each_turn P (Waiting p) i r w = w p

abbrev pub is_refused : Says → Bool
is_refused (Granted n) = false
is_refused (Closing n) = false
is_refused Onward = false
is_refused (Over o) = false
is_refused (Refused r) = true

pub unrefused : {A : Type 0} (s : Says) (r : Refusal) → is_refused s ≡ false → s ≡ Refused r → A
unrefused s r h e = clash (is_refused s) (ap is_refused e) h

pub same-refusal : (q r : Refusal) → Refused q ≡ Refused r → q ≡ r
same-refusal q r e = cc
