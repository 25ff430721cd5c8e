-- Lemmas for the ways through the handling of a record that the check does not find alone, with the facts known there as
-- their premises.
-- Some premises are only there for the search. A callee's result that appears only in facts over every walk is found by
-- its range.
use Prim.Native.Nat.{ℕ, ◌<◌}
use mathlib.Core.Bool.{Bool, true, false, cond}
use mathlib.Core.List.{List}
use mathlib.Core.Path.{◌≡◌, refl, sym, ◌∙◌}
use lib.ListN.{length}
use Rattle.lore.proofs.Choice.{cond_yes, cond_no}
use Rattle.ids.specs.declared.Id.{Id}
use Rattle.walk_table.specs.declared.Table.{Table}
use Rattle.walk_table.specs.Rows.{no_table}
use Rattle.walk.specs.declared.Walk.{Walk}
use Rattle.walk.specs.declared.Place.{Place}
use Rattle.walk.specs.Moves.{walk_of, place_of}
use Rattle.client.specs.declared.Phase.{Phase}
use Rattle.client.specs.declared.Turn.{Turn}
use Rattle.client.specs.declared.Turn.TheVariants.{Waiting}
use Rattle.client.specs.declared.Client.{Client}
use Rattle.client.specs.declared.Front.{Front}
use Rattle.client.specs.declared.Verdict.{Verdict}
use Rattle.client.specs.declared.Refusal.TheVariants.{OtherImage, OutOfTurn}
use Rattle.client.specs.declared.Outcome.TheVariants as Outcome
use Rattle.client.specs.declared.Says.TheVariants.{Over}
use Rattle.client.specs.declared.Told.{Told}
use Rattle.client.specs.Clients.{on_turn, other_image, holding, refuses, over}
use Rattle.client.specs.Verdicts.{front_of, client_of, told_of}
use Rattle.client.proofs.Ways.{at-waiting}
use Rattle.client_record.specs.Record.{attaches, answered_to, record'}

-- The verdict r gives the answer a, for a client with any walk.
abbrev Tells : Verdict → (Walk → Told) → Type 0
Tells r a = (w : Walk) → told_of r w ≡ a w

-- The same for a walk at place p with any list of n ids.
abbrev TellsAt : Verdict → Place → ℕ → (Walk → Told) → Type 0
TellsAt r p n a = (t : Table) → t.count ≡ n → told_of r (walk_of p t) ≡ a (walk_of p t)

module _ (f g : Front) (l : g.seed < 256) (at : ℕ) (r : Verdict) where
  pub attaches-is : (any : Bool) (x : Id) → ((w : Walk) → client_of g w ≡ holding (client_of f w) any x)
      → Tells r (λ w. over (client_of g w) (Over (Outcome.Attached any)) x no_table at)
      → Tells r (λ w. attaches (client_of f w) any x at)
  unfolding attaches
  attaches-is any x eg e w = e w ∙ rw (eg w)

-- The choice by turn, where the turn is known.
at_turn : {A : Type 0} (t k : Turn) (a : A) (f g : Phase → A) → t ≡ k → on_turn k a f g ≡ on_turn t a f g
at_turn t k a f g e = rw e

module _ (f : Front) (p : Place) (n : ℕ) (r : Verdict) (image bytes : List ℕ) where
  pub decide-out : (k : Turn) → f.turn ≡ k
      → Tells r (λ w. on_turn k (refuses (client_of f w) OutOfTurn) (λ s. refuses (client_of f w) OutOfTurn)
      (λ s. cond (other_image s (length image)) (refuses (client_of f w) OtherImage)
      (answered_to (client_of f w) s image bytes)))
      → TellsAt r p n (λ w. record' (client_of f w) image bytes)
  unfolding record'
  decide-out k e q t c = q (walk_of p t) ∙ at_turn f.turn k _ _ _ e

  module _ (s : Phase) (b : Bool) (e : f.turn ≡ Waiting s) (eb : b ≡ other_image s (length image)) where
    pub decide-other : b ≡ true → Tells r (λ w. refuses (client_of f w) OtherImage)
        → TellsAt r p n (λ w. record' (client_of f w) image bytes)
    unfolding record'
    decide-other h q t c = cond_yes (other_image s (length image)) _ _ _ (sym eb ∙ h) (q (walk_of p t))
        ∙ at-waiting f.turn _ _ _ s e

    pub decide-heard : b ≡ false → TellsAt r p n (λ w. answered_to (client_of f w) s image bytes)
        → TellsAt r p n (λ w. record' (client_of f w) image bytes)
    unfolding record'
    decide-heard h q t c = cond_no (other_image s (length image)) _ _ _ (sym eb ∙ h) (q t c)
        ∙ at-waiting f.turn _ _ _ s e

-- The call by value.
pub record_is : (c : Client) (f : Front) (v : Verdict) (r : Told) (p : Place) (image bytes : List ℕ) → f ≡ front_of c
    → r ≡ told_of v c.walk → p ≡ place_of c.walk
    → TellsAt v p c.walk.found.count (λ w. record' (client_of f w) image bytes) → r ≡ record' c image bytes
record_is c f v r p image bytes ef e ep h = e ∙ (rw (ef, ep) at h c.walk.found refl)
