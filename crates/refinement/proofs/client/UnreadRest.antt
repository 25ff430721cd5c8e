-- Bytes after an answer do not change the code's answer: they may be handed in with it or kept as the unread rest.
use Prim.Native.Nat.{ℕ}
use mathlib.Core.Bool.{Bool, true, false, cond}
use mathlib.Core.List.{List, ◌++◌}
use mathlib.Core.Path.{◌≡◌, refl, sym, ◌∙◌, ap}
use lib.ListN.{length, drop}
use Rattle.std.specs.Prelude.{Result, Ok, Err}
use Rattle.paper.specs.Answers.{Reply, answered, ok, device, answer}
use Rattle.theory.proofs.client.UnreadRest.{answer-appends, rest-appends}
use Rattle.client.specs.declared.Client.{Client}
use Rattle.client.specs.declared.Job.{Job}
use Rattle.client.specs.declared.Phase.TheVariants.{Demand}
use Rattle.client.specs.declared.Refusal.{Refusal}
use Rattle.client.specs.declared.Refusal.TheVariants.{OtherImage}
use Rattle.client.specs.declared.Told.{Told}
use Rattle.client.specs.declared.Turn.TheVariants.{Waiting}
use Rattle.client.specs.Clients.{other_image, refuses, over, onward}
use Rattle.client.proofs.Ways.{at-waiting}
use Rattle.client_job.specs.declared.Next.{Next}
use Rattle.client_job.specs.declared.Then.{Then}
use Rattle.client_job.specs.declared.Then.TheVariants.{On, Over}
use Rattle.client_job.specs.Job.{accepted, declined}
use Rattle.client_record.specs.Answer.{goes, tells}
use Rattle.client_record.specs.Record.{answered_to, record'}

goes-rest : (c : Client) (next : Next) (at : ℕ) → (goes c next at).rest ≡ at
unfolding goes over onward
goes-rest c next at = go next.then
  where
    go : (t : Result Then Refusal) → (goes c (record { progress = next.progress; then = t }) at).rest ≡ at
    go (Ok (On job)) = refl
    go (Ok (Over o)) = refl
    go (Err r) = refl

-- Any client with a job's request out.
module _ (c : Client) (j : Job) (out : c.front.turn ≡ Waiting (Demand j)) (image : List ℕ) where
  next : Reply → Next
  next (ok payload) = accepted j payload image
  next (device status) = declined j status

  tells-answered : (bytes : List ℕ) (r : Reply) (end : ℕ) → answer bytes ≡ answered r end
      → tells c j image bytes ≡ goes c (next r) end
  unfolding tells next
  tells-answered bytes (ok payload) end e = rw e
  tells-answered bytes (device status) end e = rw e

  abbrev judged : Reply → ℕ → Told
  judged r end = cond (other_image (Demand j) (length image)) (refuses c OtherImage) (goes c (next r) end)

  record-answered : (bytes : List ℕ) (r : Reply) (end : ℕ) → answer bytes ≡ answered r end
      → record' c image bytes ≡ judged r end
  unfolding record' answered_to
  record-answered bytes r end e =
      sym (at-waiting c.front.turn _ _ _ (Demand j) out)
      ∙ ap (λ (t : Told). cond (other_image (Demand j) (length image)) (refuses c OtherImage) t)
      (tells-answered bytes r end e)

  module _ (a x : List ℕ) (r : Reply) (end : ℕ) (e : answer a ≡ answered r end) where
    pub record-either-way : record' c image (a ++ x) ≡ record' c image a
    record-either-way = record-answered (a ++ x) r end (answer-appends x a r end e) ∙ sym (record-answered a r end e)

    pub rest-either-way : drop (record' c image (a ++ x)).rest (a ++ x) ≡ drop (record' c image a).rest a ++ x
    rest-either-way = rw (record-either-way, record-answered a r end e) (go (other_image (Demand j) (length image)))
      where
        go : (b : Bool) → drop (cond b (refuses c OtherImage) (goes c (next r) end)).rest (a ++ x)
            ≡ drop (cond b (refuses c OtherImage) (goes c (next r) end)).rest a ++ x
        go true = refl
        go false = rw (goes-rest c (next r) end) (rest-appends x a r end e)
