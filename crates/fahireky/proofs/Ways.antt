-- Lemmas for the exported calls: one for each path through the code.
use Prim.Native.Nat.{ℕ}
use mathlib.Core.List.{List}
use mathlib.Core.Path.{◌≡◌, refl, sym, ◌∙◌, ap, subst}
use lib.ListN.{length}
use Rattle.std.specs.Prelude.{Option, Result}
use Rattle.ids.specs.declared.Id.{Id}
use Rattle.wire.specs.declared.Unwritten.{Unwritten}
use Rattle.text.specs.declared.BadText.{BadText}
use Rattle.text.specs.Texts as Texts
use Rattle.hearing.specs.declared.Hearing.{Hearing}
use Rattle.hearing.specs.Heard.{kind_of, id_in}
use Rattle.walk_table.specs.declared.Table.{Table}
use Rattle.walk.specs.declared.Walk.{Walk}
use Rattle.walk.specs.declared.Place.{Place}
use Rattle.walk.specs.Moves.{place_of, walk_of}
use Rattle.client.specs.declared.Client.{Client}
use Rattle.client.specs.declared.Front.{Front}
use Rattle.client.specs.declared.Opening.{Opening}
use Rattle.client.specs.declared.Verdict.{Verdict}
use Rattle.client.specs.declared.Outcome.TheVariants as Outcome
use Rattle.client.specs.declared.Says.{Says}
use Rattle.client.specs.declared.Says.TheVariants.{Over}
use Rattle.client.specs.declared.Told.{Told}
use Rattle.client.specs.Clients.{attached}
use Rattle.client.specs.Verdicts.{front_of, client_of, started_of, told_of}
use Rattle.client_request.specs.Request.{Asking, request}
use Rattle.host_state.specs.State as State
use Rattle.host_state.specs.State.{loaded}
use Rattle.host_buffers.specs.Codes.{Coded, written_code, writes, read_uid, key_code}
use Rattle.host_buffers.specs.Hosts.{short_code, Exported, told_by, leaves, Tells, tells, handed, asks, requests}
use Rattle.host_buffers.specs.Hosts.{shows, shows_attached, views, said_of, hears_out}
use Rattle.host_buffers.proofs.Ways.{lent-short, lent-none, tells_is}
use Rattle.std.proofs.Common.{Option, Some, None}

-- A state or an answer's buffer that is too short.
module _ (s a : List ℕ) (k : ℕ) (o : Option ℕ) (e : o ≡ short_code (length s) (length a)) (q : o ≡ Some k) where
  pub requests-short : (image b : List ℕ)
      → record { code = k; state = s; buffer = b; answer = a } ≡ requests image s b a
  unfolding requests
  requests-short image b = lent-short (length s) (length a)
      (λ (code : ℕ). record { code = code; state = s; buffer = b; answer = a })
      (asks (request (loaded s) image b) s a) k (sym e ∙ q)

  pub views-short : record { code = k; bytes = a } ≡ views s a
  unfolding views
  views-short = lent-short (length s) (length a) (λ (code : ℕ). record { code = code; bytes = a })
      (shows_attached (attached (loaded s)) a) k (sym e ∙ q)

-- Both are long enough: the decision on the front and the place is that of the call on the client in the state.
module _ (s a : List ℕ) (short : Option ℕ) (f : Front) (e : short ≡ short_code (length s) (length a))
    (z : short ≡ None) (ef : f ≡ front_of (loaded s)) where
  pub views-is : (r : Coded) → r ≡ shows (Over (Outcome.Attached f.attached)) f.id a → r ≡ views s a
  unfolding views shows_attached attached
  views-is r er =
      er
      ∙ ap (λ (g : Front). shows (Over (Outcome.Attached g.attached)) g.id a) ef
      ∙ lent-none (length s) (length a) (λ (code : ℕ). record { code = code; bytes = a })
      (shows_attached (attached (loaded s)) a) (sym e ∙ z)

  pub requests-is : (p : Place) (image b b' s' a' : List ℕ) (r : ℕ) (o : Opening) → p ≡ place_of (loaded s).walk
      → ((t : Table) → record { answer = started_of o (walk_of p t); bytes = b' }
      ≡ request (client_of f (walk_of p t)) image b)
      → record { code = r; state = s'; answer = a' } ≡ leaves (told_by (started_of o (loaded s).walk)) s a
      → record { code = r; state = s'; buffer = b'; answer = a' } ≡ requests image s b a
  unfolding requests asks handed
  requests-is p image b b' s' a' r o ep eo er =
      ap (λ (x : Exported). handed x b') er
      ∙ ap (λ (x : Asking). asks x s a)
      (subst (λ (w : Walk). record { answer = started_of o w; bytes = b' } ≡ request (client_of f w) image b)
      (ap (λ (q : Place). walk_of q (loaded s).walk.found) ep) (eo (loaded s).walk.found)
      ∙ ap (λ (g : Front). request (client_of g (loaded s).walk) image b) ef)
      ∙ lent-none (length s) (length a) (λ (code : ℕ). record { code = code; state = s; buffer = b; answer = a })
      (asks (request (loaded s) image b) s a) (sym e ∙ z)

-- A verdict on the place and the count holds for the list in the state.
pub records_is : (s a : List ℕ) (r : Exported) (d : Client → Told) (gives : Verdict → Type 0) → Tells gives s a r
    → ((v : Verdict) → gives v → (t : Table) → t.count ≡ (loaded s).walk.found.count
    → told_of v (walk_of (place_of (loaded s).walk) t)
    ≡ d (client_of (front_of (loaded s)) (walk_of (place_of (loaded s).walk) t))) → r ≡ tells d s a
records_is s a r d gives t e = tells_is s a r d gives t (λ v g. e v g (loaded s).walk.found refl)

-- A call without a state.
module _ (X : Hearing) (a : List ℕ) (n : ℕ) (o : Option ℕ) (en : n ≡ State.size) (e : o ≡ short_code n (length a)) where
  unlent : short_code State.size (length a) ≡ o
  unlent = sym (e ∙ ap (λ (i : ℕ). short_code i (length a)) en)

  pub hears-short : (k : ℕ) → o ≡ Some k → record { code = k; bytes = a } ≡ hears_out X a
  unfolding hears_out
  hears-short k q = lent-short State.size (length a) (λ (code : ℕ). record { code = code; bytes = a })
      (shows (said_of (kind_of X)) (id_in X) a) k (unlent ∙ q)

  pub hears-is : (x : Hearing) (w : Says) (r : Coded) → o ≡ None → x ≡ X → w ≡ said_of (kind_of x) → r ≡ shows w (id_in x) a
      → r ≡ hears_out X a
  unfolding hears_out
  hears-is x w r z ex ew er =
      er
      ∙ ap (λ (v : Says). shows v (id_in x) a) ew
      ∙ ap (λ (y : Hearing). shows (said_of (kind_of y)) (id_in y) a) ex
      ∙ lent-none State.size (length a) (λ (code : ℕ). record { code = code; bytes = a })
      (shows (said_of (kind_of X)) (id_in X) a) (unlent ∙ z)

-- Ids, texts and keys.
pub writes-is : (o : Texts.Outcome) (w : Result ℕ Unwritten) (b : List ℕ) (r : ℕ) → record { answer = w; bytes = b } ≡ o
    → r ≡ written_code w → record { code = r; bytes = b } ≡ writes o
unfolding writes
writes-is o w b r eo er = rw er (ap writes eo)

pub read_is : (p q : Result Id BadText) (b : List ℕ) (r : Coded) → p ≡ q → r ≡ read_uid p b → r ≡ read_uid q b
read_is p q b r e er = rw e at er

pub key-is : (x y : Option ℕ) (r : ℕ) → x ≡ y → r ≡ key_code x → r ≡ key_code y
key-is x y r e er = rw e at er
