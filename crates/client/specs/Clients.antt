-- The client's record after each step, and the answers, for every record: also one that no calls lead to.
use Rattle.std.specs.Prelude as Std
use Rattle.std.specs.Prelude.{ℕ, Bool, cond, true, false, not, eqb}
use Rattle.ids.specs.declared.Id.{Id}
use Rattle.ids.specs.Ids.{no_id}
use Rattle.walk_table.specs.declared.Table.{Table}
use Rattle.walk_table.specs.Rows.{no_table}
use Rattle.walk.specs.declared.Walk.{Walk}
use Rattle.walk.specs.declared.Phase as Walk
use Rattle.walk.specs.Moves.{no_walk}
use Rattle.image.specs.declared.Info.{Info}
use Rattle.client.specs.declared.Search.{Search}
use Rattle.client.specs.declared.Search.TheVariants.{Probing, Parting, Seeking, Backing, Walking}
use Rattle.client.specs.declared.Purpose.{Purpose}
use Rattle.client.specs.declared.Purpose.TheVariants.{Tell, Clear, Load}
use Rattle.client.specs.declared.Reset.{Reset}
use Rattle.client.specs.declared.Job.{Job}
use Rattle.client.specs.declared.Job.TheVariants.{Informing, Erasing, Writing, Verifying, Resetting}
use Rattle.client.specs.declared.Phase.{Phase}
use Rattle.client.specs.declared.Phase.TheVariants.{Select, Demand, Leave}
use Rattle.client.specs.declared.Turn.{Turn}
use Rattle.client.specs.declared.Turn.TheVariants.{Idle, Ready, Waiting}
use Rattle.client.specs.declared.Client.{Client}
use Rattle.client.specs.declared.Refusal.{Refusal}
use Rattle.client.specs.declared.Says.{Says}
use Rattle.client.specs.declared.Says.TheVariants.{Onward, Refused}
use Rattle.client.specs.declared.Progress.{Progress}
use Rattle.client.specs.declared.Started.{Started}
use Rattle.client.specs.declared.Told.{Told}
use Rattle.client.specs.declared.Attached.{Attached}

-- A value for each case.
abbrev pub on_turn {ℓ} : {A : Type ℓ} → Turn → A → (Phase → A) → (Phase → A) → A
on_turn Idle i r w = i
on_turn (Ready p) i r w = r p
on_turn (Waiting p) i r w = w p

abbrev pub on_search {ℓ} : {A : Type ℓ} → Search → A → A → (Bool → A) → (Bool → A) → (Walk.Phase → A) → A
on_search Probing p d s b w = p
on_search Parting p d s b w = d
on_search (Seeking given) p d s b w = s given
on_search (Backing given) p d s b w = b given
on_search (Walking q) p d s b w = w q

abbrev pub on_purpose {ℓ} : {A : Type ℓ} → Purpose → A → A → (ℕ → A) → A
on_purpose Tell t c l = t
on_purpose Clear t c l = c
on_purpose (Load n) t c l = l n

abbrev pub on_job {ℓ} : {A : Type ℓ} → Job → (Purpose → A) → (Purpose → Info → ℕ → A) → (ℕ → Info → ℕ → ℕ → A)
    → (ℕ → Info → A) → (Reset → A) → A
on_job (Informing why) i e w v r = i why
on_job (Erasing why info address) i e w v r = e why info address
on_job (Writing n info offset retries) i e w v r = w n info offset retries
on_job (Verifying n info) i e w v r = v n info
on_job (Resetting reset) i e w v r = r reset

abbrev pub on_phase {ℓ} : {A : Type ℓ} → Phase → (Search → A) → (Job → A) → (Reset → A) → A
on_phase (Select s) f g h = f s
on_phase (Demand j) f g h = g j
on_phase (Leave r) f g h = h r

-- Whether an image of n bytes has another length than the one that a flash was started with.
unfoldable pub differs : Purpose → ℕ → Bool
differs why n = on_purpose why false false (λ m. not (eqb m n))

-- The same for a job. Only the jobs of a flash have an image.
unfoldable pub other_for : Job → ℕ → Bool
other_for j n = on_job j (λ why. differs why n) (λ why info address. differs why n)
    (λ m info offset retries. not (eqb m n)) (λ m info. not (eqb m n)) (λ reset. false)

-- The same for any phase: false where no flash runs.
unfoldable pub other_image : Phase → ℕ → Bool
other_image p n = on_phase p (λ s. false) (λ j. other_for j n) (λ reset. false)

-- The client with another turn, prefix, bit count and walk.
abbrev pub begun : Client → Turn → Id → ℕ → Walk → Client
begun c t x bits w = record {
  front = record {
    seed = c.front.seed;
    attached = c.front.attached;
    id = c.front.id;
    turn = t;
    prefix = x;
    bits = bits;
  };
  walk = w;
}

unfoldable pub fresh : Client
fresh = record {
  front = record { seed = 0; attached = false; id = no_id; turn = Idle; prefix = no_id; bits = 0 };
  walk = no_walk;
}

-- No operation runs: the prefix, the bit count and the walk are zero.
unfoldable pub idle : Client → Client
idle c = begun c Idle no_id 0 no_walk

-- The same operation in another turn.
abbrev pub turned : Client → Turn → Client
turned c t = begun c t c.front.prefix c.front.bits c.walk

-- The client with another attached id, or none.
abbrev pub holding : Client → Bool → Id → Client
holding c any x = record {
  front = record {
    seed = c.front.seed;
    attached = any;
    id = x;
    turn = c.front.turn;
    prefix = c.front.prefix;
    bits = c.front.bits;
  };
  walk = c.walk;
}

unfoldable pub cleared : Client → Client
cleared c = holding c false no_id

-- Whether an id is attached, and the id that the client has, with the flag or without it.
unfoldable pub attached : Client → Attached
attached c = record { any = c.front.attached; id = c.front.id }

-- The attached id, if there is one.
unfoldable pub known : Attached → Std.Option Id
known a = cond a.any (Std.Some a.id) Std.None

unfoldable pub running : Turn → Bool
running t = on_turn t false (λ p. true) (λ p. true)

-- Progress: so much of the total is done.
abbrev pub some_progress : ℕ → ℕ → Std.Option Progress
some_progress done total = Std.Some (record { done = done; total = total })

-- A start or a request is refused, and no state changes.
abbrev pub refuse : Client → Refusal → Started
refuse c r = record { says = Refused r; client = c }

-- A record is refused, and no state changes. The unread rest is the whole record.
abbrev pub refuses : Client → Refusal → Told
refuses c r = record { says = Refused r; client = c; rest = 0; progress = Std.None; id = no_id; found = no_table }

-- The operation has ended, with an id and a list in the answer. The unread rest begins at the place given.
unfoldable pub over : Client → Says → Id → Table → ℕ → Told
over c says x t at = record { says = says; client = idle c; rest = at; progress = Std.None; id = x; found = t }

-- The operation has ended, with no id and no list in the answer.
abbrev pub stops : Client → Says → ℕ → Told
stops c says at = over c says no_id no_table at

-- The operation goes on with another request, and with this walk.
unfoldable pub onward : Client → Phase → Walk → ℕ → Told
onward c p w at = record {
  says = Onward;
  client = begun c (Ready p) c.front.prefix c.front.bits w;
  rest = at;
  progress = Std.None;
  id = no_id;
  found = no_table;
}

-- The same answer with this progress.
abbrev pub making : Told → Std.Option Progress → Told
making t progress = record {
  says = t.says;
  client = t.client;
  rest = t.rest;
  progress = progress;
  id = t.id;
  found = t.found;
}
