-- Lemmas for what an exported call leaves: one for each path through the code.
use Prim.Native.Nat.{ℕ, ◌≤◌}
use mathlib.Core.Bool.{Bool, true, false, cond}
use Rattle.std.proofs.Common.{Option, Some, None, IfSome, IfNone}
use mathlib.Core.List.{List, ◌++◌, append_assoc}
use mathlib.Core.Path.{◌≡◌, refl, sym, ◌∙◌, ap}
use native.Mathlib.Omega.{arith}
use lib.Dec.{ltb}
use lib.ListN.{length, take, drop}
use lib.Seq.{drop_at, length-take-le}
use borrow.Author.Tests.{le-ltb}
use Rattle.ids.specs.declared.Id.{Id}
use Rattle.ids.specs.Ids.{no_id}
use Rattle.walk_table.specs.declared.Table.{Table}
use Rattle.walk_table.specs.Rows.{no_table, giving}
use Rattle.walk.specs.declared.Walk.{Walk}
use Rattle.paper.proofs.Fields.{behind}
use Rattle.client.specs.declared.Says.{Says}
use Rattle.client.specs.declared.Progress.{Progress}
use Rattle.client.specs.declared.Front.{Front}
use Rattle.client.specs.declared.Opening.{Opening}
use Rattle.client.specs.declared.Change.{Change}
use Rattle.client.specs.declared.Change.TheVariants.{Same, Moves, Keeps, Gives, Clears}
use Rattle.client.specs.declared.Verdict.{Verdict}
use Rattle.client.specs.Verdicts.{client_of, renewed, started_of, changed, given, told_of}
use Rattle.client.specs.Numbers.{changes_no_state}
use Rattle.host_answer.specs.declared.numbers.Note.{Note}
use Rattle.host_answer.specs.Numbers.{note_of}
use Rattle.host_buffers.specs.Codes.{coded}
use Rattle.host_state.specs.State as State
use Rattle.host_state.specs.State.{saved_table, saved_walk, saved_front, saved, loaded_table, loaded_walk, loaded, with_walk}
use Rattle.host_answer.specs.AnswerBytes as AnswerBytes
use Rattle.host_answer.specs.AnswerBytes.{fronted, listed, shown}
use Rattle.host_answer.proofs.Ways.{put_of}
use Rattle.host_buffers.specs.Hosts.{code_of, lent, short_code, told_by, Exported, leaves, Starts, Tells, tells, starts}
use Rattle.host_buffers.specs.Hosts.{shows}
use Rattle.client.specs.declared.Client.{Client}
use Rattle.client.specs.declared.Started.{Started}
use Rattle.client.specs.declared.Told.{Told}

-- What the code for short buffers says about the two tests.
one_of : {A : Type 0} (short : ℕ → A) (enough : A) (b d : Bool) (x y k : ℕ)
    → cond b (Some x) (cond d (Some y) None) ≡ Some k → short k ≡ cond b (short x) (cond d (short y) enough)
one_of short enough true d x y k e = cc
one_of short enough false true x y k e = cc
one_of short enough false false x y k e = absurd cc

neither : {A : Type 0} (short : ℕ → A) (enough : A) (b d : Bool) (x y : ℕ)
    → cond b (Some x) (cond d (Some y) None) ≡ None → enough ≡ cond b (short x) (cond d (short y) enough)
neither short enough true d x y e = absurd cc
neither short enough false true x y e = absurd cc
neither short enough false false x y e = refl

module _ (n m : ℕ) {A : Type 0} (short : ℕ → A) (enough : A) where
  pub lent-short : (k : ℕ) → short_code n m ≡ Some k → short k ≡ lent n m short enough
  unfolding short_code lent
  lent-short k = one_of short enough (ltb n State.size) (ltb m AnswerBytes.size) (coded 16 State.size)
      (coded 16 AnswerBytes.size) k

  pub lent-none : short_code n m ≡ None → enough ≡ lent n m short enough
  unfolding short_code lent
  lent-none = neither short enough (ltb n State.size) (ltb m AnswerBytes.size) (coded 16 State.size)
      (coded 16 AnswerBytes.size)

pub lent-enough : {A : Type 0} (n m : ℕ) (short : ℕ → A) (enough : A) → State.size ≤ n → AnswerBytes.size ≤ m
    → enough ≡ lent n m short enough
unfolding lent
lent-enough n m short enough hn hm = rw (le-ltb n State.size hn, le-ltb m AnswerBytes.size hm)

-- The same for a start and for a record, where every opening or verdict that is allowed is that of the call on the
-- client in the state.
module _ (s a : List ℕ) (r : Exported) where
  pub tells_is : (d : Client → Told) (gives : Verdict → Type 0) → Tells gives s a r
      → ((v : Verdict) → gives v → told_of v (loaded s).walk ≡ d (loaded s)) → r ≡ tells d s a
  unfolding tells
  tells_is d gives t e = go (short_code (length s) (length a)) refl t.short t.decided
    where
      go : (o : Option ℕ) → short_code (length s) (length a) ≡ o
          → IfSome o (λ code. r ≡ record { code = code; state = s; answer = a })
          → IfNone o ((v : Verdict) × gives v × (r ≡ leaves (told_of v (loaded s).walk) s a))
          → r ≡ lent (length s) (length a) (λ code. record { code = code; state = s; answer = a })
          (leaves (d (loaded s)) s a)
      go (Some k) q short decided = short ∙ lent-short (length s) (length a)
          (λ (code : ℕ). record { code = code; state = s; answer = a }) (leaves (d (loaded s)) s a) k q
      go None q short (v, g, k) = k ∙ ap (λ (t : Told). leaves t s a) (e v g) ∙ lent-none (length s) (length a)
          (λ (code : ℕ). record { code = code; state = s; answer = a }) (leaves (d (loaded s)) s a) q

  pub starts_is : (d : Client → Started) (gives : Opening → Type 0) → Starts gives s a r
      → ((o : Opening) → gives o → started_of o (loaded s).walk ≡ d (loaded s)) → r ≡ starts d s a
  unfolding starts tells
  starts_is d gives t e = go (short_code (length s) (length a)) refl t.short t.decided
    where
      go : (o : Option ℕ) → short_code (length s) (length a) ≡ o
          → IfSome o (λ code. r ≡ record { code = code; state = s; answer = a })
          → IfNone o ((p : Opening) × gives p × (r ≡ leaves (told_by (started_of p (loaded s).walk)) s a))
          → r ≡ lent (length s) (length a) (λ code. record { code = code; state = s; answer = a })
          (leaves (told_by (d (loaded s))) s a)
      go (Some k) q short decided = short ∙ lent-short (length s) (length a)
          (λ (code : ℕ). record { code = code; state = s; answer = a }) (leaves (told_by (d (loaded s))) s a) k q
      go None q short (p, g, k) = k ∙ ap (λ (t : Started). leaves (told_by t) s a) (e p g)
          ∙ lent-none (length s) (length a)
          (λ (code : ℕ). record { code = code; state = s; answer = a }) (leaves (told_by (d (loaded s))) s a) q

-- The answer of a call, and its code.
module _ (says : Says) (n : Note) (r : ℕ) (en : n ≡ note_of says) (er : r ≡ coded n.number n.length)
    (a a₁ a₂ : List ℕ) (room : AnswerBytes.size ≤ length a) (l₁ : length a₁ ≡ length a)
    (l₂ : length a₂ ≡ length a₁) where
  code_is : r ≡ code_of says
  unfolding code_of
  code_is = rw en at er

  answered : (progress : Option Progress) (x : Id) (rest : ℕ) (t : Table) → a₁ ≡ fronted n progress x rest ++ drop 83 a
      → a₂ ≡ listed t a₁ → a₂ ≡ shown says progress x t rest ++ drop AnswerBytes.size a
  unfolding listed shown fronted
  answered progress x rest t e₁ e₂ =
      (behind (omega arith) (put_of 0 83 (fronted n progress x rest) a a₁ (omega arith) l₁ e₁)
      (put_of 83 1096 (saved_table t) a₁ a₂ (omega arith) l₂ e₂)).holds ∙ rw en

  pub shows-is : (x : Id) → a₁ ≡ fronted n None x 0 ++ drop 83 a → a₂ ≡ listed no_table a₁
      → record { code = r; bytes = a₂ } ≡ shows says x a
  unfolding shows
  shows-is x e₁ e₂ = rw (code_is, answered None x 0 no_table e₁ e₂)

  -- What a call leaves, from the front and the walk of the client after it.
  module _ (s : List ℕ) (b : Bool) (eb : b ≡ changes_no_state n.number) where
    changes : b ≡ changes_no_state (note_of says).number
    changes = eb ∙ ap (λ (m : Note). changes_no_state m.number) en

    left : (progress : Option Progress) (x : Id) (rest : ℕ) (t : Table) (f : Front) (w : Walk) (s₂ : List ℕ)
        → a₁ ≡ fronted n progress x rest ++ drop 83 a → a₂ ≡ listed t a₁
        → s₂ ≡ cond b s (saved (client_of f w) ++ drop State.size s)
        → record { code = r; state = s₂; answer = a₂ }
        ≡ leaves (record { says = says; client = client_of f w; rest = rest; progress = progress; id = x; found = t }) s
        a
    unfolding leaves
    left progress x rest t f w s₂ e₁ e₂ e₃ = rw (code_is, answered progress x rest t e₁ e₂, e₃, changes)

-- The state with another walk and another front.
saved-in : (f : Front) (w : Walk) (s s₁ s₂ : List ℕ) → State.size ≤ length s → s₁ ≡ with_walk w s
    → s₂ ≡ saved_front f ++ drop 87 s₁ → s₂ ≡ saved (client_of f w) ++ drop State.size s
unfolding with_walk saved
saved-in f w s s₁ s₂ room e₁ e₂ =
    e₂
    ∙ ap (λ (l : List ℕ). saved_front f ++ drop 87 l) (e₁ ∙ append_assoc (take 87 s) (saved_walk w) (drop State.size s))
    ∙ ap (λ (l : List ℕ). saved_front f ++ l)
    (drop_at (take 87 s) (saved_walk w ++ drop State.size s) 87 (length-take-le 87 s (omega arith)))
    ∙ sym (append_assoc (saved_front f) (saved_walk w) (drop State.size s))

module _ (n : Note) (r : ℕ) (er : r ≡ coded n.number n.length) (s a a₁ a₂ : List ℕ)
    (room_s : State.size ≤ length s) (room_a : AnswerBytes.size ≤ length a) (l₁ : length a₁ ≡ length a)
    (l₂ : length a₂ ≡ length a₁)
    (b : Bool) (eb : b ≡ changes_no_state n.number) where
  module _ (v : Verdict) (en : n ≡ note_of v.says) (e₁ : a₁ ≡ fronted n v.progress v.id v.rest ++ drop 83 a)
      (e₂ : a₂ ≡ listed (given v.change (loaded s).walk) a₁) where
    pub told-kept : b ≡ true → record { code = r; state = s; answer = a₂ } ≡ leaves (told_of v (loaded s).walk) s a
    told-kept h = left v.says n r en er a a₁ a₂ room_a l₁ l₂ s b eb v.progress v.id v.rest _
        v.front _ s e₁ e₂ (rw h)

    pub told-saved : (s₁ s₂ : List ℕ) → b ≡ false → s₁ ≡ with_walk (changed v.change (loaded_walk 87 s)) s
        → s₂ ≡ saved_front v.front ++ drop 87 s₁
        → record { code = r; state = s₂; answer = a₂ } ≡ leaves (told_of v (loaded s).walk) s a
    unfolding loaded
    told-saved s₁ s₂ h e₃ e₄ =
        left v.says n r en er a a₁ a₂ room_a l₁ l₂ s b eb v.progress v.id v.rest _ v.front _ s₂ e₁ e₂
        (rw h (saved-in v.front (changed v.change (loaded_walk 87 s)) s s₁ s₂ room_s e₃ e₄))

  module _ (o : Opening) (x : Id) (ex : x ≡ no_id) (en : n ≡ note_of o.says)
      (e₁ : a₁ ≡ fronted n None x 0 ++ drop 83 a) (e₂ : a₂ ≡ listed no_table a₁) where
    e₁' : a₁ ≡ fronted n None no_id 0 ++ drop 83 a
    e₁' = rw ex at e₁

    pub started-kept : b ≡ true → record { code = r; state = s; answer = a₂ }
        ≡ leaves (told_by (started_of o (loaded s).walk)) s a
    unfolding told_by
    started-kept h = left o.says n r en er a a₁ a₂ room_a l₁ l₂ s b eb None no_id 0 no_table o.front _ s e₁' e₂
        (rw h)

    pub started-saved : (s₁ s₂ : List ℕ) → b ≡ false
        → s₁ ≡ with_walk (renewed o.begins (loaded_walk 87 s)) s → s₂ ≡ saved_front o.front ++ drop 87 s₁
        → record { code = r; state = s₂; answer = a₂ } ≡ leaves (told_by (started_of o (loaded s).walk)) s a
    unfolding told_by loaded
    started-saved s₁ s₂ h e₃ e₄ =
        left o.says n r en er a a₁ a₂ room_a l₁ l₂ s b eb None no_id 0 no_table o.front _ s₂ e₁' e₂
        (rw h (saved-in o.front (renewed o.begins (loaded_walk 87 s)) s s₁ s₂ room_s e₃ e₄))

-- The answer's list.
module _ (c : Change) (s a r : List ℕ) where
  pub list-none : (c ≡ Gives → ⊥) → r ≡ listed no_table a → r ≡ listed (given c (loaded s).walk) a
  list-none n h = h ∙ ap (λ (t : Table). listed t a) (go c n)
    where
      go : (x : Change) → (x ≡ Gives → ⊥) → no_table ≡ given x (loaded s).walk
      go Same n = refl
      go (Moves p) n = refl
      go (Keeps p x) n = refl
      go Gives n = absurd (n refl)
      go Clears n = refl

  pub list-given : c ≡ Gives → r ≡ listed (giving (loaded_table 239 s)) a
      → r ≡ listed (given c (loaded s).walk) a
  unfolding loaded loaded_walk
  list-given e h = h ∙ rw e
