-- A lemma for each way through a run, with the facts known there as its premises.
use Rattle.std.proofs.Common.{◌≡◌, ℕ, ◌+◌, ◌-◌, ◌%◌, Bool, true, false, List, [], ◌∷◌, length, get_or, take, drop, replicate, sym, refl, ap, ◌∙◌, arith, eq-eqb, ne_eqb}
use Rattle.lore.proofs.Parts.{part-all}
use Rattle.paper.specs.Log.{prefix_in}
use Rattle.walk_table.specs.declared.Table.{Table}
use Rattle.walk_table.specs.Rows.{no_table}
use Rattle.client.specs.declared.Client.{Client}
use Rattle.client.specs.declared.Refusal.{Refusal}
use Rattle.client.specs.declared.Says.{Says}
use Rattle.client.specs.declared.Says.TheVariants.{Refused}
use Rattle.client.specs.declared.Started.{Started}
use Rattle.client.specs.declared.Told.{Told}
use Rattle.client.specs.Clients.{fresh}
use Rattle.client.specs.Numbers.{number_of}
use Rattle.client_start.specs.Start.{start_discover}
use Rattle.client_request.specs.Request.{Asking, request}
use Rattle.client_record.specs.Record.{record'}
use Rattle.log_run.specs.declared.Stage.TheVariants.{First, Running, Ended}
use Rattle.log_run.specs.declared.Replay.{Replay}
use Rattle.log_run.specs.Run.{code, is_granted, is_onward, begun, ended, stops, handed, room, asked, goes, opens}
use Rattle.log_run.specs.Run.{takes, answer}

pub began : (c : Client) (t : Table) → c ≡ fresh → t ≡ no_table
    → record { client = c; stage = First; selects = 0; found = t } ≡ begun
unfolding begun
began c t ec et = rw (ec, et)

pub code-refused : (says : Says) (r : Refusal) (n : ℕ) → says ≡ Refused r → n ≡ number_of r → n ≡ code says
code-refused says r n q e = e ∙ rw q

-- The answer at the end of the input.
module _ (v : Replay) where
  pub before-first : v.stage ≡ First → record { code = 22; selects = v.selects; found = v.found } ≡ answer v
  unfolding answer
  before-first e = rw e

  pub before-record : v.stage ≡ Running → record { code = 1; selects = v.selects; found = v.found } ≡ answer v
  unfolding answer
  before-record e = rw e

  pub at-end : (k : ℕ) → v.stage ≡ Ended k → record { code = k; selects = v.selects; found = v.found } ≡ answer v
  unfolding answer
  at-end k e = rw e

-- The next Select.
module _ (c : Client) (k : ℕ) (s : Started) (bytes : List ℕ) (t : Table)
    (e : record { answer = s; bytes = bytes } ≡ request c [] (replicate 64 0)) (et : t ≡ no_table) where
  same : handed s k ≡ asked c k
  unfolding room
  same = ap (λ (a : Asking). handed a.answer k) e

  pub handed-out : (b : Bool) (j : ℕ) → b ≡ is_granted s.says → b ≡ true → j ≡ (k + 1) % 65536
      → record { client = s.client; stage = Running; selects = j; found = t } ≡ asked c k
  unfolding handed
  handed-out b j eb q ej = rw (ej, et) (rw (sym eb ∙ q) at same)

  pub asks-ended : (b : Bool) (m : ℕ) (r : Replay) → b ≡ is_granted s.says → b ≡ false → m ≡ code s.says
      → r ≡ ended s.client k t m → r ≡ asked c k
  unfolding handed
  asks-ended b m r eb q em er = er ∙ rw (et, em) (rw (sym eb ∙ q) at same)

-- After a call.
module _ (says : Says) (c : Client) (k : ℕ) (t : Table) (r : Replay) (b : Bool) (eb : b ≡ is_onward says) where
  pub after-onward : b ≡ true → r ≡ asked c k → r ≡ goes says c k t
  unfolding goes
  after-onward q e = e ∙ rw (sym eb ∙ q)

  pub after-end : (m : ℕ) → b ≡ false → m ≡ code says → r ≡ ended c k t m → r ≡ goes says c k t
  unfolding goes
  after-end m q em e = e ∙ rw (sym eb ∙ q, em)

-- Line one.
module _ (v r : Replay) where
  pub no_byte : (line : List ℕ) → length line ≡ 0 → r ≡ stops v 22 → r ≡ opens v line
  unfolding opens prefix_in
  no_byte [] h e = e
  no_byte (b ∷ bs) h e = absurd (omega arith)

  pub other_byte : (line : List ℕ) → (length line ≡ 0 → ⊥) → (get_or line 0 0 ≡ 1 → ⊥) → r ≡ stops v 22 → r ≡ opens v line
  unfolding opens prefix_in
  other_byte [] n h e = absurd (n refl)
  other_byte (b ∷ bs) n h e = e ∙ rw (ne_eqb b 1 h)

  pub opened : (line : List ℕ) (s : Started) (t : Table) → (length line ≡ 0 → ⊥) → get_or line 0 0 ≡ 1
      → s ≡ start_discover v.client (take (length line - 1) (drop 1 line)) → t ≡ no_table
      → r ≡ goes s.says s.client v.selects t → r ≡ opens v line
  unfolding opens prefix_in
  opened [] s t n h es et e = absurd (n refl)
  opened (b ∷ bs) s t n h es et e = e ∙ rw (eq-eqb b 1 h, es ∙ ap (start_discover v.client) (part-all 1 (b ∷ bs)), et)

pub took : (v r : Replay) (bytes : List ℕ) (t : Told) → t ≡ record' v.client [] bytes
    → r ≡ goes t.says t.client v.selects t.found → r ≡ takes v bytes
unfolding takes
took v r bytes t et e = e ∙ rw et
