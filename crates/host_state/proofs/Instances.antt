-- Examples: each theorem with a premise, applied to values that meet it.
use Prim.Native.Nat.{ℕ, zero, suc, ◌<◌}
use mathlib.Core.Bool.{true, false}
use mathlib.Core.List.{[], ◌∷◌, ◌++◌}
use mathlib.Core.Path.{◌≡◌, refl}
use native.Mathlib.Omega.{arith}
use lib.ListN.{length, replicate, length-replicate}
use Rattle.paper.proofs.Words.{Bytes}
use Rattle.ids.specs.Ids.{id_from}
use Rattle.walk.specs.Moves.{no_walk}
use Rattle.client.specs.declared.Client.{Client}
use Rattle.client.specs.declared.Phase.TheVariants.{Select}
use Rattle.client.specs.declared.Search.TheVariants.{Seeking}
use Rattle.client.specs.declared.Turn.TheVariants.{Waiting}
use Rattle.client.specs.Clients.{fresh}
use Rattle.host_turn.specs.Turns.{search_flat, phase_flat, flat_of}
use Rattle.host_turn.proofs.Laws.{selecting-fits}
use Rattle.host_state.specs.State.{saved, loaded, Fits}
use Rattle.host_state.proofs.Laws.{saved-length, loaded-saved, loaded-fits, fresh-fits}

-- A client with seed 255 and the attached id C1 07, whose Select for an attach to C1 is out.
abbrev pub seeking : Client
seeking = record {
  front = record {
    seed = 255;
    attached = true;
    id = id_from (0xC1 ∷ 0x07 ∷ []);
    turn = Waiting (Select (Seeking true));
    prefix = id_from (0xC1 ∷ []);
    bits = 0;
  };
  walk = no_walk;
}

filled : (b n : ℕ) → b < 256 → Bytes (replicate n b)
filled b zero h = tt
filled b (suc n) h = (h, filled b n h)

pub seeking-fits : Fits seeking
unfolding fresh id_from flat_of phase_flat search_flat
seeking-fits = record {
  seed = omega arith;
  id = record { bytes = (refl, (omega arith, (omega arith, filled 0 14 (omega arith)))); len = omega arith };
  turn = selecting-fits 2 (omega arith) 2 0 true false (omega arith) (omega arith);
  prefix = record { bytes = (refl, (omega arith, filled 0 15 (omega arith))); len = omega arith };
  bits = omega arith;
  walk = fresh-fits.walk;
}

pub saved-length-met : length (saved seeking) ≡ 1352
saved-length-met = saved-length seeking seeking-fits

pub loaded-saved-met : loaded (saved seeking ++ (0x99 ∷ [])) ≡ seeking
loaded-saved-met = loaded-saved seeking seeking-fits (0x99 ∷ [])

-- Bytes that were not saved from a client.
pub loaded-fits-met : Fits (loaded (replicate 1353 0x99))
loaded-fits-met = loaded-fits (replicate 1353 0x99) (filled 0x99 1353 (omega arith))
    (omega (arith, length-replicate {A = ℕ} 1353 0x99))
