-- The numbers of an answer fit the bytes that they are written in, so that a host reads them back.
use Prim.Native.Nat.{ℕ, ◌<◌, ◌^◌}
use mathlib.Core.Bool.{Bool, false}
use native.Mathlib.Omega.{arith}
use Rattle.std.specs.Prelude as Std
use Rattle.image.specs.declared.Info.{Info}
use Rattle.client.specs.declared.Progress.{Progress}
use Rattle.client.specs.declared.Says.{Says}
use Rattle.image.specs.InfoBytes.{no_info, InfoFits}
use Rattle.host_turn.proofs.Laws.{no-info-fits}
use Rattle.host_answer.specs.declared.numbers.Note.{Note}
use Rattle.host_answer.specs.declared.numbers.Gain.{Gain}
use Rattle.host_answer.specs.Numbers.{going, ending, refusing, note_of, gain_of}
use Rattle.client.specs.Clients.{some_progress}

pub record NoteFits (n : Note) : Type 0 where
  pub length : n.length < 2 ^ 64
  pub first : n.first < 2 ^ 32
  pub second : n.second < 2 ^ 32
  pub info : InfoFits n.info

pub record GainFits (g : Gain) : Type 0 where
  pub done : g.done < 2 ^ 64
  pub total : g.total < 2 ^ 64

abbrev pub SaysFits : Says → Type 0
SaysFits says = NoteFits (note_of says)

abbrev pub ProgressFits : Std.Option Progress → Type 0
ProgressFits p = GainFits (gain_of p)

pub going-on-fits : (says length : ℕ) → length < 2 ^ 64 → NoteFits (going says length)
unfolding going
going-on-fits says n h = record { length = h; first = omega arith; second = omega arith; info = no-info-fits }

pub going-fits : (says n : ℕ) → n < 2 ^ 64 → NoteFits (going says n)
unfolding going
going-fits says n h = record { length = h; first = omega arith; second = omega arith; info = no-info-fits }

pub ending-fits : (number outcome heard : ℕ) (any : Bool) (info : Info) → InfoFits info
    → NoteFits (ending number outcome heard any info)
unfolding ending
ending-fits number outcome heard any info h =
    record { length = omega arith; first = omega arith; second = omega arith; info = h }

pub refusing-fits : (number : ℕ) (k : Bool) (n first second : ℕ) → n < 2 ^ 64 → first < 2 ^ 32 → second < 2 ^ 32
    → NoteFits (refusing number k n first second)
unfolding refusing
refusing-fits number k n first second hn hf hs = record { length = hn; first = hf; second = hs; info = no-info-fits }

-- A refusal that carries nothing, and an outcome without information.
pub bare-fits : (number : ℕ) → NoteFits (refusing number false 0 0 0)
bare-fits number = refusing-fits number false 0 0 0 (omega arith) (omega arith) (omega arith)

pub end_fits : (number outcome heard : ℕ) (any : Bool) → NoteFits (ending number outcome heard any no_info)
end_fits number outcome heard any = ending-fits number outcome heard any no_info no-info-fits

pub no-progress : ProgressFits Std.None
unfolding gain_of
no-progress = record { done = omega arith; total = omega arith }

pub made-fits : (done total : ℕ) → done < 2 ^ 64 → total < 2 ^ 64 → ProgressFits (some_progress done total)
unfolding gain_of
made-fits done total h k = record { done = h; total = k }
