-- Lemmas for an answer's numbers: one for each path through the code.
use Prim.Native.Nat.{ℕ}
use mathlib.Core.Bool.{Bool, false}
use mathlib.Core.Path.{◌≡◌}
use Rattle.image.specs.declared.Info.{Info}
use Rattle.client.specs.declared.Refusal.{Refusal}
use Rattle.client.specs.Numbers.{number_of}
use Rattle.image.specs.InfoBytes.{no_info}
use Rattle.host_answer.specs.declared.numbers.Note.{Note}
use Rattle.host_answer.specs.Numbers.{going, ending, refusing, refusal_note}

pub going-is : (says length : ℕ) (i : Info) → i ≡ no_info
    → ◌≡◌ {A = Note}
    (record {
      number = 0;
      says = says;
      outcome = 0;
      heard = 0;
      any = false;
      key = false;
      length = length;
      first = 0;
      second = 0;
      info = i;
    })
    (going says length)
unfolding going
going-is says length i e = rw e

pub refusing-is : (number length first second : ℕ) (key : Bool) (i : Info) → i ≡ no_info
    → ◌≡◌ {A = Note}
    (record {
      number = number;
      says = 3;
      outcome = 0;
      heard = 0;
      any = false;
      key = key;
      length = length;
      first = first;
      second = second;
      info = i;
    })
    (refusing number key length first second)
unfolding refusing
refusing-is number length first second key i e = rw e

-- An outcome without information.
pub ending-is : (number outcome heard h : ℕ) (any : Bool) (i : Info) (r : Note) → i ≡ no_info → h ≡ heard
    → r ≡ ending number outcome h any i
    → r ≡ ending number outcome heard any no_info
ending-is number outcome heard h any i r ei eh e = rw (ei, eh) at e

pub refusing-with : (number length first second s : ℕ) (key b : Bool) (r : Note) → b ≡ key → s ≡ second
    → r ≡ refusing number b length first s
    → r ≡ refusing number key length first second
refusing-with number length first second s key b r eb es e = rw (eb, es) at e

-- A refusal, with its number.
pub refused-is : (n : ℕ) (q : Refusal) (r : Note) → n ≡ number_of q → r ≡ refusal_note n q
    → r ≡ refusal_note (number_of q) q
refused-is n q r e h = rw e at h
