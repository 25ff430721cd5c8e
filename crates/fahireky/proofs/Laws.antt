-- Each exported call on a state that holds a client leaves what the client's own call returns.
use Prim.Native.Nat.{ℕ, ◌≤◌}
use mathlib.Core.Bool.{Bool, true, false, cond}
use mathlib.Core.List.{List, ◌++◌}
use mathlib.Core.Path.{◌≡◌, refl, sym, ◌∙◌, ap}
use native.Mathlib.Omega.{arith}
use lib.Dec.{ltb}
use lib.ListN.{length, drop, length-append, drop_of_length-le}
use borrow.Author.Tests.{ltb-false}
use Rattle.paper.specs.Answers.{rest}
use Rattle.client.specs.declared.Client.{Client}
use Rattle.client.specs.declared.Started.{Started}
use Rattle.client.specs.declared.Told.{Told}
use Rattle.client.specs.Clients.{attached}
use Rattle.client_request.specs.Request.{request}
use Rattle.host_state.specs.State as State
use Rattle.host_state.specs.State.{saved, loaded, Fits}
use Rattle.host_state.proofs.Laws.{saved-length, loaded-saved}
use Rattle.host_answer.specs.AnswerBytes as AnswerBytes
use Rattle.host_buffers.specs.Codes.{rest_from}
use Rattle.host_buffers.specs.Hosts.{told_by, leaves, tells, starts, asks, requests, shows_attached, views}
use Rattle.host_buffers.proofs.Ways.{lent-enough}

module _ (c : Client) (h : Fits c) (more a : List ℕ) (room : AnswerBytes.size ≤ length a) where
  whole : State.size ≤ length (saved c ++ more)
  whole = omega (arith, length-append (saved c) more, saved-length c h)

  -- A record, or a failed link.
  pub tells-saved : (f : Client → Told) → tells f (saved c ++ more) a ≡ leaves (f c) (saved c ++ more) a
  unfolding tells
  tells-saved f =
      sym (lent-enough (length (saved c ++ more)) (length a)
      (λ (code : ℕ). record { code = code; state = saved c ++ more; answer = a })
      (leaves (f (loaded (saved c ++ more))) (saved c ++ more) a) whole room)
      ∙ ap (λ (d : Client). leaves (f d) (saved c ++ more) a) (loaded-saved c h more)

  -- A start.
  pub starts-saved : (f : Client → Started) → starts f (saved c ++ more) a ≡ leaves (told_by (f c)) (saved c ++ more) a
  unfolding starts
  starts-saved f = tells-saved (λ (d : Client). told_by (f d))

  -- A request.
  pub requests-saved : (image b : List ℕ)
      → requests image (saved c ++ more) b a ≡ asks (request c image b) (saved c ++ more) a
  unfolding requests
  requests-saved image b =
      sym (lent-enough (length (saved c ++ more)) (length a)
      (λ (code : ℕ). record { code = code; state = saved c ++ more; buffer = b; answer = a })
      (asks (request (loaded (saved c ++ more)) image b) (saved c ++ more) a) whole room)
      ∙ ap (λ (d : Client). asks (request d image b) (saved c ++ more) a) (loaded-saved c h more)

  -- The attached id.
  pub views-saved : views (saved c ++ more) a ≡ shows_attached (attached c) a
  unfolding views
  views-saved =
      sym (lent-enough (length (saved c ++ more)) (length a) (λ (code : ℕ). record { code = code; bytes = a })
      (shows_attached (attached (loaded (saved c ++ more))) a) whole room)
      ∙ ap (λ (d : Client). shows_attached (attached d) a) (loaded-saved c h more)

-- Dropping the bytes before the place of the rest gives the rest.
pub rest-from : (bytes : List ℕ) (at : ℕ) → drop (rest_from (length bytes) at) bytes ≡ rest bytes at
unfolding rest_from
rest-from bytes at = go (ltb at (length bytes)) refl
  where
    go : (b : Bool) → ltb at (length bytes) ≡ b → drop (cond b at (length bytes)) bytes ≡ rest bytes at
    go true e = refl
    go false e = drop_of_length-le bytes {i = length bytes} (omega arith)
        ∙ sym (drop_of_length-le bytes {i = at} (ltb-false at (length bytes) e))
