-- Lemmas for the codes and for ids written behind them: one for each path through the code.
use Prim.Native.Nat.{ℕ, ◌<◌, ◌≤◌}
use mathlib.Core.List.{List, ◌++◌}
use mathlib.Core.Path.{◌≡◌}
use lib.ListN.{length, drop}
use borrow.Author.Tests.{lt-ltb, le-ltb}
use Rattle.ids.specs.declared.Id.{Id}
use Rattle.ids.specs.Ids.{id_of}
use Rattle.host_buffers.specs.Codes.{coded, put_uid}

-- Writing an id.
module _ (x : Id) (n r : ℕ) (out : List ℕ) (en : n ≡ length (id_of x)) where
  pub uid-short : length out < n → r ≡ coded 16 n → record { code = r; bytes = out } ≡ put_uid x out
  unfolding put_uid
  uid-short h e = rw (e, en, lt-ltb (length out) (length (id_of x)) (rw en at h))

  pub uid-room : (id : List ℕ) → id ≡ id_of x → n ≤ length out → length id ≤ length out
  uid-room id same h = rw same (rw en at h)

  pub uid-put : (id front : List ℕ) → id ≡ id_of x → n ≤ length out → r ≡ coded 0 n → front ≡ id
      → record { code = r; bytes = front ++ drop n out } ≡ put_uid x out
  unfolding put_uid
  uid-put id front same h e q = rw (e, q, same, en, le-ltb (length out) (length (id_of x)) (rw en at h))
