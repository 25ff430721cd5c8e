-- Document 01, "Attach", with the plain select and the deselect of "Ids and hearing": each operation as a conversation.
use Rattle.std.specs.Prelude.{[]}
use Rattle.std.proofs.Math.Option.{Option, none, some}
use Rattle.paper.specs.Hearing.{Id, Prefix, bits_of, on_some, Heard, nothing, one, unaddressed, garble}
use Rattle.paper.specs.Walk as Walk
use Rattle.paper.specs.Walk.{nobody}
use Rattle.paper.specs.Talk.{select, Talk, return, stop, ask, ◌>>=◌, ◌>>◌, walking, Outcome, quiet, heard}
use Rattle.paper.specs.Talk.{attached, found}

-- "An id over 16 bytes gives refusal 14": a Select that returns what is heard.
unfoldable pub listen : Prefix → Talk Heard
listen p = walking (Walk.ask p)

-- "The plain select" of some bits: it succeeds with what is heard.
unfoldable pub select_only : Prefix → Talk Outcome
select_only p = do
  h ← listen p
  return (heard h)

-- "Deselect is a Select of 129 zero bits"; "a deselect, whose record is ignored".
unfoldable pub deselect : Talk Outcome
deselect = ask (select nobody) (λ _. return quiet)

-- "the prefix (empty if none given)".
abbrev pub prefix_of : Option Id → Prefix
prefix_of uid = on_some uid [] bits_of

-- "One: attached. Unaddressed: success with no id if no prefix was given, else 11. Nothing: 9 with a prefix, 7 without.
-- Garble: deselect, then 10 with a prefix, 8 without."
unfoldable pub met : Option Id → Heard → Talk Outcome
met uid (one id) = return (attached (some id))
met uid unaddressed = on_some uid (return (attached none)) (λ given. stop 11 [])
met uid nothing = on_some uid (stop 7 []) (λ given. stop 9 given)
met uid garble = do
  deselect
  on_some uid (stop 8 []) (λ given. stop 10 given)

-- "Select the prefix"; "A given empty prefix counts as given."
unfoldable pub attach : Option Id → Talk Outcome
attach uid = do
  h ← listen (prefix_of uid)
  met uid h

-- "The walk", under a prefix of whole bytes.
unfoldable pub discover : Id → Talk Outcome
discover given = do
  ids ← walking (Walk.discover (bits_of given))
  return (found ids)
