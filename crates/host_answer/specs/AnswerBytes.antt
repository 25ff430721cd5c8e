-- An answer as 1,179 bytes: its numbers in order, each in its width, lowest byte first; then the id and the list of
-- ids.
use Rattle.std.specs.Prelude as Std
use Rattle.std.specs.Prelude.{ℕ, List, [], ◌∷◌, ◌++◌, take, drop}
use Rattle.paper.specs.Frame.{le}
use Rattle.ids.specs.declared.Id.{Id}
use Rattle.walk_table.specs.declared.Table.{Table}
use Rattle.client.specs.declared.Says.{Says}
use Rattle.client.specs.declared.Progress.{Progress}
use Rattle.image.specs.InfoBytes.{saved_info}
use Rattle.host_turn_bytes.specs.TurnBytes.{flag}
use Rattle.host_state.specs.State.{saved_id, saved_table}
use Rattle.host_answer.specs.declared.numbers.Note.{Note}
use Rattle.host_answer.specs.declared.numbers.Gain.{Gain}
use Rattle.host_answer.specs.Numbers.{note_of, gain_of}

-- How many bytes an answer takes.
abbrev pub size : ℕ
size = 1179

-- From 0: number, says, outcome, heard, any, made, key, and an unused byte.
unfoldable pub tagged : Note → Gain → List ℕ
tagged n g = n.number ∷ n.says ∷ n.outcome ∷ n.heard ∷ flag n.any ∷ flag g.made ∷ flag n.key ∷ 0 ∷ []

-- From 8: the place of the unread rest; from 16: the length; from 24: done; from 32: total.
unfoldable pub sizes : Note → Gain → ℕ → List ℕ
sizes n g rest = le 8 rest ++ le 8 n.length ++ le 8 g.done ++ le 8 g.total

-- From 40: first; from 44: second.
unfoldable pub pair : Note → List ℕ
pair n = le 4 n.first ++ le 4 n.second

-- From 48: the device information.
unfoldable pub numbered : Note → Gain → ℕ → List ℕ
numbered n g rest = tagged n g ++ sizes n g rest ++ pair n ++ saved_info n.info

-- From 66: the id; from 83: the list of ids.
unfoldable pub shown : Says → Std.Option Progress → Id → Table → ℕ → List ℕ
shown says progress x t rest = numbered (note_of says) (gain_of progress) rest ++ saved_id x ++ saved_table t

-- The first 83 bytes of an answer; and an answer's bytes with another list, all other bytes unchanged.
unfoldable pub fronted : Note → Std.Option Progress → Id → ℕ → List ℕ
fronted n progress x rest = numbered n (gain_of progress) rest ++ saved_id x

unfoldable pub listed : Table → List ℕ → List ℕ
listed t a = take 83 a ++ saved_table t ++ drop size a
