-- A call's answer and the client after it, from what was decided without the walk.
use Rattle.std.specs.Prelude.{Option, Some, None}
use Rattle.ids.specs.declared.Id.{Id}
use Rattle.walk_table.specs.declared.Table.{Table}
use Rattle.walk_table.specs.Rows.{no_table, keeping, giving}
use Rattle.walk.specs.declared.Walk.{Walk}
use Rattle.walk.specs.Moves.{walk_of, no_walk, begin}
use Rattle.client.specs.declared.Client.{Client}
use Rattle.client.specs.declared.Front.{Front}
use Rattle.client.specs.declared.Opening.{Opening}
use Rattle.client.specs.declared.Change.{Change}
use Rattle.client.specs.declared.Change.TheVariants.{Same, Moves, Keeps, Gives, Clears}
use Rattle.client.specs.declared.Verdict.{Verdict}
use Rattle.client.specs.declared.Started.{Started}
use Rattle.client.specs.declared.Told.{Told}

-- The client without its walk.
abbrev pub front_of : Client → Front
front_of c = c.front

-- The client of a front and a walk.
abbrev pub client_of : Front → Walk → Client
client_of f w = record { front = f; walk = w }

-- The walk after a start or a request: begun under a prefix, or unchanged.
abbrev pub renewed : Option Id → Walk → Walk
renewed (Some x) w = begin x
renewed None w = w

-- The answer by value to a start or a request.
abbrev pub started_of : Opening → Walk → Started
started_of o w = record { says = o.says; client = client_of o.front (renewed o.begins w) }

-- The walk after a record.
abbrev pub changed : Change → Walk → Walk
changed Same w = w
changed (Moves p) w = walk_of p w.found
changed (Keeps p x) w = walk_of p (keeping w.found x)
changed Gives w = no_walk
changed Clears w = no_walk

-- The list that is returned after a record.
abbrev pub given : Change → Walk → Table
given Same w = no_table
given (Moves p) w = no_table
given (Keeps p x) w = no_table
given Gives w = giving w.found
given Clears w = no_table

-- The answer by value to a record.
abbrev pub told_of : Verdict → Walk → Told
told_of v w = record {
  says = v.says;
  client = client_of v.front (changed v.change w);
  rest = v.rest;
  progress = v.progress;
  id = v.id;
  found = given v.change w;
}
