-- A step's result for the whole walk, from the move that was decided without its list.
use Rattle.std.specs.Prelude.{Result, Ok, Err}
use Rattle.walk_table.specs.declared.Table.{Table}
use Rattle.walk_table.specs.Rows.{keeping, giving}
use Rattle.walk.specs.Moves.{walk_of, finding, no_walk}
use Rattle.walk_step.specs.declared.End.{End}
use Rattle.walk_step.specs.declared.Move.{Move}
use Rattle.walk_step.specs.Steps.{Done, Next, going, stopped}

-- How the walk goes on with the list t after a step, and its record then.
unfoldable pub joined : Result Move End → Table → Next
joined (Ok (Move.On g)) t = going g.phase (walk_of g.place t)
joined (Ok (Move.Keeps g x)) t = going g.phase (walk_of g.place (keeping t (record { id = x })))
joined (Ok Move.Done) t = record { goes = Done; walk = finding no_walk (giving t) }
joined (Err end) t = stopped end
