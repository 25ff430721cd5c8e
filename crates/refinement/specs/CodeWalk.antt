-- Each state of the walk machine as the code's walk, in which every unused bit, byte and row is zero.
use Rattle.std.specs.Prelude.{ℕ, ◌-◌, cond, List, [], ◌∷◌, ◌++◌, map, eqb, length, replicate}
use Rattle.paper.specs.Hearing as Paper
use Rattle.paper.specs.Hearing.{Prefix, packed}
use Rattle.paper.specs.Walk.{done, stopped}
use Rattle.theory.specs.WalkMachine.{Marks, path, Phase, asked, mine, other, leaving, State, Next, going, ended}
use Rattle.ids.specs.declared.Id.{Id}
use Rattle.ids.specs.Ids.{no_id, id_from}
use Rattle.walk_table.specs.declared.Entry.{Entry}
use Rattle.walk_table.specs.declared.Table.{Table}
use Rattle.walk_table.specs.Rows.{no_table, puts, counting}
use Rattle.walk.specs.declared.Walk.{Walk}
use Rattle.walk.specs.declared.Phase as Code
use Rattle.walk.specs.declared.Phase.TheVariants.{Asked, Mine, Other, Leaving}
use Rattle.walk_step.specs.declared.End.{End}
use Rattle.walk_step.specs.declared.End.TheVariants.{DuplicateUid, LongId, TableFull, Unaddressed}
use Rattle.walk_step.specs.Steps.{Done}
use Rattle.walk.specs.Moves as Moves
use Rattle.walk_step.specs.Steps as Steps

-- A list padded with zeros to length n.
abbrev pub padded : ℕ → List ℕ → List ℕ
padded n l = l ++ replicate (n - length l) 0

-- A mark for each level: 0 in the given prefix, 1 in a zero child, 2 in a one child.
abbrev pub levels : Prefix → Marks → List ℕ
levels pre [] = replicate (length pre) 0
levels pre (b ∷ marks) = levels pre marks ++ (cond b 2 1 ∷ [])

-- The row of an id of at most 16 bytes.
abbrev pub row_of : Paper.Id → Entry
row_of x = record { id = id_from x }

-- The table with these ids in its first rows, and zeros in the others.
unfoldable pub table_of : List Paper.Id → Table
table_of ids = counting (puts no_table 0 (map row_of ids)) (length ids)

abbrev pub candidate_of : Phase → Id
candidate_of asked = no_id
candidate_of (mine x) = id_from x
candidate_of (other x good) = id_from x
candidate_of leaving = no_id

abbrev pub phase_of : Phase → Code.Phase
phase_of asked = Asked
phase_of (mine x) = Mine
phase_of (other x good) = Other good
phase_of leaving = Leaving

-- The code's walk at a path, with these ids kept and this candidate.
abbrev pub standing_at : Prefix → Marks → List Paper.Id → Id → Walk
standing_at pre marks ids x = record {
  place = record {
    path = packed 16 (path pre marks);
    depth = length (path pre marks);
    marks = padded 128 (levels pre marks);
    candidate = x;
  };
  found = table_of ids;
}

abbrev pub walk_of : State → Walk
walk_of s = standing_at s.pre s.marks s.ids (candidate_of s.phase)

-- The code's end for each number that stops a walk: 12, 14, 15 or 23.
abbrev pub end_of : ℕ → End
end_of c = cond (eqb c 12) DuplicateUid (cond (eqb c 14) LongId (cond (eqb c 15) TableFull Unaddressed))

abbrev pub next_of : Next → Steps.Next
next_of (going s) = Steps.going (phase_of s.phase) (walk_of s)
next_of (ended (done ids)) = record { goes = Done; walk = Moves.finding Moves.no_walk (table_of ids) }
next_of (ended (stopped c)) = Steps.stopped (end_of c)
