-- The walk's moves on its record, and the bits that its next Select asks for.
use Rattle.std.specs.Prelude.{ℕ, zero, suc, ◌+◌, ◌-◌, ◌*◌, Bool, false, not, cond, List, ◌∷◌, length, set, get_or, replicate, leb, eqb}
use Rattle.paper.specs.Hearing.{bits_of}
use Rattle.ids.specs.declared.Id.{Id}
use Rattle.ids.specs.Ids.{set_bit, id_of, no_id}
use Rattle.ids.specs.Paths.{cut}
use Rattle.walk_table.specs.declared.Table.{Table}
use Rattle.walk_table.specs.Rows.{no_table}
use Rattle.walk.specs.declared.Walk.{Walk}
use Rattle.walk.specs.declared.Place.{Place}
use Rattle.walk.specs.declared.Phase.{Phase}
use Rattle.walk.specs.declared.Phase.TheVariants.{Asked, Mine, Other, Leaving}
use Rattle.walk.specs.declared.Ask.{Ask}

-- A value for each case.
abbrev pub on_phase {ℓ} : {A : Type ℓ} → Phase → A → A → (Bool → A) → A → A
on_phase Asked asked mine other leaving = asked
on_phase Mine asked mine other leaving = mine
on_phase (Other good) asked mine other leaving = other good
on_phase Leaving asked mine other leaving = leaving

-- The walk without its list.
abbrev pub place_of : Walk → Place
place_of w = w.place

-- The walk at a place, with a list.
abbrev pub walk_of : Place → Table → Walk
walk_of p t = record { place = p; found = t }

-- A walk with other values in some fields.
abbrev pub standing : Walk → List ℕ → ℕ → List ℕ → Walk
standing w path depth marks =
    walk_of (record { path = path; depth = depth; marks = marks; candidate = w.place.candidate }) w.found

abbrev pub finding : Walk → Table → Walk
finding w t = walk_of w.place t

abbrev pub holding : Walk → Id → Walk
holding w x =
    walk_of (record { path = w.place.path; depth = w.place.depth; marks = w.place.marks; candidate = x }) w.found

unfoldable pub no_walk : Walk
no_walk =
    walk_of (record { path = replicate 16 0; depth = 0; marks = replicate 128 0; candidate = no_id }) no_table

-- A walk under a prefix of whole bytes, before its first Select.
unfoldable pub begin : Id → Walk
begin x = standing no_walk x.bytes (8 * length (id_of x)) no_walk.place.marks

-- The mark of the last of d levels: 0 for the given prefix, 1 for a zero child, 2 for a one child.
abbrev pub mark_at : List ℕ → ℕ → ℕ
mark_at marks d = get_or (0 ∷ marks) d 0

unfoldable pub mark : Walk → ℕ
mark w = mark_at w.place.marks w.place.depth

-- Down to the zero child.
unfoldable pub lower : Walk → Walk
lower w = standing w w.place.path (w.place.depth + 1) (set w.place.marks w.place.depth 1)

-- Up from a one child.
unfoldable pub raise : Walk → Walk
raise w = standing w (cut w.place.path (w.place.depth - 1)) (w.place.depth - 1) (set w.place.marks (w.place.depth - 1) 0)

-- From a zero child to the one child beside it.
unfoldable pub turn : Walk → Walk
turn w = standing w (set_bit w.place.path (w.place.depth - 1)) w.place.depth (set w.place.marks (w.place.depth - 1) 2)

-- Up, out of each one child, by at most n levels.
unfoldable pub climb : ℕ → Walk → Walk
climb zero w = w
climb (suc n) w = cond (eqb (mark w) 2) (climb n (raise w)) w

-- The bits of a deselect.
unfoldable pub nobody : Ask
nobody = record { bits = replicate 16 0; count = 129 }

-- The bits of a child: the path and one more bit.
unfoldable pub child : Walk → Bool → Ask
child w b = record { bits = cond b (set_bit w.place.path w.place.depth) w.place.path; count = w.place.depth + 1 }

-- The candidate's bit after the path.
abbrev pub next_bit : Walk → Bool
next_bit w = get_or (bits_of (id_of w.place.candidate)) w.place.depth false

-- The bits that the next Select asks for. A path of over 128 bits asks for a deselect.
unfoldable pub asks : Walk → Phase → Ask
asks w p =
    cond (leb w.place.depth 128)
    (on_phase p
    (record { bits = w.place.path; count = w.place.depth })
    (child w (next_bit w))
    (λ good. child w (not (next_bit w)))
    nobody)
    nobody
