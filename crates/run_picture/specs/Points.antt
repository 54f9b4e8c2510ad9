-- The points of turns.
use Rattle.std.specs.Prelude.{ℕ, ◌+◌, List, [], ◌∷◌, ◌++◌}
use Rattle.block_machine.specs.declared.entry.Entry.{Entry}
use Rattle.block_machine.specs.declared.turn.Turn.{Turn}
use Rattle.run_picture.specs.declared.event.Event.TheVariants.{Labelled}
use Rattle.run_picture.specs.declared.points.Point.{Point}
use Rattle.run_picture.specs.Events.{event_of}

-- the points of entries of turn n, the first of which has this place
abbrev pub entry_points : ℕ → ℕ → List Entry → List Point
entry_points n place [] = []
entry_points n place (e ∷ entries) = record { turn = n; place = place; event = event_of e } ∷ entry_points n (place + 1) entries

-- the points of turn n: its label's, and one for each of its entries
abbrev pub turn_points : ℕ → Turn → List Point
turn_points n turn = record { turn = n; place = 0; event = Labelled turn.label } ∷ entry_points n 1 turn.entries

-- the points of turns that are numbered from n
abbrev pub points_from : ℕ → List Turn → List Point
points_from n [] = []
points_from n (turn ∷ turns) = turn_points n turn ++ points_from (n + 1) turns

-- the points of turns, which are numbered from 1
abbrev pub points_of : List Turn → List Point
points_of turns = points_from 1 turns
