-- The walk of turns along a script.
use Rattle.std.specs.Prelude.{ℕ, ◌+◌, ◌==◌, ◌&&◌, ◌||◌, not, if◌then◌else◌, Bool, true, false, List, [], ◌∷◌, drop, find, fold, Option, Some, None}
use Rattle.std.specs.List.{list_all}
use Rattle.disk_base.specs.At.{put_at}
use Rattle.platter_model.specs.declared.world.World.{World as Event}
use Rattle.platter_model.specs.declared.world.World.TheVariants as world
use Rattle.block_machine.specs.declared.entry.Entry.{Entry}
use Rattle.block_machine.specs.declared.entry.Entry.TheVariants.{Arrived, Asked, Cut, PoweredOn, Tick}
use Rattle.block_machine.specs.declared.turn.Label.{Label}
use Rattle.block_machine.specs.declared.turn.Label.TheVariants.{Arrive, Work, Job, Scan, Destage, World}
use Rattle.block_machine.specs.declared.turn.Turn.{Turn}
use Rattle.block_machine.specs.Attentions.{initiators}
use Rattle.script_text.specs.declared.script.Line.{Line}
use Rattle.history_checker.specs.declared.power.PowerEvent.{PowerEvent}
use Rattle.history_checker.specs.declared.power.PowerEvent.TheVariants.{Nothing, Off, On, Minutes, Several}
use Rattle.history_checker.specs.Parts.{Part, lines_of, parts_behind}
use Rattle.history_checker.specs.Parts.Part.{Phase, Outside}
use Rattle.history_checker.specs.Same.{same_world, tells}

-- a place in a script: the phase in hand, or what is to happen next from outside, with all that follows; and how many of each
-- initiator's lines of the phase have come
pub record Place : Type 0 where
  pub ahead : List Part
  pub came : ℕ → ℕ

-- a walk: its place, whether the power is on, and whether a cut is armed
pub record Walk : Type 0 where
  pub place : Place
  pub on : Bool
  pub armed : Bool

-- none of a phase's lines came yet
abbrev pub none_came : ℕ → ℕ
none_came i = 0

-- at the start of a script
abbrev pub walk_at_start : List Line → Walk
walk_at_start lines = record {
  place = record { ahead = parts_behind [] lines; came = none_came };
  on = true;
  armed = false;
}

-- an initiator's lines of a phase that didn't come yet
abbrev pub left_of : (ℕ → ℕ) → List Line → ℕ → List Line
left_of came lines i = drop (came i) (lines_of i lines)

abbrev pub is_empty : {A : Type 0} → List A → Bool
is_empty [] = true
is_empty (x ∷ xs) = false

-- a phase is done: all its commands and functions have come, and no command is in; while the power is off it is so at once
abbrev pub is_done : Bool → Bool → (ℕ → ℕ) → List Line → Bool
is_done on idle came lines = not on || (idle && list_all (λ i. is_empty (left_of came lines i)) initiators)

-- the place behind the phases that are done
abbrev pub place_past : Bool → Bool → (ℕ → ℕ) → List Part → Place
place_past on idle came [] = record { ahead = []; came = came }
place_past on idle came (Outside event ∷ parts) = record { ahead = Outside event ∷ parts; came = came }
place_past on idle came (Phase lines ∷ parts) =
    if is_done on idle came lines then place_past on idle none_came parts else record { ahead = Phase lines ∷ parts; came = came }

-- the walk behind the phases that are done, where no command is in or some are
abbrev pub settled : Bool → Walk → Walk
settled idle walk = record walk { place = place_past walk.on idle walk.place.came walk.place.ahead }

-- a command or a function came by this entry
abbrev pub is_arrival : Entry → Bool
is_arrival (Arrived c i t a cdb sent) = true
is_arrival (Asked i what) = true
is_arrival other = false

-- who sent it
abbrev pub sender_of : Entry → ℕ
sender_of (Arrived c i t a cdb sent) = i
sender_of (Asked i what) = i
sender_of other = 0

-- the entry tells the first of these lines
abbrev pub tells_first : Entry → List Line → Bool
tells_first entry [] = false
tells_first entry (line ∷ lines) = tells entry line

-- an initiator's next lines, where a phase is ahead and nothing from outside is to happen before it
abbrev pub next_lines : (ℕ → ℕ) → List Part → ℕ → List Line
next_lines came [] i = []
next_lines came (Outside event ∷ parts) i = []
next_lines came (Phase lines ∷ parts) i = left_of came lines i

-- what came by the entry is its sender's next line
abbrev pub comes_next : Place → Option Entry → Bool
comes_next place None = false
comes_next place (Some entry) = tells_first entry (next_lines place.came place.ahead (sender_of entry))

-- what happened is what is to happen next from outside
abbrev pub happens_next : List Part → Event → Bool
happens_next [] event = false
happens_next (Phase lines ∷ parts) event = false
happens_next (Outside next ∷ parts) event = same_world next event

-- the turn is the script's next of its kind; nothing is asked of turns that are neither arrivals nor from outside
abbrev pub is_next : Place → Label → List Entry → Bool
is_next place (Arrive i) entries = comes_next place (find is_arrival entries)
is_next place (World event) entries = happens_next place.ahead event
is_next place other entries = true

-- what one more entry adds to what those before it say of the power and of the time
abbrev pub event_after : PowerEvent → Entry → PowerEvent
event_after Nothing Cut = Off
event_after Nothing (PoweredOn outcome) = On
event_after Nothing (Tick minutes) = Minutes minutes
event_after Nothing other = Nothing
event_after before Cut = Several
event_after before (PoweredOn outcome) = Several
event_after before (Tick minutes) = Several
event_after before other = before

-- what the entries of a turn say of the power and of the time
abbrev pub event_of : List Entry → PowerEvent
event_of entries = fold event_after Nothing entries

abbrev pub is_nothing : PowerEvent → Bool
is_nothing Nothing = true
is_nothing other = false

-- the power goes off
abbrev pub is_off : PowerEvent → Bool
is_off Off = true
is_off other = false

-- so many minutes pass
abbrev pub is_minutes : ℕ → PowerEvent → Bool
is_minutes n (Minutes m) = m == n
is_minutes n other = false

-- the power may go off, where a cut is armed
abbrev pub may_go_off : Bool → PowerEvent → Bool
may_go_off armed Nothing = true
may_go_off armed told = armed && is_off told

-- the power comes back, or goes off again meanwhile, where a cut is armed
abbrev pub comes_back : Bool → PowerEvent → Bool
comes_back armed On = true
comes_back armed told = armed && is_off told

-- what a turn from outside may say, that finds the power on, or off
abbrev pub outside_allows : Bool → Bool → Event → PowerEvent → Bool
outside_allows on armed world.Cut told = if on then is_off told else is_nothing told
outside_allows on armed world.Power told = if on then is_nothing told else comes_back armed told
outside_allows on armed (world.Minutes n) told = if on then is_minutes n told else is_nothing told
outside_allows on armed (world.Damage d) told = is_nothing told
outside_allows on armed (world.Fault p) told = is_nothing told
outside_allows on armed (world.Arm k tear) told = is_nothing told

-- what any turn may say
abbrev pub power_allows : Bool → Bool → Label → PowerEvent → Bool
power_allows on armed (World event) told = outside_allows on armed event told
power_allows on armed (Arrive i) told = if on then may_go_off armed told else is_nothing told
power_allows on armed (Work c) told = if on then may_go_off armed told else is_nothing told
power_allows on armed (Job j) told = if on then may_go_off armed told else is_nothing told
power_allows on armed Scan told = if on then may_go_off armed told else is_nothing told
power_allows on armed Destage told = if on then may_go_off armed told else is_nothing told

-- a turn may come next on a walk that is behind the phases that are done
abbrev pub allows : Walk → Turn → Bool
allows walk turn = is_next walk.place turn.label turn.entries && power_allows walk.on walk.armed turn.label (event_of turn.entries)

-- one line more of the sender has come
abbrev pub came_after : (ℕ → ℕ) → Option Entry → ℕ → ℕ
came_after came None = came
came_after came (Some entry) = put_at (sender_of entry) (came (sender_of entry) + 1) came

-- the place behind a turn
abbrev pub place_after : Place → Label → List Entry → Place
place_after place (Arrive i) entries = record place { came = came_after place.came (find is_arrival entries) }
place_after place (World event) entries = record place { ahead = drop 1 place.ahead }
place_after place other entries = place

-- whether the power is on behind a turn
abbrev pub on_after : Bool → PowerEvent → Bool
on_after on Off = false
on_after on On = true
on_after on other = on

-- a line `cut write` arms a cut
abbrev pub arms : Label → Bool
arms (World (world.Arm k tear)) = true
arms other = false

-- the walk behind a turn that may come
abbrev pub advanced : Walk → Turn → Walk
advanced walk turn = record {
  place = place_after walk.place turn.label turn.entries;
  on = on_after walk.on (event_of turn.entries);
  armed = (walk.armed || arms turn.label) && not (is_off (event_of turn.entries));
}

-- whether a turn may come next, where no command is in or some are; and the walk behind it
abbrev pub walk_allows : Bool → Walk → Turn → Bool
walk_allows idle walk turn = allows (settled idle walk) turn

abbrev pub walk_after : Bool → Walk → Turn → Walk
walk_after idle walk turn = advanced (settled idle walk) turn

-- all phases are done, and nothing is to happen from outside any more
abbrev pub is_over : Bool → Walk → Bool
is_over idle walk = is_empty (settled idle walk).place.ahead
