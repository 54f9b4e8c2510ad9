-- What a turn adds to a drive.
use Rattle.std.specs.Prelude.{◌≡◌, ℕ, ◌+◌, ◌-◌, Bool, true, false, List, [], ◌∷◌, ◌++◌, length, Option, Some, None}
use Rattle.std.specs.List.{list_any}
use Rattle.std.specs.Option.{option_map}
use Rattle.platter_model.specs.declared.op.Op.{Op}
use Rattle.block_machine.specs.declared.entry.Entry.{Entry}
use Rattle.block_machine.specs.declared.entry.Entry.TheVariants.{Arrived, Asked, Scanned}
use Rattle.block_machine.specs.declared.turn.Label.{Label}
use Rattle.block_machine.specs.declared.turn.Label.TheVariants as label
use Rattle.block_machine.specs.declared.turn.Turn.{Turn}
use Rattle.drive_scene.specs.declared.event.Arrival.{Arrival}
use Rattle.drive_scene.specs.declared.event.Arrival.TheVariants.{Command, Function}
use Rattle.drive_scene.specs.declared.event.Arriving.{Arriving}
use Rattle.drive_scene.specs.declared.event.Event.{Event}
use Rattle.drive_scene.specs.declared.event.Event.TheVariants as event
use Rattle.drive_scene.specs.declared.answer.Pick.{Pick}
use Rattle.drive_scene.specs.declared.answer.Pick.TheVariants as pick
use Rattle.drive_scene.specs.declared.answer.TurnAnswer.{TurnAnswer}
use Rattle.drive_scene.specs.declared.answer.TurnAnswer.TheVariants as answer
use Rattle.drive_scene.specs.Scene.{Scene}
use Rattle.drive_scene.specs.Run.{Run, scene_of}
use Rattle.drive_scene.specs.Ending.{ended_in}
use Rattle.drive_scene.specs.Able.{picked, nothing_waiting}

-- the label of a turn that was picked
abbrev pub label_of_pick : Pick → Label
label_of_pick (pick.Arrive i) = label.Arrive i
label_of_pick (pick.Work c) = label.Work c
label_of_pick (pick.Job j) = label.Job j
label_of_pick pick.Scan = label.Scan
label_of_pick pick.Destage = label.Destage

abbrev pub initiator_of : Arrival → ℕ
initiator_of (Command x) = x.initiator
initiator_of (Function i what) = i

-- the label of an event's turn; none where `Any` picks none
abbrev pub label_of : Scene → Event → Option Label
label_of s (event.Arrive a) = Some (label.Arrive (initiator_of a))
label_of s (event.Work c) = Some (label.Work c)
label_of s (event.Job j) = Some (label.Job j)
label_of s (event.Any x) = option_map label_of_pick (picked s nothing_waiting x)
label_of s event.Scan = Some label.Scan
label_of s event.Destage = Some label.Destage
label_of s (event.World w) = Some (label.World w)

-- the entry of a command that arrives, by the number that it gets
abbrev pub entry_of : ℕ → Arriving → Entry
entry_of c x = Arrived c x.initiator x.tag x.attribute x.cdb x.sent

-- a command arrives with the next number, and a function as it is asked for
abbrev pub arrives_as : ℕ → Event → Option Entry
arrives_as arrived (event.Arrive (Command x)) = Some (entry_of (arrived + 1) x)
arrives_as arrived (event.Arrive (Function i what)) = Some (Asked i what)
arrives_as arrived other = None

-- the turn's first entry is what arrives, where the event says so
abbrev pub BeginsWith : Option Entry → List Entry → Type 0
BeginsWith None entries = Unit {0}
BeginsWith (Some e) entries = (rest : List Entry) × (entries ≡ e ∷ rest)

abbrev pub is_scanned : Entry → Bool
is_scanned (Scanned b what) = true
is_scanned other = false

-- each arrival takes one off the arrivals that are expected
abbrev pub coming_after : ℕ → Event → ℕ
coming_after coming (event.Arrive a) = coming - 1
coming_after coming other = coming

-- the drive has one turn more, and this answers the event
pub record AddsTurn (old : Run) (e : Event) (given : TurnAnswer) (new : Run) : Type 0 where
  pub turn : Turn
  pub turns : new.turns ≡ old.turns ++ turn ∷ []
  pub label : label_of (scene_of old) e ≡ Some turn.label
  pub arrival : BeginsWith (arrives_as (scene_of old).hist.arrived e) turn.entries
  -- what the platter did
  pub ops : List Op
  pub added : new.ops ≡ old.ops ++ ops
  pub made : new.made ≡ old.made
  pub coming : new.coming ≡ coming_after old.coming e
  pub answered : given ≡ answer.Done (length new.turns) (ended_in (scene_of old) turn.entries) (list_any is_scanned turn.entries)
