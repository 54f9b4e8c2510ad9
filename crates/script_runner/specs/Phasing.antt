-- How the loop of a phase goes on.
use Rattle.std.specs.Prelude.{◌≡◌, ◌≢◌, ℕ, ◌+◌, ◌<◌, ◌≤◌, length, true, false, Bool, List, [], ◌∷◌, ◌++◌, Option}
use Rattle.platter_model.specs.declared.world.World.{World}
use Rattle.block_machine.specs.declared.turn.Label.TheVariants as label
use Rattle.drive_scene.specs.declared.event.Arrival.{Arrival}
use Rattle.drive_scene.specs.declared.event.Event.{Event}
use Rattle.drive_scene.specs.declared.event.Event.TheVariants as event
use Rattle.drive_scene.specs.declared.answer.TurnAnswer.{TurnAnswer}
use Rattle.drive_scene.specs.declared.answer.TurnAnswer.TheVariants as answer
use Rattle.drive_scene.specs.declared.answer.Pick.{Pick}
use Rattle.drive_scene.specs.declared.answer.Pick.TheVariants as pick
use Rattle.drive_scene.specs.Scene.{Beat}
use Rattle.drive_core.specs.Served.{IsServedArrival}
use Rattle.drive_scene.specs.Turning.{label_of_pick, initiator_of, AddsTurn}
use Rattle.drive_scene.specs.Run.{Run, IsGoodRun, scene_of, beats_of}
use Rattle.script_runner.specs.Each.{Each}
use Rattle.script_runner.specs.Arrivals.{Sends, arrived_by}
use Rattle.script_runner.specs.Wanted.{Wanted, destages_in}
use Rattle.script_runner.specs.Order.{order_after}
use Rattle.script_runner.specs.Phase.{is_of_phase, ByOrder}
use Rattle.script_runner.specs.CarriedOut.{CarriesPhase}
use Rattle.script_runner.specs.Measure.{turns_of_phase}

-- something that is to be sent by an initiator, and is served
pub record IsToSend (i : ℕ) (a : Arrival) : Type 0 where
  pub sender : initiator_of a ≡ i
  pub served : IsServedArrival a

abbrev pub AreServed : Sends → Type 0
AreServed sends = (i : ℕ) → Each (IsToSend i) (sends i)

-- what a pick needs is there: something to send, a destage that was asked for, or nothing for work
abbrev pub IsAtHand : Wanted → Pick → Type 0
IsAtHand wanted (pick.Arrive i) = wanted.sends i ≢ []
IsAtHand wanted (pick.Work c) = Unit {0}
IsAtHand wanted pick.Destage = 0 < wanted.destages
IsAtHand wanted other = ⊥

-- an arrival is taken out of what is to be sent
pub record TakesArrival (old : Wanted) (i : ℕ) (a : Arrival) (new : Wanted) : Type 0 where
  pub first : old.sends i ≡ a ∷ new.sends i
  pub is_to_send : IsToSend i a
  pub others : (j : ℕ) → j ≢ i → new.sends j ≡ old.sends j
  pub destages : new.destages ≡ old.destages

-- the event of a pick: what it brings isn't wanted any more
abbrev pub Fetches : Wanted → Pick → Event → Wanted → Type 0
Fetches old (pick.Arrive i) (event.Arrive a) new = TakesArrival old i a new
Fetches old (pick.Work c) (event.Work d) new = (d ≡ c) × (new ≡ old)
Fetches old pick.Destage event.Destage new = (new.sends ≡ old.sends) × (old.destages ≡ new.destages + 1)
Fetches old p e new = ⊥

-- a drive of the same measures has one turn more
pub record GoesOn (old new : Run) (t : Beat) : Type 0 where
  pub beats : beats_of new ≡ beats_of old ++ t ∷ []
  pub made : new.made ≡ old.made

-- the turn of an event came, and the drive's run was good before it and is after it
pub record MakesTurn (old : Run) (e : Event) (new : Run) : Type 0 where
  pub given : TurnAnswer
  pub adds : AddsTurn old e given new
  pub before : IsGoodRun old
  pub after : IsGoodRun new

-- the turn of a pick came: what it brought isn't wanted any more
pub record TakesTurn (old : Run) (wanted : Wanted) (p : Pick) (new : Run) (left : Wanted) : Type 0 where
  pub turn : Beat
  pub goes : GoesOn old new turn
  pub label : label_of_pick p ≡ turn.label
  pub kind : is_of_phase turn.label ≡ true
  pub arrivals : (i : ℕ) → wanted.sends i ≡ arrived_by i turn.entries ++ left.sends i
  pub destages : wanted.destages ≡ destages_in (turn ∷ []) + left.destages
  pub served : AreServed left.sends
  pub counted : length new.turns ≡ length old.turns + 1
  pub fewer : turns_of_phase (scene_of new) left < turns_of_phase (scene_of old) wanted

-- a phase was carried out
pub record Carried (old : Run) (order : Option ℕ) (wanted : Wanted) (new : Run) (next : Option ℕ) : Type 0 where
  pub own : List Beat
  pub beats : beats_of new ≡ beats_of old ++ own
  pub made : new.made ≡ old.made
  pub phase : CarriesPhase ByOrder order (scene_of old) wanted own
  pub drawn_once_a_turn : next ≡ order_after order own
  pub few : length new.turns ≤ length old.turns + turns_of_phase (scene_of old) wanted
  pub idle : (scene_of new).hist.set ≡ []

-- something happened to the drive from outside, and nothing else changed
pub record Happens (old : Run) (w : World) (new : Run) : Type 0 where
  pub turn : Beat
  pub goes : GoesOn old new turn
  pub label : turn.label ≡ label.World w
  pub idle : (scene_of old).hist.set ≡ [] → (scene_of new).hist.set ≡ []
  pub counted : length new.turns ≡ length old.turns + 1

-- a turn was made
abbrev pub is_done : TurnAnswer → Bool
is_done (answer.Done number ended scanned) = true
is_done other = false
