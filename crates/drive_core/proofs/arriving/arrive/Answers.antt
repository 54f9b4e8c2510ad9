use Rattle.std.proofs.Common.{◌+◌, ◌≤◌, ℕ, Some, None, refl, sym, subst}
use Rattle.std.specs.Vec.{vec_capacity}
use Rattle.block_machine.specs.declared.turn.Label.TheVariants as label
use Rattle.drive_scene.specs.declared.event.Arriving.{Arriving}
use Rattle.drive_scene.specs.declared.event.Arrival.{Arrival}
use Rattle.drive_scene.specs.declared.event.Event.TheVariants as event
use Rattle.drive_core.specs.Making.{IsTurnOf, entries_at_most}
use Rattle.drive_scene.specs.Turning.{BeginsWith, entry_of}
use Rattle.drive_core.proofs.ArrivalTurns.{room_of_four}
use Rattle.drive_core.proofs.arriving.arrive.Goals as goal

pub enter-requires-clause-entry_room : goal.enter-requires-clause-entry_room
enter-requires-clause-entry_room c = room_of_four (event.Arrive c.args.arrival) (vec_capacity c.args.entries.now) c.requires.entry_room

pub ask-requires-clause-entry_room : goal.ask-requires-clause-entry_room
ask-requires-clause-entry_room c = subst (λ (a : Arrival). entries_at_most (event.Arrive a) ≤ vec_capacity c.args.entries.now) c.in-Function.is c.requires.entry_room

pub returns-in_ok-ended-in-Command-clause-moves : goal.returns-in_ok-ended-in-Command-clause-moves
returns-in_ok-ended-in-Command-clause-moves c s may =
    let x : Arriving = c.in-Command.arriving in
    subst (λ (a : Arrival). IsTurnOf s (event.Arrive a) c.args.server.now c.enter.new.server c.enter.new.entries.items
    (record { label = label.Arrive c.in-Command.arriving.initiator; ended = c.in_ok-ended-in-Command.ended })) (sym c.in-Command.is)
    (record {
      label = refl;
      arrival = subst (λ (n : ℕ). BeginsWith (Some (entry_of (n + 1) x)) c.enter.new.entries.items) may.fits.tasks.arrived c.in_ok-ended-in-Command.ensures.arrival;
      moves = c.in_ok-ended-in-Command.ensures.moves s may.fits;
    })

pub returns-in-Function-clause-moves : goal.returns-in-Function-clause-moves
returns-in-Function-clause-moves c s may =
    subst (λ (a : Arrival). IsTurnOf s (event.Arrive a) c.args.server.now c.ask.new.server c.ask.new.entries.items
    (record { label = label.Arrive c.in-Function.initiator; ended = None })) (sym c.in-Function.is)
    (record {
      label = refl;
      arrival = c.ask.ensures.asked;
      moves = c.ask.ensures.moves s may.fits;
    })
