use Rattle.std.proofs.Common.{◌≤◌, subst}
use Rattle.std.specs.Vec.{vec_capacity}
use Rattle.drive_scene.specs.declared.event.Event.{Event}
use Rattle.drive_scene.specs.declared.event.Event.TheVariants as event
use Rattle.drive_core.specs.Making.{MayCome, entries_at_most}
use Rattle.drive_core.proofs.ArrivalTurns.{room_of_four}
use Rattle.drive_core.proofs.DriveTurns.{no_background}
use Rattle.drive_core.proofs.turning.make_turn.Goals as goal

pub arrive-requires-clause-may : goal.arrive-requires-clause-may
arrive-requires-clause-may c = (c.requires.may.0, subst (λ (e : Event). MayCome c.requires.may.0 c.args.server.now e) c.in-Arrive.is c.requires.may.1)

pub happen-requires-clause-may : goal.happen-requires-clause-may
happen-requires-clause-may c = (c.requires.may.0, subst (λ (e : Event). MayCome c.requires.may.0 c.args.server.now e) c.in-World.is c.requires.may.1)

pub make_work_turn-requires-clause-may : goal.make_work_turn-requires-clause-may
make_work_turn-requires-clause-may c =
    let may : MayCome c.requires.may.0 c.args.server.now (event.Work c.in-Work.c) =
    subst (λ (e : Event). MayCome c.requires.may.0 c.args.server.now e) c.in-Work.is c.requires.may.1 in
    (c.requires.may.0, record { fits = may.fits; free = may.free })

pub make_work_turn-requires-in-Some-clause-may : goal.make_work_turn-requires-in-Some-clause-may
make_work_turn-requires-in-Some-clause-may c =
    (c.requires.may.0, record { fits = c.requires.may.1.fits; free = c.in-Some.ensures.free c.requires.may.0 c.requires.may.1.fits })

pub arrive-requires-clause-entry_room : goal.arrive-requires-clause-entry_room
arrive-requires-clause-entry_room c = subst (λ (e : Event). entries_at_most e ≤ vec_capacity c.args.entries.now) c.in-Arrive.is c.requires.entry_room

pub make_work_turn-requires-clause-entry_room : goal.make_work_turn-requires-clause-entry_room
make_work_turn-requires-clause-entry_room c = room_of_four c.args.event (vec_capacity c.args.entries.now) c.requires.entry_room

pub make_work_turn-requires-in-Some-clause-entry_room : goal.make_work_turn-requires-in-Some-clause-entry_room
make_work_turn-requires-in-Some-clause-entry_room c = room_of_four c.args.event (vec_capacity c.args.entries.now) c.requires.entry_room

pub destage-requires-clause-may : goal.destage-requires-clause-may
destage-requires-clause-may c = (c.requires.may.0, subst (λ (e : Event). MayCome c.requires.may.0 c.args.server.now e) c.in-Destage.is c.requires.may.1)

pub unreachable-requires-in-Job : goal.unreachable-requires-in-Job
unreachable-requires-in-Job c = no_background c.requires.may.0 c.args.server.now c.args.event c.requires.may.1 c.in-Job.is
