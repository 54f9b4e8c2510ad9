-- what is picked isn't refused, and its turn takes what arrives
use Rattle.std.proofs.lemmas.Result.{on_ok_weaker}
use Rattle.drive_scene.specs.Run.{scene_of}
use Rattle.script_runner.specs.Wanted.{wanted_of}
use Rattle.script_runner.specs.Phasing.{MakesTurn}
use Rattle.script_runner.specs.Phase.{waiting_of}
use Rattle.script_runner.proofs.Picks.{picked_on, picked_can, not_refused, not_spent}
use Rattle.script_runner.proofs.Unmoved.{flightless}
use Rattle.script_runner.proofs.Taking.{ages_of, at_hand, takes_turn}
use Rattle.script_runner.proofs.phase.take_turn.Goals as goal

pub event_of-event-requires-clause-at_hand : goal.event_of-event-requires-clause-at_hand
event_of-event-requires-clause-at_hand c =
    let r = c.args.drive.now in
    let wanted = wanted_of c.args.queued.now in
    let on = picked_on r (waiting_of wanted) c.requires.picked.0 c.args.pick c.requires.picked.1 in
    at_hand (scene_of r) wanted c.args.pick (picked_can (scene_of r) wanted c.requires.picked.0 c.args.pick (flightless r) (ages_of r c.is_good.ensures.good) on.1)

pub make_turn-requires-clause-free : goal.make_turn-requires-clause-free
make_turn-requires-clause-free c =
    let r = c.args.drive.now in
    let wanted = wanted_of c.args.queued.now in
    let on = picked_on r (waiting_of wanted) c.requires.picked.0 c.args.pick c.requires.picked.1 in
    not_refused r wanted (wanted_of c.event_of-event.new.queued) c.args.pick c.event_of-event.result on.0 (not_spent r c.requires.room)
    (picked_can (scene_of r) wanted c.requires.picked.0 c.args.pick (flightless r) (ages_of r c.is_good.ensures.good) on.1) c.event_of-event.ensures

pub returns : goal.returns
returns c =
    let r = c.args.drive.now in
    let wanted = wanted_of c.args.queued.now in
    let left = wanted_of c.event_of-event.new.queued in
    let on = picked_on r (waiting_of wanted) c.requires.picked.0 c.args.pick c.requires.picked.1 in
    let can = picked_can (scene_of r) wanted c.requires.picked.0 c.args.pick (flightless r) (ages_of r c.is_good.ensures.good) on.1 in
    on_ok_weaker c.make_turn.result (λ (made : MakesTurn r c.event_of-event.result c.make_turn.new.drive). takes_turn r c.make_turn.new.drive wanted left c.requires.served c.args.pick c.event_of-event.result c.destages_leave_commands.ensures can c.event_of-event.ensures made) c.make_turn.ensures
