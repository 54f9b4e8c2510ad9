-- what happens from outside is one turn
use Rattle.std.proofs.lemmas.Result.{on_ok_weaker}
use Rattle.drive_scene.specs.declared.event.Event.TheVariants as event
use Rattle.script_runner.specs.Phasing.{MakesTurn}
use Rattle.script_runner.proofs.Outside.{happens}
use Rattle.script_runner.proofs.carrying.happen.Goals as goal

pub returns : goal.returns
returns c =
    on_ok_weaker c.make_turn.result (λ (made : MakesTurn c.args.drive.now (event.World c.args.world) c.make_turn.new.drive). happens c.args.drive.now c.make_turn.new.drive c.args.world made) c.make_turn.ensures
