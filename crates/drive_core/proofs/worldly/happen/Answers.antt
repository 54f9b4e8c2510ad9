use Rattle.std.proofs.Common.{subst}
use Rattle.platter_model.specs.declared.world.World.{World}
use Rattle.drive_scene.specs.declared.event.Event.TheVariants as event
use Rattle.drive_core.specs.Making.{MayCome}
use Rattle.drive_core.proofs.worldly.happen.Goals as goal

pub damage-requires-clause-may : goal.damage-requires-clause-may
damage-requires-clause-may c =
    (c.requires.may.0, subst (λ (w : World). MayCome c.requires.may.0 c.args.server.now (event.World w)) c.in-Damage.is c.requires.may.1)
