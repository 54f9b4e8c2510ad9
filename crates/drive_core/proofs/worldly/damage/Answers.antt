use Rattle.std.proofs.Common.{refl}
use Rattle.drive_core.proofs.WorldTurns.{damaged, may_happen}
use Rattle.drive_core.proofs.worldly.damage.Goals as goal

pub world-requires-clause-may : goal.world-requires-clause-may
world-requires-clause-may c =
    may_happen c.requires.may.0 c.args.server.now c.args.d c.requires.may.1.fits c.stands.ensures.there.sectors c.requires.may.1.served

pub returns : goal.returns
returns c = record {
  moves = λ s fits. damaged s c.args.server.now
      (record { store = c.world.new.self; set = c.args.server.now.set; commands = c.args.server.now.commands; arrived = c.args.server.now.arrived; known = c.args.server.now.known })
      c.args.d c.damage_turns_are_good.ensures fits c.world.ensures.after refl refl refl refl c.world.ensures.keeps c.stands-2.ensures.there c.stands-2.ensures.finds c.stands-2.ensures.may;
}
