-- the block in hand is one of the list
use Rattle.std.proofs.Common.{refl}
use Rattle.cdb_reader.specs.declared.plan.Moving as moving
use Rattle.command_engine.proofs.Lists.{list_below}
use Rattle.command_engine.proofs.work.Work.need.Goals as goal

pub returns-in-Moving-clause-range : goal.returns-in-Moving-clause-range
returns-in-Moving-clause-range c =
    let m : moving.Moving = record { blocks = c.in-Moving.list.blocks.items; hardened = c.in-Moving.list.hardened } in
    rw (← c.self.view_is, c.in-Moving.is, c.of_moving.ensures, c.in_hand.ensures) (list_below m c.in-Moving.list.moved _ c.self.inside.step refl)
