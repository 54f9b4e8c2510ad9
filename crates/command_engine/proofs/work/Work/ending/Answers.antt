use Rattle.std.proofs.Common.{refl}
use Rattle.std.proofs.lemmas.Bool.{lt-ltb}
use Rattle.cdb_reader.specs.declared.plan.Moving as moving
use Rattle.command_engine.proofs.Nothing.{nothing_at_read, nothing_in_list}
use Rattle.command_engine.proofs.Lists.{hand_named}
use Rattle.command_engine.proofs.work.Work.ending.Goals as goal

pub returns-in-Reading-clause-last : goal.returns-in-Reading-clause-last
returns-in-Reading-clause-last c =
    let left = lt-ltb c.in-Reading.reading.at c.in-Reading.reading.end c.if-reading.true in
    rw (← c.self.view_is, c.in-Reading.is, c.fault.ensures, left)
    (nothing_at_read c.self.inside.settings.retry c.in-Reading.reading c.self.inside.step (rw c.in-Reading.is at c.self.invariant.under_way))

pub reassigned-requires : goal.reassigned-requires
reassigned-requires c =
    let m : moving.Moving = record { blocks = c.in-Moving.list.blocks.items; hardened = c.in-Moving.list.hardened } in
    rw c.in_hand.ensures (hand_named m c.in-Moving.list.moved _ refl (rw c.in-Moving.is at c.self.invariant.under_way).addresses)

pub returns-in-Moving-clause-last : goal.returns-in-Moving-clause-last
returns-in-Moving-clause-last c =
    let m : moving.Moving = record { blocks = c.in-Moving.list.blocks.items; hardened = c.in-Moving.list.hardened } in
    rw (← c.self.view_is, c.in-Moving.is, c.reassigned.ensures, c.in_hand.ensures)
    (nothing_in_list c.self.inside.settings.retry c.in-Moving.list.moved m _ c.self.inside.step refl (rw c.in-Moving.is at c.self.invariant.under_way))
