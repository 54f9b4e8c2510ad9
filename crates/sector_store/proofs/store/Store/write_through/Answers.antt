use Rattle.std.proofs.Common.{sym, subst}
use Rattle.disk_base.specs.declared.block.Value.TheVariants.{Data}
use Rattle.sector_store.specs.Stored.{StoresAt, KeepsOthers}
use Rattle.sector_store.specs.State.{Contained}
use Rattle.sector_store.proofs.Written.{after_done, after_fault, after_cut}
use Rattle.sector_store.proofs.store.Store.write_through.Goals as goal

pub returns-in-Done-clause-stored : goal.returns-in-Done-clause-stored
returns-in-Done-clause-stored c ready is =
    subst (λ (x : Contained). StoresAt c.args.self.now.map x.platter.ops c.args.b (Data c.args.block.now)) (sym c.leave_out.ensures.same) (c.write_place.ensures.done ready c.in-Done.is)

pub returns-in-Done-clause-others : goal.returns-in-Done-clause-others
returns-in-Done-clause-others c ready =
    subst (λ (x : Contained). KeepsOthers c.args.self.now.map c.args.self.now.platter.ops x.platter.ops c.args.b) (sym c.leave_out.ensures.same) (c.write_place.ensures.others ready)
