use Rattle.std.proofs.Common.{ap, subst, sym}
use Rattle.platter_model.specs.State.{State}
use Rattle.sector_store.specs.State.{Contained}
use Rattle.sector_store.specs.Happening.{MayHappen}
use Rattle.sector_store.proofs.Calls.{quiet_world, keeps_world}
use Rattle.sector_store.proofs.store.Store.world.Goals as goal

pub invariant_of-self : goal.invariant_of-self
invariant_of-self c = record {
  placer = c.self.invariant.placer;
  maps = c.quiet_operations_keep_maps.ensures c.self.inside.map c.self.inside.next c.self.inside.ready c.self.inside.platter c.happen.new.platter c.self.invariant.maps
      (quiet_world c.self.inside.platter c.happen.new.platter c.args.w.now
      (subst (λ (x : State). MayHappen x c.args.w.now) (sym (ap (λ (s : Contained). s.platter) c.self.view_is)) c.requires.may) c.happen.ensures);
}

pub returns-clause-keeps : goal.returns-clause-keeps
returns-clause-keeps c =
    keeps_world c.args.self.now c.self.inside.platter c.happen.new.platter c.args.w.now c.quiet_operations_keep_blocks.ensures c.stands.ensures
    (ap (λ (s : Contained). s.platter) c.self.view_is) c.happen.ensures
