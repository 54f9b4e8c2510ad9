use Rattle.std.proofs.Common.{ap, subst, sym, refl, ◌∙◌}
use Rattle.disk_base.specs.declared.payload.Payload.{Payload}
use Rattle.platter_model.specs.State.{State, after_write}
use Rattle.geometry_map.specs.DefectMap.{DefectMap}
use Rattle.geometry_map.specs.Chains.{IsFreeSpare}
use Rattle.sector_store.specs.State.{Contained}
use Rattle.sector_store.specs.Spares.{KeepsStored}
use Rattle.sector_store.proofs.Calls.{below_write}
use Rattle.sector_store.proofs.SpareSectors.{on_own, within}
use Rattle.sector_store.proofs.store.Store.write_spare.Goals as goal

pub write-requires-clause-sector : goal.write-requires-clause-sector
write-requires-clause-sector c =
    within c.self.inside.map c.args.s c.self.inside.platter c.spares_are_user_sectors.ensures
    (subst (λ (m : DefectMap). IsFreeSpare m c.args.s) (sym (ap (λ (s : Contained). s.map) c.self.view_is)) c.requires.free) c.self.invariant.maps.sectors

pub write-requires-clause-own : goal.write-requires-clause-own
write-requires-clause-own c = on_own c.args.s c.args.b c.args.v.now c.payload_for-payload.result c.payload_for-payload.ensures

pub invariant_of-self : goal.invariant_of-self
invariant_of-self c = record {
  placer = c.self.invariant.placer;
  maps = c.quiet_operations_keep_maps.ensures c.self.inside.map c.self.inside.next c.self.inside.ready c.self.inside.platter c.write.new.self c.self.invariant.maps
      (below_write c.self.inside.platter c.write.new.self c.args.s c.args.s c.payload_for-payload.result refl
      (c.spares_are_user_sectors.ensures c.args.self.now.map c.args.s c.requires.free).0
      (on_own c.args.s c.args.b c.args.v.now c.payload_for-payload.result c.payload_for-payload.ensures) c.write.ensures.after);
}

pub returns-clause-keeps : goal.returns-clause-keeps
returns-clause-keeps c =
    subst (λ (x : State). KeepsStored c.args.self.now.map c.args.self.now.platter.ops x.ops)
    (sym (c.write.ensures.after ∙ ap (λ (x : State). after_write x c.args.s c.payload_for-payload.result) (ap (λ (s : Contained). s.platter) c.self.view_is)))
    (c.writes_to_spares_keep_blocks.ensures c.args.self.now.map c.args.self.now.platter c.args.s c.payload_for-payload.result c.stands.ensures.valid c.requires.free
    (on_own c.args.s c.args.b c.args.v.now c.payload_for-payload.result c.payload_for-payload.ensures))
