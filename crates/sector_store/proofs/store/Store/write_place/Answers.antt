use Rattle.std.proofs.Common.{ap}
use Rattle.disk_base.specs.declared.payload.Payload.{Payload}
use Rattle.sector_store.specs.State.{Contained}
use Rattle.geometry_map.specs.DefectMap.{place_of}
use Rattle.sector_store.proofs.Calls.{within_platter, placed_by, below_write, writes}
use Rattle.sector_store.proofs.store.Store.write_place.Goals as goal

pub write-requires-clause-sector : goal.write-requires-clause-sector
write-requires-clause-sector c =
    within_platter c.args.self.now c.self.inside.map c.self.inside.placer c.self.inside.platter c.args.b c.place-p.result c.blocks_are_at_user_sectors.ensures c.stands.ensures
    (ap (λ (s : Contained). s.map) c.self.view_is) (ap (λ (s : Contained). s.platter) c.self.view_is) c.self.invariant.placer c.requires.block c.place-p.ensures

pub invariant_of-self : goal.invariant_of-self
invariant_of-self c = record {
  placer = c.self.invariant.placer;
  maps = c.quiet_operations_keep_maps.ensures c.self.inside.map c.self.inside.next c.self.inside.ready c.self.inside.platter c.write.new.self c.self.invariant.maps
      (below_write c.self.inside.platter c.write.new.self c.place-p.result (place_of c.args.self.now.map c.args.b) c.user-payload.result
      (placed_by c.args.self.now c.self.inside.map c.self.inside.placer c.args.b c.place-p.result (ap (λ (s : Contained). s.map) c.self.view_is) c.self.invariant.placer c.requires.block c.place-p.ensures)
      (c.blocks_are_at_user_sectors.ensures c.args.self.now.map c.stands.ensures.valid c.args.b c.requires.block).0
      (ap (λ (x : Payload). x.psn) c.user-payload.ensures) c.write.ensures.after);
}

pub returns-clause-done : goal.returns-clause-done
returns-clause-done c = λ ready.
    (writes c.args.self.now c.self.inside.platter c.write.new.self c.args.b c.place-p.result c.user-payload.result c.args.v.now c.write.result c.store_answer.result
    c.writes_store_one_block.ensures c.stands.ensures c.requires.block (ap (λ (s : Contained). s.platter) c.self.view_is)
    (placed_by c.args.self.now c.self.inside.map c.self.inside.placer c.args.b c.place-p.result (ap (λ (s : Contained). s.map) c.self.view_is) c.self.invariant.placer c.requires.block c.place-p.ensures)
    c.user-payload.ensures c.write.ensures.after c.write.ensures.answer c.store_answer.ensures ready).done

pub returns-clause-fault : goal.returns-clause-fault
returns-clause-fault c = λ ready.
    (writes c.args.self.now c.self.inside.platter c.write.new.self c.args.b c.place-p.result c.user-payload.result c.args.v.now c.write.result c.store_answer.result
    c.writes_store_one_block.ensures c.stands.ensures c.requires.block (ap (λ (s : Contained). s.platter) c.self.view_is)
    (placed_by c.args.self.now c.self.inside.map c.self.inside.placer c.args.b c.place-p.result (ap (λ (s : Contained). s.map) c.self.view_is) c.self.invariant.placer c.requires.block c.place-p.ensures)
    c.user-payload.ensures c.write.ensures.after c.write.ensures.answer c.store_answer.ensures ready).fault

pub returns-clause-cut : goal.returns-clause-cut
returns-clause-cut c = λ ready.
    (writes c.args.self.now c.self.inside.platter c.write.new.self c.args.b c.place-p.result c.user-payload.result c.args.v.now c.write.result c.store_answer.result
    c.writes_store_one_block.ensures c.stands.ensures c.requires.block (ap (λ (s : Contained). s.platter) c.self.view_is)
    (placed_by c.args.self.now c.self.inside.map c.self.inside.placer c.args.b c.place-p.result (ap (λ (s : Contained). s.map) c.self.view_is) c.self.invariant.placer c.requires.block c.place-p.ensures)
    c.user-payload.ensures c.write.ensures.after c.write.ensures.answer c.store_answer.ensures ready).cut

pub returns-clause-others : goal.returns-clause-others
returns-clause-others c = λ ready.
    (writes c.args.self.now c.self.inside.platter c.write.new.self c.args.b c.place-p.result c.user-payload.result c.args.v.now c.write.result c.store_answer.result
    c.writes_store_one_block.ensures c.stands.ensures c.requires.block (ap (λ (s : Contained). s.platter) c.self.view_is)
    (placed_by c.args.self.now c.self.inside.map c.self.inside.placer c.args.b c.place-p.result (ap (λ (s : Contained). s.map) c.self.view_is) c.self.invariant.placer c.requires.block c.place-p.ensures)
    c.user-payload.ensures c.write.ensures.after c.write.ensures.answer c.store_answer.ensures ready).others
