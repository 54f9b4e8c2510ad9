use Rattle.std.proofs.Common.{ap, subst, sym}
use Rattle.geometry_map.specs.DefectMap.{DefectMap}
use Rattle.geometry_map.specs.Chains.{IsFreeSpare}
use Rattle.sector_store.specs.State.{Contained}
use Rattle.sector_store.proofs.Calls.{below_try}
use Rattle.sector_store.proofs.SpareSectors.{within}
use Rattle.sector_store.proofs.store.Store.check_spare.Goals as goal

pub try_sector-seen-requires-clause-sector : goal.try_sector-seen-requires-clause-sector
try_sector-seen-requires-clause-sector c =
    within c.self.inside.map c.args.s c.self.inside.platter c.spares_are_user_sectors.ensures
    (subst (λ (m : DefectMap). IsFreeSpare m c.args.s) (sym (ap (λ (s : Contained). s.map) c.self.view_is)) c.requires.free) c.self.invariant.maps.sectors

pub invariant_of-self : goal.invariant_of-self
invariant_of-self c = record {
  placer = c.self.invariant.placer;
  maps = c.quiet_operations_keep_maps.ensures c.self.inside.map c.self.inside.next c.self.inside.ready c.self.inside.platter c.try_sector-seen.new.self c.self.invariant.maps
      (below_try c.self.inside.platter c.try_sector-seen.new.self c.args.s c.default-plain.result c.try_sector-seen.result c.try_sector-seen.ensures);
}
