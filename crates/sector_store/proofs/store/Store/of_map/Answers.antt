use Rattle.std.proofs.Common.{◌∙◌}
use Rattle.sector_store.proofs.Made.{fresh_keeps}
use Rattle.sector_store.proofs.store.Store.of_map.Goals as goal

pub invariant_of-result-2 : goal.invariant_of-result-2
invariant_of-result-2 c = record {
  placer = c.of-placer.ensures;
  maps = fresh_keeps c.factory_stores_keep_maps.ensures c.args.map _ c.total.result c.size.result c.as_slice.result.now c.in_ok-payloads.payloads.items
      c.requires c.lists_are_valid.ensures (c.platter.view_is ∙ c.in_ok-platter.ensures) c.total.ensures.value c.size.ensures c.as_slice.ensures.value c.in_ok-payloads.ensures;
}
