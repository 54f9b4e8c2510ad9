use Rattle.std.proofs.Common.{ap}
use Rattle.sector_store.specs.State.{Contained}
use Rattle.sector_store.proofs.Calls.{within_platter, placed_by, below_try, keeps_try, found_stored}
use Rattle.sector_store.proofs.store.Store.try_block.Goals as goal

pub try_sector-seen-requires-clause-sector : goal.try_sector-seen-requires-clause-sector
try_sector-seen-requires-clause-sector c =
    within_platter c.args.self.now c.self.inside.map c.self.inside.placer c.self.inside.platter c.args.b c.place-p.result c.blocks_are_at_user_sectors.ensures c.stands.ensures
    (ap (λ (s : Contained). s.map) c.self.view_is) (ap (λ (s : Contained). s.platter) c.self.view_is) c.self.invariant.placer c.requires.block c.place-p.ensures

pub invariant_of-self : goal.invariant_of-self
invariant_of-self c = record {
  placer = c.self.invariant.placer;
  maps = c.quiet_operations_keep_maps.ensures c.self.inside.map c.self.inside.next c.self.inside.ready c.self.inside.platter c.try_sector-seen.new.self c.self.invariant.maps
      (below_try c.self.inside.platter c.try_sector-seen.new.self c.place-p.result c.args.stage c.try_sector-seen.result c.try_sector-seen.ensures);
}

pub returns-clause-keeps : goal.returns-clause-keeps
returns-clause-keeps c =
    keeps_try c.args.self.now c.self.inside.platter c.try_sector-seen.new.self c.args.b c.place-p.result c.args.stage c.try_sector-seen.result
    c.quiet_operations_keep_blocks.ensures c.stands.ensures (ap (λ (s : Contained). s.platter) c.self.view_is)
    (placed_by c.args.self.now c.self.inside.map c.self.inside.placer c.args.b c.place-p.result (ap (λ (s : Contained). s.map) c.self.view_is) c.self.invariant.placer c.requires.block c.place-p.ensures)
    c.try_sector-seen.ensures

pub returns-clause-found : goal.returns-clause-found
returns-clause-found c =
    found_stored c.args.self.now c.self.inside.platter c.try_sector-seen.new.self c.args.b c.place-p.result c.args.stage c.try_sector-seen.result c.answer_of.result
    c.tries_find_what_is_stored.ensures (ap (λ (s : Contained). s.platter) c.self.view_is)
    (placed_by c.args.self.now c.self.inside.map c.self.inside.placer c.args.b c.place-p.result (ap (λ (s : Contained). s.map) c.self.view_is) c.self.invariant.placer c.requires.block c.place-p.ensures)
    c.try_sector-seen.ensures c.answer_of.ensures
