use Rattle.std.proofs.Common.{◌≡◌, [], Some, sym, ◌∙◌}
use Rattle.geometry_map.specs.DefectMap.{next_spare_of}
use Rattle.store_tests.proofs.sector_store_tests.moves.free_spare.Goals as goal

pub returns-in-Some : goal.returns-in-Some
returns-in-Some c =
    let given : next_spare_of c.args.map.now [] ≡ Some c.in-Some.spare = sym c.next_spare.ensures ∙ c.in-Some.is in
    (c.the_next_spare_is_free.ensures c.args.map.now [] c.in-Some.spare given).free
