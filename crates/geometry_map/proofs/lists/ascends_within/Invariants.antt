use Rattle.std.proofs.Common.{drop}
use Rattle.std.specs.Prelude.{◌↔◌}
use Rattle.geometry_map.specs.DefectMap.{AscendsWithin}
use Rattle.geometry_map.proofs.lists.ascends_within.Given as goal

-- what is left ascends from where the list has come to exactly where the whole does
abbrev pub invariant-loop-p : goal.invariant-loop-p
invariant-loop-p l = AscendsWithin l.low l.high l.sectors ↔ AscendsWithin l.from l.high (drop l.p-index l.sectors)
