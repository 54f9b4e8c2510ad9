use Rattle.std.proofs.Common.{◌≡◌, ◌-◌}
use Rattle.std.specs.Prelude.{find}
use Rattle.std.specs.List.{range_with_len}
use Rattle.geometry_map.specs.DefectMap.{is_open}
use Rattle.geometry_map.proofs.slips.first_open.Given as goal

-- the first open sector is among those that were not looked at
abbrev pub invariant-loop-p : goal.invariant-loop-p
invariant-loop-p l =
    find (is_open l.primary l.pairs l.taken) (range_with_len l.from (l.to - l.from))
    ≡ find (is_open l.primary l.pairs l.taken) (range_with_len l.p (l.to - l.p))
