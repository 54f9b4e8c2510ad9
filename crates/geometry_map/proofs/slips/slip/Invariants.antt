use Rattle.std.proofs.Common.{◌≡◌, ◌+◌, ◌≤◌, drop}
use Rattle.geometry_map.specs.Slips.{slipped}
use Rattle.geometry_map.proofs.slips.slip.Given as goal

-- the rest of the list makes of the place so far what the whole list makes of `at`
abbrev pub invariant-loop-defect : goal.invariant-loop-defect
invariant-loop-defect l = (slipped l.place (drop l.defect-index l.primary) ≡ slipped l.at l.primary) × (l.place ≤ l.at + l.defect-index)
