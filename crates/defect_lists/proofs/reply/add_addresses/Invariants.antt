use Rattle.std.proofs.Common.{◌≡◌, ◌++◌, take}
use Rattle.std.specs.List.{flat_map}
use Rattle.defect_lists.specs.DefectData.{descriptor}
use Rattle.defect_lists.proofs.reply.add_addresses.Given as goal

-- the addresses of the sectors so far are added
abbrev pub invariant-loop-p : goal.invariant-loop-p
invariant-loop-p l = l.bytes.items ≡ l.initial.bytes.items ++ flat_map (descriptor l.map.size) (take l.p-index l.sectors)
