use Rattle.std.proofs.Common.{◌≡◌, map}
use Rattle.std.specs.List.{range_with_len}
use Rattle.sector_store.specs.Factory.{zero_block}
use Rattle.sector_store.proofs.factory.zeros.Given as goal

-- the blocks so far
abbrev pub invariant-loop-b : goal.invariant-loop-b
invariant-loop-b l = l.list.items ≡ map (zero_block l.map) (range_with_len 0 l.b)
