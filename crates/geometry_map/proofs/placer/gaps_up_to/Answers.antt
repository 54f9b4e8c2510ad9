-- The closure answers by the test of the clause.
use Rattle.std.proofs.Common.{rules}
use Rattle.std.specs.Prelude.{nat_le}
use Rattle.std.proofs.lemmas.List.Sorted.{IsPartitionPoint-from_clause}
use Rattle.geometry_map.proofs.placer.gaps_up_to.Goals as goal

pub returns-clause-split : goal.returns-clause-split
returns-clause-split c parted =
    IsPartitionPoint-from_clause (λ g. nat_le g c.args.block) c.args.gaps.now c.partition_point.result c.partition_point.ensures.partitioned parted (λ a r q k. search rules)
