use Rattle.std.proofs.Common.{◌+◌, ◌*◌, ltb, ltb-true, rules}
use Rattle.std.proofs.lemmas.Bool.{ltb-false}
use Rattle.std.proofs.lemmas.List.Sorted.{IsPartitionPoint-from_clause, IsPartitionedBy-ltb}
use Rattle.bsp_edge.specs.Orders.{quiet_rank}
use Rattle.bsp_edge.proofs.mem_source.polls_passed.Goals as goal

pub returns-clause-passed : goal.returns-clause-passed
returns-clause-passed c =
    let parted = IsPartitionedBy-ltb quiet_rank _ (2 * c.args.offset + 1) c.requires in
    let point = IsPartitionPoint-from_clause (λ stop. ltb (quiet_rank stop) (2 * c.args.offset + 1)) _ _ c.partition_point.ensures.partitioned parted (λ a r q k. search rules) in
    λ k d low below. ltb-true _ _ (point.0 k d low below)

pub returns-clause-ahead : goal.returns-clause-ahead
returns-clause-ahead c =
    let parted = IsPartitionedBy-ltb quiet_rank _ (2 * c.args.offset + 1) c.requires in
    let point = IsPartitionPoint-from_clause (λ stop. ltb (quiet_rank stop) (2 * c.args.offset + 1)) _ _ c.partition_point.ensures.partitioned parted (λ a r q k. search rules) in
    λ k d low below. ltb-false _ _ (point.1 k d low below)
