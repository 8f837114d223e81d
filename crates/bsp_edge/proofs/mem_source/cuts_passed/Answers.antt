use Rattle.std.proofs.Common.{leb, leb-true, rules}
use Rattle.std.proofs.lemmas.Bool.{leb-false}
use Rattle.std.proofs.lemmas.List.Sorted.{IsPartitionPoint-from_clause, IsPartitionedBy-leb}
use Rattle.bsp_edge.proofs.mem_source.cuts_passed.Goals as goal

pub returns-clause-passed : goal.returns-clause-passed
returns-clause-passed c =
    let parted = IsPartitionedBy-leb (λ cut. cut) _ c.args.offset c.requires in
    let point = IsPartitionPoint-from_clause (λ cut. leb cut c.args.offset) _ _ c.partition_point.ensures.partitioned parted (λ a r q k. search rules) in
    λ k d low below. leb-true _ _ (point.0 k d low below)

pub returns-clause-ahead : goal.returns-clause-ahead
returns-clause-ahead c =
    let parted = IsPartitionedBy-leb (λ cut. cut) _ c.args.offset c.requires in
    let point = IsPartitionPoint-from_clause (λ cut. leb cut c.args.offset) _ _ c.partition_point.ensures.partitioned parted (λ a r q k. search rules) in
    λ k d low below. leb-false _ _ (point.1 k d low below)
