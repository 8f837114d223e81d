use Rattle.std.proofs.Common.{arith}
use Rattle.std.proofs.lemmas.List.Sorted.{IsNonDecreasingBy-from_sort}
use Rattle.bsp_edge.proofs.PollLaws.{polls_rise}
use Rattle.bsp_edge.proofs.mem_source.MemSource.new.Goals as goal

pub invariant_of-result : goal.invariant_of-result
invariant_of-result c = record {
  inside = omega arith;
  cuts_rise = IsNonDecreasingBy-from_sort (λ x. x) _ c.sort_unstable.ensures.sorted;
  polls_rise = polls_rise _ c.sort_unstable-2.ensures.sorted;
}
