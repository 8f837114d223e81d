use Rattle.std.proofs.Common.{◌≤◌, length, option_copied}
use Rattle.target_graph.proofs.ListerLaws.{AreListersTo}
use Rattle.target_graph.proofs.address.listing.Given as goal

abbrev pub invariant-loop-index : goal.invariant-loop-index
invariant-loop-index l =
    record {
      are : AreListersTo l.targets (option_copied l.own) (option_copied l.other) l.index l.indices.items;
      few : length l.indices.items ≤ l.index;
    }
