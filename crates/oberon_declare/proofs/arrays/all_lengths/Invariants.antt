use Rattle.std.specs.Prelude.{◌≡◌, ◌++◌, drop}
use Rattle.oberon_tree.specs.Memory.{more_exprs_list}
use Rattle.oberon_infer.specs.Adds.{Goes}
use Rattle.oberon_infer.specs.Memory.{plain_scopes}
use Rattle.oberon_declare.specs.Arrays.{more_lengths, more_lengths_say}
use Rattle.oberon_declare.proofs.arrays.all_lengths.Given as goal

abbrev pub invariant-loop-next : goal.invariant-loop-next
invariant-loop-next l = record {
  found : l.found.items ++ more_lengths l.me (plain_scopes l.scopes) (more_exprs_list (drop l.next-index l.next-items)) ≡ l.initial.found.items ++ more_lengths l.me (plain_scopes l.scopes) (more_exprs_list l.next-items);
  says : Goes l.initial.said.items l.said.items (more_lengths_say l.me (plain_scopes l.scopes) (more_exprs_list l.next-items)) (more_lengths_say l.me (plain_scopes l.scopes) (more_exprs_list (drop l.next-index l.next-items)));
}
