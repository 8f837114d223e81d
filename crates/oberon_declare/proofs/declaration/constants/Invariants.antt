use Rattle.std.specs.Prelude.{◌≡◌, drop, map}
use Rattle.oberon_tree.specs.Memory.{constant_tree}
use Rattle.oberon_rules.specs.Declarations.{constants_behind, constants_declared}
use Rattle.oberon_infer.specs.Adds.{Goes}
use Rattle.oberon_infer.specs.Memory.{plain_scopes}
use Rattle.oberon_declare.proofs.declaration.constants.Given as goal

abbrev pub invariant-loop-item : goal.invariant-loop-item
invariant-loop-item l = record {
  behind : constants_behind l.me (plain_scopes l.scopes) (map constant_tree (drop l.item-index l.item-items)) ≡ constants_behind l.me (plain_scopes l.initial.scopes) (map constant_tree l.item-items);
  says : Goes l.initial.said.items l.said.items (constants_declared l.me (plain_scopes l.initial.scopes) (map constant_tree l.item-items)) (constants_declared l.me (plain_scopes l.scopes) (map constant_tree (drop l.item-index l.item-items)));
}
