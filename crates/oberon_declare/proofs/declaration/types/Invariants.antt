use Rattle.std.specs.Prelude.{◌≡◌, drop, map}
use Rattle.oberon_tree.specs.Memory.{type_declaration_tree}
use Rattle.oberon_rules.specs.Declarations.{types_behind, types_declared}
use Rattle.oberon_infer.specs.Adds.{Goes}
use Rattle.oberon_infer.specs.Memory.{plain_scopes}
use Rattle.oberon_declare.proofs.declaration.types.Given as goal

abbrev pub invariant-loop-item : goal.invariant-loop-item
invariant-loop-item l = record {
  behind : types_behind l.me (plain_scopes l.scopes) (map type_declaration_tree (drop l.item-index l.item-items)) ≡ types_behind l.me (plain_scopes l.initial.scopes) (map type_declaration_tree l.item-items);
  says : Goes l.initial.said.items l.said.items (types_declared l.me (plain_scopes l.initial.scopes) (map type_declaration_tree l.item-items)) (types_declared l.me (plain_scopes l.scopes) (map type_declaration_tree (drop l.item-index l.item-items)));
}
