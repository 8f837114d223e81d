use Rattle.std.specs.Prelude.{◌≡◌, drop, map}
use Rattle.oberon_tree.specs.Memory.{local_variable_tree}
use Rattle.oberon_tree.specs.Trees.{LocalVariableTree}
use Rattle.oberon_rules.specs.Declarations.{variables_behind, variables_declared}
use Rattle.oberon_rules.specs.Procedures.{local_variable}
use Rattle.oberon_infer.specs.Adds.{Goes}
use Rattle.oberon_infer.specs.Memory.{plain_scopes}
use Rattle.oberon_declare.proofs.declaration.local_variables.Given as goal

abbrev pub invariant-loop-item : goal.invariant-loop-item
invariant-loop-item l = record {
  behind : variables_behind l.me (plain_scopes l.scopes) (map (λ (v : LocalVariableTree). local_variable v) (map local_variable_tree (drop l.item-index l.item-items))) ≡ variables_behind l.me (plain_scopes l.initial.scopes) (map (λ (v : LocalVariableTree). local_variable v) (map local_variable_tree l.item-items));
  says : Goes l.initial.said.items l.said.items (variables_declared l.me (plain_scopes l.initial.scopes) (map (λ (v : LocalVariableTree). local_variable v) (map local_variable_tree l.item-items))) (variables_declared l.me (plain_scopes l.scopes) (map (λ (v : LocalVariableTree). local_variable v) (map local_variable_tree (drop l.item-index l.item-items))));
}
