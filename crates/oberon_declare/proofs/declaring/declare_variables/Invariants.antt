use Rattle.std.specs.Prelude.{◌≡◌, drop, map}
use Rattle.oberon_tree.specs.declared.leaf.NextIdentDef.{NextIdentDef}
use Rattle.oberon_types.specs.Memory.{plain_ty}
use Rattle.oberon_rules.specs.Declarations.{own_variable, names_behind, names_say}
use Rattle.oberon_infer.specs.Adds.{Goes}
use Rattle.oberon_infer.specs.Memory.{plain_scopes}
use Rattle.oberon_declare.proofs.declaring.declare_variables.Given as goal

abbrev pub invariant-loop-next : goal.invariant-loop-next
invariant-loop-next l = record {
  behind : names_behind (plain_scopes l.scopes) (map (λ (n : NextIdentDef). n.ident) (drop l.next-index l.next-items)) (own_variable (plain_ty l.ty)) ≡ names_behind (plain_scopes l.initial.scopes) (map (λ (n : NextIdentDef). n.ident) l.next-items) (own_variable (plain_ty l.ty));
  says : Goes l.initial.said.items l.said.items (names_say (plain_scopes l.initial.scopes) (map (λ (n : NextIdentDef). n.ident) l.next-items) (own_variable (plain_ty l.ty))) (names_say (plain_scopes l.scopes) (map (λ (n : NextIdentDef). n.ident) (drop l.next-index l.next-items)) (own_variable (plain_ty l.ty)));
}
