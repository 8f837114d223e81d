use Rattle.std.specs.Prelude.{◌≡◌, ◌++◌, drop, map}
use Rattle.oberon_tree.specs.declared.leaf.NextIdent.{NextIdent}
use Rattle.oberon_types.specs.Memory.{plain_ty, plain_param}
use Rattle.oberon_rules.specs.Procedures.{idents_behind, idents_say, parameter}
use Rattle.oberon_infer.specs.Adds.{Goes}
use Rattle.oberon_infer.specs.Memory.{plain_scopes}
use Rattle.oberon_declare.specs.Headings.{params_of}
use Rattle.oberon_declare.proofs.headings.parameters.Given as goal

abbrev pub invariant-loop-next : goal.invariant-loop-next
invariant-loop-next l = record {
  behind : idents_behind (plain_scopes l.scopes) (map (λ (n : NextIdent). n.ident) (drop l.next-index l.next-items)) (parameter l.by_var (plain_ty l.ty)) ≡ idents_behind (plain_scopes l.initial.scopes) (map (λ (n : NextIdent). n.ident) l.next-items) (parameter l.by_var (plain_ty l.ty));
  says : Goes l.initial.said.items l.said.items (idents_say (plain_scopes l.initial.scopes) (map (λ (n : NextIdent). n.ident) l.next-items) (parameter l.by_var (plain_ty l.ty))) (idents_say (plain_scopes l.scopes) (map (λ (n : NextIdent). n.ident) (drop l.next-index l.next-items)) (parameter l.by_var (plain_ty l.ty)));
  params : map plain_param l.params.items ++ params_of l.by_var (plain_ty l.ty) (map (λ (n : NextIdent). n.ident) (drop l.next-index l.next-items)) ≡ map plain_param l.initial.params.items ++ params_of l.by_var (plain_ty l.ty) (map (λ (n : NextIdent). n.ident) l.next-items);
}
