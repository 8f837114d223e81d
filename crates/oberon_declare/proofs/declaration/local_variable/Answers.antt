use Rattle.std.specs.Prelude.{List, Option, refl}
use Rattle.std.specs.Option.{option_copied}
use Rattle.std.proofs.Common.{sym, ◌∙◌, ap}
use Rattle.std.proofs.lemmas.Result.{on_ok_weaker}
use Rattle.oberon_tree.specs.declared.leaf.Ident.{Ident}
use Rattle.oberon_tree.specs.Memory.{local_variable_tree}
use Rattle.oberon_types.specs.Types.{TyTree}
use Rattle.oberon_rules.specs.Scopes.{Said, is_declared}
use Rattle.oberon_rules.specs.Declarations.{own_variable}
use Rattle.oberon_rules.specs.Procedures.{idents, idents_behind, idents_say, local_variable}
use Rattle.oberon_rules.specs.TypeRules.{ident_defs, first_new}
use Rattle.oberon_infer.specs.Memory.{plain_scopes}
use Rattle.oberon_declare.specs.Variables.{name_of_first, variables_type, variables_type_says}
use Rattle.oberon_declare.proofs.ListLaws.{list_behind_by, list_says_by, local_first, local_behind, local_says}
use Rattle.oberon_declare.proofs.SaidLaws.{both_add}
use Rattle.oberon_declare.proofs.declaration.local_variable.Goals as goal

pub returns-clause-behind : goal.returns-clause-behind
returns-clause-behind c =
    let me = c.args.me.now in
    let s = plain_scopes c.args.scopes.now in
    let x = local_variable_tree c.args.tree.now in
    let v = local_variable x in
    let ds = ident_defs v.names in
    on_ok_weaker c.declare_locals.result (λ e. e
    ∙ ap (λ (u : TyTree). idents_behind s (idents x.names) (own_variable u)) (c.in_ok-ty.ensures.is ∙ ap (λ (f : Option Ident). variables_type me s f v.of_type) (c.first_new_ident-first.ensures ∙ sym (local_first (is_declared s) x)))
    ∙ sym (local_behind s x _)
    ∙ list_behind_by me s v (first_new (is_declared s) ds) refl) c.declare_locals.ensures.behind

pub returns-clause-says : goal.returns-clause-says
returns-clause-says c =
    let me = c.args.me.now in
    let s = plain_scopes c.args.scopes.now in
    let x = local_variable_tree c.args.tree.now in
    let v = local_variable x in
    let ds = ident_defs v.names in
    let first = name_of_first (first_new (is_declared s) ds) in
    on_ok_weaker c.declare_locals.result (λ a. both_add _ _ _ _ _ _ c.in_ok-ty.ensures.says a (λ rest.
    ap (λ (u : TyTree). variables_type_says me s (option_copied c.first_new_ident-first.result) v.of_type (idents_say s (idents x.names) (own_variable u) rest)) c.in_ok-ty.ensures.is
    ∙ ap (λ (f : Option Ident). variables_type_says me s f v.of_type (idents_say s (idents x.names) (own_variable (variables_type me s f v.of_type)) rest)) (c.first_new_ident-first.ensures ∙ sym (local_first (is_declared s) x))
    ∙ ap (λ (said : List Said). variables_type_says me s first v.of_type said) (sym (local_says s x (own_variable (variables_type me s first v.of_type)) rest))
    ∙ list_says_by me s v (first_new (is_declared s) ds) rest refl)) c.declare_locals.ensures.says
