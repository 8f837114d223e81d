use Rattle.std.specs.Prelude.{Option, refl}
use Rattle.std.specs.Option.{option_copied}
use Rattle.std.proofs.Common.{◌∙◌, ap}
use Rattle.std.proofs.lemmas.Result.{on_ok_weaker}
use Rattle.oberon_tree.specs.declared.leaf.Ident.{Ident}
use Rattle.oberon_tree.specs.Memory.{variable_tree}
use Rattle.oberon_types.specs.Types.{TyTree}
use Rattle.oberon_rules.specs.Scopes.{is_declared}
use Rattle.oberon_rules.specs.Declarations.{own_variable, names_behind, names_say}
use Rattle.oberon_rules.specs.TypeRules.{ident_defs, first_new}
use Rattle.oberon_infer.specs.Memory.{plain_scopes}
use Rattle.oberon_declare.specs.Variables.{variables_type, variables_type_says}
use Rattle.oberon_declare.proofs.ListLaws.{list_behind_by, list_says_by}
use Rattle.oberon_declare.proofs.SaidLaws.{both_add}
use Rattle.oberon_declare.proofs.declaration.variable.Goals as goal

pub returns-clause-behind : goal.returns-clause-behind
returns-clause-behind c =
    let me = c.args.me.now in
    let s = plain_scopes c.args.scopes.now in
    let v = variable_tree c.args.tree.now in
    let ds = ident_defs v.names in
    on_ok_weaker c.declare_variables.result (λ e. e
    ∙ ap (λ (u : TyTree). names_behind s ds (own_variable u)) (c.in_ok-ty.ensures.is ∙ ap (λ (f : Option Ident). variables_type me s f v.of_type) c.first_new-first.ensures)
    ∙ list_behind_by me s v (first_new (is_declared s) ds) refl) c.declare_variables.ensures.behind

pub returns-clause-says : goal.returns-clause-says
returns-clause-says c =
    let me = c.args.me.now in
    let s = plain_scopes c.args.scopes.now in
    let v = variable_tree c.args.tree.now in
    let ds = ident_defs v.names in
    on_ok_weaker c.declare_variables.result (λ a. both_add _ _ _ _ _ _ c.in_ok-ty.ensures.says a (λ rest.
    ap (λ (u : TyTree). variables_type_says me s (option_copied c.first_new-first.result) v.of_type (names_say s ds (own_variable u) rest)) c.in_ok-ty.ensures.is
    ∙ ap (λ (f : Option Ident). variables_type_says me s f v.of_type (names_say s ds (own_variable (variables_type me s f v.of_type)) rest)) c.first_new-first.ensures
    ∙ list_says_by me s v (first_new (is_declared s) ds) rest refl)) c.declare_variables.ensures.says
