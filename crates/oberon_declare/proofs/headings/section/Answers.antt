use Rattle.std.specs.Prelude.{Bool, ◌++◌, map, Option}
use Rattle.std.specs.Option.{option_copied}
use Rattle.std.proofs.Common.{◌∙◌, ap}
use Rattle.std.proofs.lemmas.Result.{on_ok_weaker}
use Rattle.oberon_tree.specs.declared.leaf.Ident.{Ident}
use Rattle.oberon_tree.specs.Memory.{section_tree}
use Rattle.oberon_types.specs.Memory.{plain_ty, plain_param}
use Rattle.oberon_types.specs.Types.{TyTree}
use Rattle.oberon_rules.specs.Procedures.{idents, idents_behind, idents_say, parameter, by_var, section_is, section_type_says}
use Rattle.oberon_infer.specs.Memory.{plain_scopes}
use Rattle.oberon_declare.specs.Headings.{params_of}
use Rattle.oberon_declare.proofs.HeadingLaws.{section_type_is}
use Rattle.oberon_declare.proofs.SaidLaws.{both_add}
use Rattle.oberon_declare.proofs.headings.section.Goals as goal

pub returns-clause-behind : goal.returns-clause-behind
returns-clause-behind c =
    let me = c.args.me.now in
    let s = plain_scopes c.args.scopes.now in
    let x = section_tree c.args.tree.now in
    let t = section_type_is me s x (option_copied c.first_new_ident-first.result) (plain_ty c.in_ok-ty.ty) c.first_new_ident-first.ensures c.in_ok-ty.ensures.is in
    on_ok_weaker c.parameters.result (λ e. e ∙ ap (λ (v : Bool). idents_behind s (idents x.names) (parameter v (plain_ty c.in_ok-ty.ty))) c.is_some.ensures ∙ ap (λ (u : TyTree). idents_behind s (idents x.names) (parameter (by_var x) u)) t) c.parameters.ensures.behind

pub returns-clause-says : goal.returns-clause-says
returns-clause-says c =
    let me = c.args.me.now in
    let s = plain_scopes c.args.scopes.now in
    let x = section_tree c.args.tree.now in
    let f = option_copied c.first_new_ident-first.result in
    let t = section_type_is me s x f (plain_ty c.in_ok-ty.ty) c.first_new_ident-first.ensures c.in_ok-ty.ensures.is in
    on_ok_weaker c.parameters.result (λ a. both_add _ _ _ _ _ _ c.in_ok-ty.ensures.says a (λ rest.
    ap (λ (v : Bool). section_type_says me s x f (idents_say s (idents x.names) (parameter v (plain_ty c.in_ok-ty.ty)) rest)) c.is_some.ensures
    ∙ ap (λ (u : TyTree). section_type_says me s x f (idents_say s (idents x.names) (parameter (by_var x) u) rest)) t
    ∙ ap (λ (g : Option Ident). section_type_says me s x g (idents_say s (idents x.names) (parameter (by_var x) (section_is me s x)) rest)) c.first_new_ident-first.ensures)) c.parameters.ensures.says

pub returns-clause-params : goal.returns-clause-params
returns-clause-params c =
    let me = c.args.me.now in
    let s = plain_scopes c.args.scopes.now in
    let x = section_tree c.args.tree.now in
    let t = section_type_is me s x (option_copied c.first_new_ident-first.result) (plain_ty c.in_ok-ty.ty) c.first_new_ident-first.ensures c.in_ok-ty.ensures.is in
    let old = map plain_param c.args.params.now.items in
    on_ok_weaker c.parameters.result (λ e. e ∙ ap (λ (v : Bool). old ++ params_of v (plain_ty c.in_ok-ty.ty) (idents x.names)) c.is_some.ensures ∙ ap (λ (u : TyTree). old ++ params_of (by_var x) u (idents x.names)) t) c.parameters.ensures.params
