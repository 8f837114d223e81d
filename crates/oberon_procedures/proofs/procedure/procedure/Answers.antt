use Rattle.std.proofs.Common.{◌∙◌, ap}
use Rattle.oberon_tree.specs.Memory.{procedure_tree}
use Rattle.oberon_types.specs.Entities.{SignatureTree}
use Rattle.oberon_types.specs.Memory.{plain_signature}
use Rattle.oberon_rules.specs.Declarations.{constants_behind, variables_behind}
use Rattle.oberon_rules.specs.Procedures.{local_constants, local_variables}
use Rattle.oberon_rules.specs.Scopes.{Scopes}
use Rattle.oberon_infer.specs.Memory.{plain_scopes}
use Rattle.oberon_infer.proofs.AddsLaws.{adds_then, adds_as}
use Rattle.oberon_procedures.specs.Levels.{outside}
use Rattle.oberon_procedures.proofs.ProcedureLaws.{inside_is, left_behind, procedure_speaks}
use Rattle.oberon_procedures.proofs.procedure.procedure.Goals as goal

pub returns-clause-behind : goal.returns-clause-behind
returns-clause-behind c =
    let me = c.args.me.now in
    let s = plain_scopes c.args.scopes.now in
    let p = procedure_tree c.args.tree.now in
    let two = inside_is me s _ _ p (plain_signature c.in_ok-signature.signature) c.requires.procedure c.requires.locals c.in_ok-signature.ensures.behind c.in_ok-signature.ensures.is c.in_ok-declare_procedure.ensures.behind in
    let three = c.in_ok-local_constants.ensures.behind ∙ ap (λ (t : Scopes). constants_behind me t (local_constants p.locals.constants)) two in
    c.leave.ensures.behind
    ∙ ap outside (c.in_ok-local_variables.ensures.behind ∙ ap (λ (t : Scopes). variables_behind me t (local_variables p.locals.variables)) three)
    ∙ left_behind me s p c.requires.procedure c.requires.locals

pub returns-clause-says : goal.returns-clause-says
returns-clause-says c =
    let me = c.args.me.now in
    let s = plain_scopes c.args.scopes.now in
    let p = procedure_tree c.args.tree.now in
    let two = inside_is me s _ _ p (plain_signature c.in_ok-signature.signature) c.requires.procedure c.requires.locals c.in_ok-signature.ensures.behind c.in_ok-signature.ensures.is c.in_ok-declare_procedure.ensures.behind in
    let three = c.in_ok-local_constants.ensures.behind ∙ ap (λ (t : Scopes). constants_behind me t (local_constants p.locals.constants)) two in
    let four = c.in_ok-local_variables.ensures.behind ∙ ap (λ (t : Scopes). variables_behind me t (local_variables p.locals.variables)) three in
    let result = c.in_ok-result_type.ensures ∙ ap (λ (g : SignatureTree). g.result_type) c.in_ok-signature.ensures.is in
    adds_as (adds_then (adds_then (adds_then (adds_then (adds_then c.in_ok-signature.ensures.says c.in_ok-declare_procedure.ensures.says) c.in_ok-local_constants.ensures.says) c.in_ok-local_variables.ensures.says) c.in_ok-work.ensures) c.in_ok-end_name.ensures) (λ rest.
    procedure_speaks me s _ _ _ _ _ p rest c.requires.procedure c.requires.locals c.in_ok-signature.ensures.behind two three four result)
