use Rattle.std.specs.Prelude.{Bool, if◌then◌else◌}
use Rattle.std.proofs.Common.{sym, ◌∙◌, ap}
use Rattle.oberon_tree.specs.Memory.{type_tree}
use Rattle.oberon_rules.specs.Declarations.{origin_at, new_says}
use Rattle.oberon_rules.specs.TypeRules.{type_says}
use Rattle.oberon_infer.specs.Memory.{plain_scopes}
use Rattle.oberon_declare.proofs.SaidLaws.{adds_as, on_ok_always}
use Rattle.oberon_declare.proofs.declaration.declare_type.Goals as goal

pub returns-clause-says : goal.returns-clause-says
returns-clause-says c =
    let me = c.args.me.now in
    let s = plain_scopes c.args.scopes.now in
    let x = c.args.tree.now in
    on_ok_always c.declare.result _ (adds_as _ _ _ _ c.in_ok-ty.ensures.says (λ rest.
    sym (ap (λ (b : Bool). if b then new_says s x.name.name rest else type_says me s (origin_at me s x.name.name) (type_tree x.of_type) rest) (sym c.is_declared.ensures ∙ c.if-is_declared.false))))
