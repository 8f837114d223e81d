use Rattle.std.proofs.Common.{ap, sym, ◌∙◌}
use Rattle.oberon_tree.specs.declared.expression.Factor.{Factor}
use Rattle.oberon_tree.specs.Memory.{factor_tree}
use Rattle.oberon_rules.specs.Expressions.{bare_type}
use Rattle.oberon_infer.specs.Bare.{bare_factor}
use Rattle.oberon_infer.specs.Memory.{plain_scopes}
use Rattle.oberon_infer.proofs.BareMemory.{designator_alone}
use Rattle.oberon_infer.proofs.bare.bare_factor.Goals as goal

pub returns-in-Designator : goal.returns-in-Designator
returns-in-Designator c =
    let s = plain_scopes c.args.scopes.now in
    c.bare_designator.ensures
    ∙ ap (bare_type s) (sym (designator_alone c.in-Designator.designator))
    ∙ ap (λ (f : Factor). bare_type s (bare_factor (factor_tree f))) (sym c.in-Designator.is)
