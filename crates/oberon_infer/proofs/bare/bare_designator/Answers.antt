use Rattle.std.proofs.Common.{ap, sym, ◌∙◌, List}
use Rattle.oberon_tree.specs.declared.expression.Selector.{Selector}
use Rattle.oberon_tree.specs.Memory.{selectors_list}
use Rattle.oberon_rules.specs.Expressions.{bare_type, bare_designator}
use Rattle.oberon_infer.specs.Memory.{plain_scopes}
use Rattle.oberon_infer.proofs.BareMemory.{two_selectors}
use Rattle.oberon_infer.proofs.bare.bare_designator.Goals as goal

pub returns-in-len2-up : goal.returns-in-len2-up
returns-in-len2-up c =
    let s = plain_scopes c.args.scopes.now in
    ap (bare_type s) (sym (two_selectors c.args.designator.now.name c.as_slice.result.now c.in-len2-up.len_at_least))
    ∙ ap (λ (xs : List Selector). bare_type s (bare_designator c.args.designator.now.name (selectors_list xs))) c.as_slice.ensures.value
