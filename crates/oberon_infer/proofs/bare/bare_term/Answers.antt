use Rattle.std.proofs.Common.{ap, sym, ◌∙◌, List}
use Rattle.oberon_tree.specs.declared.expression.Multiplier.{Multiplier}
use Rattle.oberon_tree.specs.Memory.{multipliers_list}
use Rattle.oberon_rules.specs.Expressions.{bare_type}
use Rattle.oberon_infer.specs.Bare.{has_multipliers}
use Rattle.oberon_infer.specs.Memory.{plain_scopes}
use Rattle.oberon_infer.proofs.BareMemory.{term_alone, term_crowd}
use Rattle.oberon_infer.proofs.bare.bare_term.Goals as goal

pub returns-then-has_multipliers : goal.returns-then-has_multipliers
returns-then-has_multipliers c =
    let more = ap (λ (xs : List Multiplier). has_multipliers (multipliers_list xs)) (sym c.as_slice.ensures.value) ∙ sym c.has_multipliers.ensures ∙ c.if-has_multipliers.true in
    ap (bare_type (plain_scopes c.args.scopes.now)) (sym (term_crowd c.args.term.now more))

pub returns : goal.returns
returns c =
    let one = ap (λ (xs : List Multiplier). has_multipliers (multipliers_list xs)) (sym c.as_slice.ensures.value) ∙ sym c.has_multipliers.ensures ∙ c.if-has_multipliers.false in
    c.bare_factor.ensures ∙ ap (bare_type (plain_scopes c.args.scopes.now)) (sym (term_alone c.args.term.now one))
