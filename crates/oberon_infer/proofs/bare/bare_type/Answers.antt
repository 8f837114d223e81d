use Rattle.std.proofs.Common.{ap, sym, ◌∙◌, List}
use Rattle.oberon_tree.specs.declared.expression.Addend.{Addend}
use Rattle.oberon_tree.specs.declared.expression.Simple.{out-Simple}
use Rattle.oberon_tree.specs.Memory.{addends_list}
use Rattle.oberon_rules.specs.Expressions.{bare_type}
use Rattle.oberon_infer.specs.Bare.{is_alone}
use Rattle.oberon_infer.specs.Memory.{plain_scopes}
use Rattle.oberon_infer.proofs.BareMemory.{simple_alone, simple_crowd}
use Rattle.oberon_infer.proofs.bare.bare_type.Goals as goal

pub returns-then-is_alone : goal.returns-then-is_alone
returns-then-is_alone c =
    let alone = ap (λ (xs : List Addend). is_alone (out-Simple c.args.simple.now).sign (addends_list xs)) (sym c.as_slice.ensures.value) ∙ sym c.is_alone.ensures ∙ c.if-is_alone.true in
    c.bare_term.ensures ∙ ap (bare_type (plain_scopes c.args.scopes.now)) (sym (simple_alone c.args.simple.now alone))

pub returns-else-is_alone : goal.returns-else-is_alone
returns-else-is_alone c =
    let crowd = ap (λ (xs : List Addend). is_alone (out-Simple c.args.simple.now).sign (addends_list xs)) (sym c.as_slice.ensures.value) ∙ sym c.is_alone.ensures ∙ c.if-is_alone.false in
    ap (bare_type (plain_scopes c.args.scopes.now)) (sym (simple_crowd c.args.simple.now crowd))
