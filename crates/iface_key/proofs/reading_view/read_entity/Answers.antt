use Rattle.std.proofs.Common.{arith}
use Rattle.iface_key.proofs.Listed.{exits}
use Rattle.iface_key.proofs.ViewLaws.{no_entity, no_constant, no_type_name, no_variable, no_procedure, no_entity_tag}
use Rattle.iface_key.proofs.reading_view.read_entity.Goals as goal

pub returns-in_err-tag : goal.returns-in_err-tag
returns-in_err-tag c = exits _ _ c.from_residual.result c.in_err-tag.field-0.0 c.from_residual.ensures.1 (λ e. no_entity c.args.text.now (c.in_err-tag.ensures e))

pub returns-in_err-value : goal.returns-in_err-value
returns-in_err-value c = exits _ _ c.from_residual-in_err-value.result c.in_err-value.field-0.0 c.from_residual-in_err-value.ensures.1 (λ e. no_constant c.args.text.now c.in_ok-tag.behind_tag.now c.in_ok-tag.tag c.in_ok-tag.ensures c.if-tag-eq0.true (c.in_err-value.ensures e))

pub returns-in_err-named : goal.returns-in_err-named
returns-in_err-named c = exits _ _ c.from_residual-in_err-named.result c.in_err-named.field-0.0 c.from_residual-in_err-named.ensures.1 (λ e. no_type_name c.args.text.now c.in_ok-tag.behind_tag.now c.in_ok-tag.tag c.in_ok-tag.ensures c.if-tag-eq1.true (c.in_err-named.ensures e))

pub returns-in_err-ty : goal.returns-in_err-ty
returns-in_err-ty c = exits _ _ c.from_residual-in_err-ty.result c.in_err-ty.field-0.0 c.from_residual-in_err-ty.ensures.1 (λ e. no_variable c.args.text.now c.in_ok-tag.behind_tag.now c.in_ok-tag.tag c.in_ok-tag.ensures c.if-tag-eq2.true (c.in_err-ty.ensures e))

pub returns-in_err-signature : goal.returns-in_err-signature
returns-in_err-signature c = exits _ _ c.from_residual-in_err-signature.result c.in_err-signature.field-0.0 c.from_residual-in_err-signature.ensures.1 (λ e. no_procedure c.args.text.now c.in_ok-tag.behind_tag.now c.in_ok-tag.tag c.in_ok-tag.ensures c.if-tag-eq3.true (c.in_err-signature.ensures e))

pub returns : goal.returns
returns c e = no_entity_tag c.args.text.now c.in_ok-tag.behind_tag.now c.in_ok-tag.tag c.in_ok-tag.ensures (omega (arith, c.if-tag-eq0.false, c.if-tag-eq1.false, c.if-tag-eq2.false, c.if-tag-eq3.false))
