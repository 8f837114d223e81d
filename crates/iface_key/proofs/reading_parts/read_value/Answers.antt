use Rattle.std.proofs.Common.{arith}
use Rattle.iface_key.proofs.Listed.{exits}
use Rattle.iface_key.proofs.PartLaws.{no_value, no_integer_value, no_char_value, no_boolean_value, no_set_value, no_text_value, no_value_tag}
use Rattle.iface_key.proofs.reading_parts.read_value.Goals as goal

pub returns-in_err-tag : goal.returns-in_err-tag
returns-in_err-tag c = exits _ _ c.from_residual.result c.in_err-tag.field-0.0 c.from_residual.ensures.1 (λ e. no_value c.args.text.now (c.in_err-tag.ensures e))

pub returns-in_err-integer : goal.returns-in_err-integer
returns-in_err-integer c = exits _ _ c.from_residual-in_err-integer.result c.in_err-integer.field-0.0 c.from_residual-in_err-integer.ensures.1 (λ e. no_integer_value c.args.text.now c.in_ok-tag.behind_tag.now c.in_ok-tag.tag c.in_ok-tag.ensures c.if-tag-eq0.true (c.in_err-integer.ensures e))

pub returns-in_err-code : goal.returns-in_err-code
returns-in_err-code c = exits _ _ c.from_residual-in_err-code.result c.in_err-code.field-0.0 c.from_residual-in_err-code.ensures.1 (λ e. no_char_value c.args.text.now c.in_ok-tag.behind_tag.now c.in_ok-tag.tag c.in_ok-tag.ensures c.if-tag-eq1.true (c.in_err-code.ensures e))

pub returns-in_err-truth : goal.returns-in_err-truth
returns-in_err-truth c = exits _ _ c.from_residual-in_err-truth.result c.in_err-truth.field-0.0 c.from_residual-in_err-truth.ensures.1 (λ e. no_boolean_value c.args.text.now c.in_ok-tag.behind_tag.now c.in_ok-tag.tag c.in_ok-tag.ensures c.if-tag-eq2.true (c.in_err-truth.ensures e))

pub returns-in_err-bits : goal.returns-in_err-bits
returns-in_err-bits c = exits _ _ c.from_residual-in_err-bits.result c.in_err-bits.field-0.0 c.from_residual-in_err-bits.ensures.1 (λ e. no_set_value c.args.text.now c.in_ok-tag.behind_tag.now c.in_ok-tag.tag c.in_ok-tag.ensures c.if-tag-eq3.true (c.in_err-bits.ensures e))

pub returns-in_err-letters : goal.returns-in_err-letters
returns-in_err-letters c = exits _ _ c.from_residual-in_err-letters.result c.in_err-letters.field-0.0 c.from_residual-in_err-letters.ensures.1 (λ e. no_text_value c.args.text.now c.in_ok-tag.behind_tag.now c.in_ok-tag.tag c.in_ok-tag.ensures c.if-tag-eq4.true (c.in_err-letters.ensures e))

pub returns : goal.returns
returns c e = no_value_tag c.args.text.now c.in_ok-tag.behind_tag.now c.in_ok-tag.tag c.in_ok-tag.ensures (omega (arith, c.if-tag-eq0.false, c.if-tag-eq1.false, c.if-tag-eq2.false, c.if-tag-eq3.false, c.if-tag-eq4.false))
