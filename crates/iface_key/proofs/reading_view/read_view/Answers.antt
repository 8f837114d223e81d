use Rattle.std.proofs.Common.{arith}
use Rattle.iface_key.proofs.Listed.{exits}
use Rattle.iface_key.proofs.ViewLaws.{no_view, no_exports, no_view_tag}
use Rattle.iface_key.proofs.reading_view.read_view.Goals as goal

pub returns-in_err-tag : goal.returns-in_err-tag
returns-in_err-tag c = exits _ _ c.from_residual.result c.in_err-tag.field-0.0 c.from_residual.ensures.1 (λ e. no_view c.args.text.now (c.in_err-tag.ensures e))

pub returns-in_err-exports : goal.returns-in_err-exports
returns-in_err-exports c = exits _ _ c.from_residual-in_err-exports.result c.in_err-exports.field-0.0 c.from_residual-in_err-exports.ensures.1 (λ e. no_exports c.args.text.now c.in_ok-tag.behind_tag.now c.in_ok-tag.tag c.in_ok-tag.ensures c.if-tag-eq3.true (c.in_err-exports.ensures e))

pub returns : goal.returns
returns c e = no_view_tag c.args.text.now c.in_ok-tag.behind_tag.now c.in_ok-tag.tag c.in_ok-tag.ensures (omega (arith, c.if-tag-eq0.false, c.if-tag-eq1.false, c.if-tag-eq2.false, c.if-tag-eq3.false))
