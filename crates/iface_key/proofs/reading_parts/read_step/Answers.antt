use Rattle.iface_key.proofs.Listed.{exits}
use Rattle.iface_key.proofs.PartLaws.{no_step_mark, no_step_name}
use Rattle.iface_key.proofs.reading_parts.read_step.Goals as goal

pub returns-in_err-named : goal.returns-in_err-named
returns-in_err-named c = exits _ _ c.from_residual.result c.in_err-named.field-0.0 c.from_residual.ensures.1 (λ e. no_step_mark c.args.text.now (c.in_err-named.ensures e))

pub returns-in_err-name : goal.returns-in_err-name
returns-in_err-name c = exits _ _ c.from_residual-in_err-name.result c.in_err-name.field-0.0 c.from_residual-in_err-name.ensures.1 (λ e. no_step_name c.args.text.now c.in_ok-named.behind_mark.now c.in_ok-named.named c.in_ok-named.ensures c.if-named.true (c.in_err-name.ensures e))
