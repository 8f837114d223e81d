use Rattle.iface_key.proofs.Listed.{exits}
use Rattle.iface_key.specs.Keys.{step_then}
use Rattle.iface_key.specs.Read.{Any}
use Rattle.iface_key.proofs.PartLaws.{no_option_mark, no_option_item}
use Rattle.iface_key.proofs.reading_parts.next_step.Goals as goal

pub returns-in_err-more : goal.returns-in_err-more
returns-in_err-more c = exits _ _ c.from_residual.result c.in_err-more.field-0.0 c.from_residual.ensures.1 (λ e. no_option_mark step_then Any c.args.text.now (c.in_err-more.ensures e))

pub returns-in_err-step : goal.returns-in_err-step
returns-in_err-step c = exits _ _ c.from_residual-in_err-step.result c.in_err-step.field-0.0 c.from_residual-in_err-step.ensures.1 (λ e. no_option_item step_then Any Any c.args.text.now c.in_ok-more.behind_mark.now c.in_ok-more.more (λ x is. tt) c.in_ok-more.ensures c.if-more.true (c.in_err-step.ensures e))
