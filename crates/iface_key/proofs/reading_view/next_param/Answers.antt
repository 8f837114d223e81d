use Rattle.iface_key.proofs.Listed.{exits}
use Rattle.iface_key.specs.Keys.{param_then}
use Rattle.iface_key.specs.Views.{IsParam}
use Rattle.iface_key.specs.ReadViews.{IsNextParam}
use Rattle.iface_key.proofs.PartLaws.{no_option_mark, no_option_item}
use Rattle.iface_key.proofs.reading_view.next_param.Goals as goal

pub returns-in_err-more : goal.returns-in_err-more
returns-in_err-more c = exits _ _ c.from_residual.result c.in_err-more.field-0.0 c.from_residual.ensures.1 (λ e. no_option_mark param_then IsNextParam c.args.text.now (c.in_err-more.ensures e))

pub returns-in_err-param : goal.returns-in_err-param
returns-in_err-param c = exits _ _ c.from_residual-in_err-param.result c.in_err-param.field-0.0 c.from_residual-in_err-param.ensures.1 (λ e. no_option_item param_then IsNextParam IsParam c.args.text.now c.in_ok-more.behind_mark.now c.in_ok-more.more (λ x is. is) c.in_ok-more.ensures c.if-more.true (c.in_err-param.ensures e))
