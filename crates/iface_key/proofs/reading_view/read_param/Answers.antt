use Rattle.iface_key.proofs.Listed.{exits}
use Rattle.iface_key.proofs.ViewLaws.{no_param_mark, no_param_type}
use Rattle.iface_key.proofs.reading_view.read_param.Goals as goal

pub returns-in_err-by_var : goal.returns-in_err-by_var
returns-in_err-by_var c = exits _ _ c.from_residual.result c.in_err-by_var.field-0.0 c.from_residual.ensures.1 (λ e. no_param_mark c.args.text.now (c.in_err-by_var.ensures e))

pub returns-in_err-ty : goal.returns-in_err-ty
returns-in_err-ty c = exits _ _ c.from_residual-in_err-ty.result c.in_err-ty.field-0.0 c.from_residual-in_err-ty.ensures.1 (λ e. no_param_type c.args.text.now c.in_ok-by_var.behind_mark.now c.in_ok-by_var.by_var c.in_ok-by_var.ensures (c.in_err-ty.ensures e))
