use Rattle.iface_key.proofs.Listed.{exits}
use Rattle.iface_key.proofs.ViewLaws.{no_signature_params, no_signature_result}
use Rattle.iface_key.proofs.reading_view.read_signature.Goals as goal

pub returns-in_err-params : goal.returns-in_err-params
returns-in_err-params c = exits _ _ c.from_residual.result c.in_err-params.field-0.0 c.from_residual.ensures.1 (λ e. no_signature_params c.args.text.now (c.in_err-params.ensures e))

pub returns-in_err-result_type : goal.returns-in_err-result_type
returns-in_err-result_type c = exits _ _ c.from_residual-in_err-result_type.result c.in_err-result_type.field-0.0 c.from_residual-in_err-result_type.ensures.1 (λ e. no_signature_result c.args.text.now c.in_ok-params.behind_params.now _ c.in_ok-params.ensures (c.in_err-result_type.ensures e))
