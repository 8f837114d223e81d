use Rattle.iface_key.proofs.Listed.{exits}
use Rattle.iface_key.specs.Keys.{type_then}
use Rattle.iface_key.specs.Views.{IsType}
use Rattle.iface_key.specs.Views.{IsResult}
use Rattle.iface_key.proofs.PartLaws.{no_option_mark, no_option_item}
use Rattle.iface_key.proofs.reading_view.read_result.Goals as goal

pub returns-in_err-is_function : goal.returns-in_err-is_function
returns-in_err-is_function c = exits _ _ c.from_residual.result c.in_err-is_function.field-0.0 c.from_residual.ensures.1 (λ e. no_option_mark type_then IsResult c.args.text.now (c.in_err-is_function.ensures e))

pub returns-in_err-ty : goal.returns-in_err-ty
returns-in_err-ty c = exits _ _ c.from_residual-in_err-ty.result c.in_err-ty.field-0.0 c.from_residual-in_err-ty.ensures.1 (λ e. no_option_item type_then IsResult IsType c.args.text.now c.in_ok-is_function.behind_mark.now c.in_ok-is_function.is_function (λ x is. is) c.in_ok-is_function.ensures c.if-is_function.true (c.in_err-ty.ensures e))
