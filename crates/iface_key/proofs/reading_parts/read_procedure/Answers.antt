use Rattle.iface_key.proofs.Listed.{exits}
use Rattle.iface_key.specs.Keys.{text_then}
use Rattle.iface_key.specs.Read.{Any}
use Rattle.iface_key.proofs.PartLaws.{no_option_mark, no_option_item}
use Rattle.iface_key.proofs.reading_parts.read_procedure.Goals as goal

pub returns-in_err-local : goal.returns-in_err-local
returns-in_err-local c = exits _ _ c.from_residual.result c.in_err-local.field-0.0 c.from_residual.ensures.1 (λ e. no_option_mark text_then Any c.args.text.now (c.in_err-local.ensures e))

pub returns-in_err-name : goal.returns-in_err-name
returns-in_err-name c = exits _ _ c.from_residual-in_err-name.result c.in_err-name.field-0.0 c.from_residual-in_err-name.ensures.1 (λ e. no_option_item text_then Any Any c.args.text.now c.in_ok-local.behind_mark.now c.in_ok-local.local (λ x is. tt) c.in_ok-local.ensures c.if-local.true (c.in_err-name.ensures e))
