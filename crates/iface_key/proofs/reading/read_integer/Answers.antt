use Rattle.iface_key.proofs.Listed.{exits}
use Rattle.iface_key.proofs.ReadLaws.{no_integer}
use Rattle.iface_key.proofs.reading.read_integer.Goals as goal

pub returns-in_err-number : goal.returns-in_err-number
returns-in_err-number c = exits _ _ c.from_residual.result c.in_err-number.field-0.0 c.from_residual.ensures.1 (λ e. no_integer c.args.text.now (c.in_err-number.ensures e))
