use Rattle.iface_key.proofs.Listed.{exits}
use Rattle.iface_key.proofs.reading_parts.read_name.Goals as goal

pub returns-in_err-letters : goal.returns-in_err-letters
returns-in_err-letters c = exits _ _ c.from_residual.result c.in_err-letters.field-0.0 c.from_residual.ensures.1 (λ e. c.in_err-letters.ensures e)
