use Rattle.std.proofs.Common.{◌∙◌}
use Rattle.iface_key.proofs.Listed.{exits}
use Rattle.iface_key.proofs.ReadLaws.{no_bool, no_bool_above, bool_read}
use Rattle.iface_key.proofs.reading.read_bool.Goals as goal

pub returns-in_err-byte : goal.returns-in_err-byte
returns-in_err-byte c = exits _ _ c.from_residual.result c.in_err-byte.field-0.0 c.from_residual.ensures.1 (λ e. no_bool c.args.text.now (c.in_err-byte.ensures e))

pub returns-then-byte-gt1 : goal.returns-then-byte-gt1
returns-then-byte-gt1 c e = no_bool_above c.args.text.now c.in_ok-byte.byte c.in_ok-byte.behind.now c.in_ok-byte.ensures c.if-byte-gt1.true

pub returns : goal.returns
returns c = c.in_ok-byte.ensures ∙ bool_read c.in_ok-byte.byte c.in_ok-byte.behind.now c.if-byte-gt1.false
