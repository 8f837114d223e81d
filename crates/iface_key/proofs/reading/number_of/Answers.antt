use Rattle.std.proofs.Common.{◌+◌, ◌*◌, refl, arith}
use Rattle.iface_key.proofs.ReadLaws.{number_read}
use Rattle.iface_key.proofs.reading.number_of.Goals as goal

pub returns : goal.returns
returns c rest = number_read c.args.a c.args.b c.args.c c.args.d (c.args.c + 256 * c.args.d) (c.args.b + 256 * (c.args.c + 256 * c.args.d)) _ rest (omega arith) (omega arith) (omega arith) refl refl (omega arith)
