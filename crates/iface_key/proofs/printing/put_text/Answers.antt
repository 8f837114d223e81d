use Rattle.std.proofs.Common.{arith}
use Rattle.iface_key.specs.Keys.{text_then}
use Rattle.iface_key.proofs.PutLaws.{on_ok, printed_all}
use Rattle.iface_key.proofs.printing.put_text.Goals as goal

pub returns : goal.returns
returns c = on_ok c.put_byte-2.result (printed_all text_then c.args.text.now c.loop-byte.byte-index c.args.key.now.items c.loop-byte.key.items c.put_byte-2.new.key.items (omega arith) c.loop-byte.invariant) c.put_byte-2.ensures
