use Rattle.std.proofs.Common.{arith}
use Rattle.iface_key.specs.Keys.{list_then, step_then}
use Rattle.iface_key.proofs.PutLaws.{on_ok, printed_all}
use Rattle.iface_key.proofs.printing.put_path.Goals as goal

pub returns : goal.returns
returns c = on_ok c.put_byte-2.result (printed_all (list_then step_then) c.args.path.now c.loop-step.step-index c.args.key.now.items c.loop-step.key.items c.put_byte-2.new.key.items (omega arith) c.loop-step.invariant) c.put_byte-2.ensures
