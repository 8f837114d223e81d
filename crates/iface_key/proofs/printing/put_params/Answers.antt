use Rattle.std.proofs.Common.{arith, map}
use Rattle.oberon_types.specs.Memory.{plain_param}
use Rattle.iface_key.specs.Keys.{list_then, param_then}
use Rattle.iface_key.proofs.PutLaws.{on_ok, printed_all}
use Rattle.iface_key.proofs.printing.put_params.Goals as goal

pub returns : goal.returns
returns c = on_ok c.put_byte-2.result (printed_all (λ ps. list_then param_then (map plain_param ps)) c.args.params.now c.loop-param.param-index c.args.key.now.items c.loop-param.key.items c.put_byte-2.new.key.items (omega arith) c.loop-param.invariant) c.put_byte-2.ensures
