use Rattle.std.proofs.Common.{◌<◌, ◌≤◌, length, map, arith}
use Rattle.oberon_types.specs.Memory.{plain_export}
use Rattle.iface_key.specs.Keys.{list_then, export_then}
use Rattle.iface_key.proofs.PutLaws.{on_ok, printed_all, printed_more}
use Rattle.iface_key.proofs.printing.put_exports.Goals as goal

pub loop-index-preserved : goal.loop-index-preserved
loop-index-preserved c =
    let within : c.loop-index.index < length c.args.entities.now.entries = omega (arith, c.loop-index-test.true, c.len-index-end.ensures.len) in
    printed_more c.args.entities.now.entries c.loop-index.index c.args.key.now.items c.loop-index.key.items c.put_found.new.key.items within c.in_ok-put_found.ensures c.loop-index.invariant

pub returns : goal.returns
returns c =
    let past : length c.args.entities.now.entries ≤ c.loop-index.index = omega (arith, c.loop-index-test.false, c.len-index-end.ensures.len) in
    on_ok c.put_byte.result (printed_all (λ es. list_then export_then (map plain_export es)) c.args.entities.now.entries c.loop-index.index c.args.key.now.items c.loop-index.key.items c.put_byte.new.key.items past c.loop-index.invariant) c.put_byte.ensures
