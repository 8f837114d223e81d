use Rattle.std.proofs.Common.{arith}
use Rattle.target_graph.specs.declared.fault.FaultKind.TheVariants as kinds
use Rattle.target_graph.proofs.Refusals.{passed_none, passed_more}
use Rattle.target_graph.proofs.PlainFaults.{refuses}
use Rattle.target_graph.proofs.reading.read_file.Goals as goal

pub returns-in-Ok : goal.returns-in-Ok
returns-in-Ok c =
    let file = c.args.file.now in
    c.read_text.ensures file c.in-Ok.ensures.0 (passed_more file kinds.NoFile (passed_none file) c.in-Ok.ensures.1)

pub returns-in-Err : goal.returns-in-Err
returns-in-Err c =
    let file = c.args.file.now in
    refuses file kinds.NoFile (omega arith) c.in-Err.refusal _ _ (passed_none file) (λ name f. f) c.in-Err.ensures
