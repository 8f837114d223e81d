use Rattle.std.proofs.Common.{ap, sym, ◌∙◌, arith}
use Rattle.target_graph.specs.declared.fault.FaultKind.TheVariants as kinds
use Rattle.target_graph.specs.Faults.{too_many}
use Rattle.target_graph.proofs.Refusals.{passed_more}
use Rattle.target_graph.proofs.PlainFaults.{refuses}
use Rattle.target_graph.proofs.reading.read_entries.Goals as goal

pub returns-in-Ok : goal.returns-in-Ok
returns-in-Ok c =
    λ held e p.
    c.read_counted.ensures held e
    (passed_more held kinds.TooMany p (λ name f. c.in-Ok.ensures.1 name (ap too_many (c.deref.ensures.value ∙ sym e) ∙ f)))

pub returns-in-Err : goal.returns-in-Err
returns-in-Err c =
    λ held e p.
    refuses held kinds.TooMany (omega arith) c.in-Err.refusal _ _ p (λ name f. ap too_many (e ∙ sym c.deref.ensures.value) ∙ f) c.in-Err.ensures
