use Rattle.std.proofs.Common.{sym, ◌∙◌, arith}
use Rattle.target_graph.specs.declared.fault.FaultKind.TheVariants as kinds
use Rattle.target_graph.proofs.Refusals.{passed_more, value_of_text}
use Rattle.target_graph.proofs.PlainFaults.{refuses}
use Rattle.target_graph.proofs.reading.read_text.Goals as goal

pub returns-in-Ok : goal.returns-in-Ok
returns-in-Ok c =
    λ held e p.
    c.read_value.ensures held (value_of_text held c.args.text.now e ∙ c.in-Ok.ensures.0)
    (passed_more held kinds.BadJson p (λ name f. c.in-Ok.ensures.1 name (sym (value_of_text held c.args.text.now e) ∙ f.0, f.1)))

pub returns-in-Err : goal.returns-in-Err
returns-in-Err c =
    λ held e p.
    refuses held kinds.BadJson (omega arith) c.in-Err.refusal _ _ p (λ name f. (value_of_text held c.args.text.now e ∙ f.0, f.1)) c.in-Err.ensures
