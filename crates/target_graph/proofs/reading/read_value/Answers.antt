use Rattle.std.proofs.Common.{sym, ◌∙◌}
use Rattle.std.proofs.lemmas.Option.{none-some}
use Rattle.serde_json.specs.View.{view}
use Rattle.target_graph.specs.declared.fault.FaultKind.TheVariants as kinds
use Rattle.target_graph.proofs.Refusals.{passed_more, bad_of_value, entries_of_value}
use Rattle.target_graph.proofs.PlainFaults.{refuses_field}
use Rattle.target_graph.proofs.reading.read_value.Goals as goal

pub returns-in-Ok : goal.returns-in-Ok
returns-in-Ok c =
    λ held e p.
    c.read_entries.ensures held (entries_of_value held (view c.args.value.now) e ∙ sym c.in-Ok.ensures.0.1)
    (passed_more held kinds.BadField p (λ name f. (let none = sym (bad_of_value held (view c.args.value.now) e ∙ c.in-Ok.ensures.0.0) in absurd (none-some name (none ∙ f)))))

pub returns-in-Err : goal.returns-in-Err
returns-in-Err c =
    λ held e p.
    refuses_field held c.in-Err.refusal _ _ p (λ name f. (bad_of_value held (view c.args.value.now) e ∙ f.0, f.1)) c.in-Err.ensures
