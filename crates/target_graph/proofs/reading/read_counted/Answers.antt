use Rattle.std.proofs.Common.{List, sym, subst, ◌∙◌, arith}
use Rattle.target_graph.specs.declared.entry.Entry.{Entry}
use Rattle.target_graph.specs.declared.fault.FaultKind.TheVariants as kinds
use Rattle.target_graph.specs.Faults.{names_of, IsFirstRepeat}
use Rattle.target_graph.proofs.Refusals.{passed_more}
use Rattle.target_graph.proofs.PlainFaults.{refuses}
use Rattle.target_graph.proofs.reading.read_counted.Goals as goal

pub returns-in-Ok : goal.returns-in-Ok
returns-in-Ok c =
    λ held e p.
    c.read_named.ensures held e
    (passed_more held kinds.NameTwice p
    (λ name f. c.in-Ok.ensures.1 name (subst (λ (es : List Entry). IsFirstRepeat (names_of es) name) (e ∙ sym c.deref.ensures.value) f)))

pub returns-in-Err : goal.returns-in-Err
returns-in-Err c =
    λ held e p.
    refuses held kinds.NameTwice (omega arith) c.in-Err.refusal _ _ p
    (λ name f. subst (λ (es : List Entry). IsFirstRepeat (names_of es) name) (c.deref.ensures.value ∙ sym e) f) c.in-Err.ensures
