use Rattle.std.proofs.Common.{List, sym, subst, ◌∙◌, arith}
use Rattle.target_graph.specs.declared.fault.FaultKind.TheVariants as kinds
use Rattle.target_graph.specs.declared.target.Target.{Target}
use Rattle.target_graph.specs.Closures.{AreClosures, lists}
use Rattle.target_graph.specs.Faults.{IsFirstCycle}
use Rattle.target_graph.specs.Walk.{AreClosed}
use Rattle.target_graph.proofs.Refusals.{passed_more}
use Rattle.target_graph.proofs.PlainFaults.{refuses}
use Rattle.target_graph.proofs.Sound.{targets_same}
use Rattle.target_graph.proofs.workspace.Workspace.of_listing.Goals as goal

pub closures-requires : goal.closures-requires
closures-requires c = subst AreClosed (sym c.as_slice.ensures.value) c.requires.closed

pub of_acyclic-requires : goal.of_acyclic-requires
of_acyclic-requires c = record {
  sound = c.requires;
  closures = subst (λ (ts : List Target). AreClosures ts (lists c.in-Ok.closures)) c.as_slice.ensures.value c.in-Ok.ensures.0;
}

pub returns-in-Ok : goal.returns-in-Ok
returns-in-Ok c = λ held is.
    c.of_acyclic.ensures held is
    (passed_more held kinds.DependencyCycle is.passed
    (λ name f. c.in-Ok.ensures.1 name (subst (λ (ts : List Target). IsFirstCycle ts name) (sym (c.as_slice.ensures.value ∙ targets_same held c.args.listing is)) f)))

pub returns-in-Err : goal.returns-in-Err
returns-in-Err c = λ held is.
    refuses held kinds.DependencyCycle (omega arith) c.in-Err.refusal _ _ is.passed
    (λ name f. subst (λ (ts : List Target). IsFirstCycle ts name) (c.as_slice.ensures.value ∙ targets_same held c.args.listing is) f) c.in-Err.ensures
