use Rattle.std.proofs.Common.{ℕ, List, ap, sym, subst, ◌∙◌, arith}
use Rattle.target_graph.specs.declared.entry.Entry.{Entry}
use Rattle.target_graph.specs.declared.fault.FaultKind.TheVariants as kinds
use Rattle.target_graph.specs.Faults.{names_of, dependencies_of, too_many, IsFirstUnknown, IsNameIndex, IsResolved}
use Rattle.target_graph.proofs.Refusals.{passed_more}
use Rattle.target_graph.proofs.PlainFaults.{refuses}
use Rattle.target_graph.proofs.reading.read_named.Goals as goal

pub returns-in-Ok : goal.returns-in-Ok
returns-in-Ok c =
    λ held e p.
    let keys = c.args.names.keys in
    record {
      few = ap too_many e ∙ c.requires.few;
      index = subst (λ (es : List Entry). IsNameIndex keys (names_of es)) (sym e) c.requires.index;
      resolved = subst (λ (es : List Entry). IsResolved keys es c.in-Ok.targets.items) (sym e) c.in-Ok.ensures.0;
      passed = passed_more held kinds.UnknownDependency p
          (λ name f. c.in-Ok.ensures.1 name
          (subst (λ (names : List (List ℕ)). IsFirstUnknown names (dependencies_of c.args.entries.items) name) (sym c.requires.index.same)
          (subst (λ (es : List Entry). IsFirstUnknown (names_of es) (dependencies_of es) name) e f)));
    }

pub returns-in-Err : goal.returns-in-Err
returns-in-Err c =
    λ held e p.
    refuses held kinds.UnknownDependency (omega arith) c.in-Err.refusal _ _ p
    (λ name f. subst (λ (es : List Entry). IsFirstUnknown (names_of es) (dependencies_of es) name) (sym e)
    (subst (λ (names : List (List ℕ)). IsFirstUnknown names (dependencies_of c.args.entries.items) name) c.requires.index.same f))
    c.in-Err.ensures
