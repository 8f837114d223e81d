use Rattle.std.proofs.Common.{◌≡◌, ◌<◌, List, ℕ, Bool, true, false, length, get_or, All, ap, sym, subst, ◌∙◌}
use Rattle.std.proofs.lemmas.List.{get_or_default}
use Rattle.target_graph.specs.declared.target.Target.{Target}
use Rattle.target_graph.specs.declared.fault.FaultKind.TheVariants as kinds
use Rattle.target_graph.specs.Walk.{AreMarks}
use Rattle.target_graph.specs.Faults.{IsFirstCycle, IsAbout}
use Rattle.target_graph.proofs.Cycles.{no_cycle_more, no_cycles, no_first_cycle, first_cycle}
use Rattle.target_graph.proofs.Steps.{found}
use Rattle.target_graph.proofs.walk.check_cycles.Goals as goal

pub reached-requires : goal.reached-requires
reached-requires c =
    let targets = c.args.targets.now in
    record {
      closed = c.requires;
      asked = subst (λ (xs : List ℕ). All (λ t. t < length targets) xs) (sym c.as_slice.ensures) (c.requires c.loop-index.index c.index-targets-index.result c.loop-index-test.true);
    }

pub returns-then-index : goal.returns-then-index
returns-then-index c =
    let targets = c.args.targets.now in
    let n = c.loop-index.index in
    let target = c.index-targets-index.result in
    let deps = c.as_slice.ensures ∙ ap (λ (x : Target). x.dependencies) (sym c.index-targets-index.is) in
    let marks = subst (λ (xs : List ℕ). AreMarks targets xs c.in_ok-marks.marks.items) deps c.in_ok-marks.ensures in
    found c.refusal.result kinds.DependencyCycle (IsFirstCycle targets) _ target.name
    (subst (λ (xs : List ℕ). IsAbout c.refusal.result kinds.DependencyCycle xs) (c.as_slice-name.ensures ∙ ap (λ (x : Target). x.name) (get_or_default targets n c.index-targets-index-then-index.result target c.loop-index-test.true ∙ sym c.index-targets-index.is)) c.refusal.ensures)
    (first_cycle targets n target c.in_ok-marks.marks.items c.loop-index-test.true c.index-targets-index.is marks
    (get_or_default c.in_ok-marks.marks.items n false true (subst (λ k. n < k) (sym marks.size) c.loop-index-test.true)
    ∙ subst (λ (b : Bool). get_or c.in_ok-marks.marks.items n b ≡ b) c.if-index.true (sym c.index.ensures)) c.loop-index.invariant)

pub loop-index-preserved : goal.loop-index-preserved
loop-index-preserved c =
    let targets = c.args.targets.now in
    let n = c.loop-index.index in
    let target = c.index-targets-index.result in
    let deps = c.as_slice.ensures ∙ ap (λ (x : Target). x.dependencies) (sym c.index-targets-index.is) in
    let marks = subst (λ (xs : List ℕ). AreMarks targets xs c.in_ok-marks.marks.items) deps c.in_ok-marks.ensures in
    no_cycle_more targets n target c.in_ok-marks.marks.items c.loop-index-test.true c.index-targets-index.is marks
    (subst (λ (b : Bool). get_or c.in_ok-marks.marks.items n b ≡ b) c.if-index.false (sym c.index.ensures)) c.loop-index.invariant

pub returns : goal.returns
returns c =
    let none = no_cycles c.args.targets.now c.loop-index.index c.loop-index-test.false c.loop-index.invariant in
    (none, no_first_cycle c.args.targets.now none)
