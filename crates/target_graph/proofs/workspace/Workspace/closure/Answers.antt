use Rattle.std.proofs.Common.{◌≡◌, ◌<◌, List, Bool, length, All, ap, sym, subst, ◌∙◌, arith}
use Rattle.std.proofs.lemmas.Result.{IfOk-weaker}
use Rattle.target_graph.specs.declared.target.Target.{Target}
use Rattle.target_graph.specs.Workspace.{Space}
use Rattle.target_graph.specs.Walk.{AreClosed, AreMarks}
use Rattle.target_graph.proofs.Marked.{closure_of, indices_within}
use Rattle.target_graph.proofs.workspace.Workspace.closure.Goals as goal

pub reached-requires : goal.reached-requires
reached-requires c =
    let ts : c.self.inside.targets.items ≡ c.args.self.now.targets = ap (λ (s : Space). s.targets) c.self.view_is in
    record {
      closed = subst AreClosed (sym c.as_slice.ensures.value) c.self.invariant.sound.closed;
      asked = subst (λ (xs : List Target). All (λ t. t < length xs) c.args.targets.now) (sym (c.as_slice.ensures.value ∙ ts)) c.requires;
    }

pub marked-requires : goal.marked-requires
marked-requires c =
    let a = ap (λ (xs : List Bool). length xs) c.as_slice-2.ensures.value in
    let b = c.in_ok-marks.ensures.size in
    let d = ap (λ (xs : List Target). length xs) c.as_slice.ensures.value in
    omega (arith, a, b, d, c.self.invariant.sound.few)

pub returns : goal.returns
returns c =
    let ts : c.self.inside.targets.items ≡ c.args.self.now.targets = ap (λ (s : Space). s.targets) c.self.view_is in
    let marks =
    subst (λ (ms : List Bool). AreMarks c.args.self.now.targets c.args.targets.now ms) (sym c.as_slice-2.ensures.value)
    (subst (λ (xs : List Target). AreMarks xs c.args.targets.now c.in_ok-marks.marks.items) (c.as_slice.ensures.value ∙ ts) c.in_ok-marks.ensures) in
    record {
      closure = IfOk-weaker c.marked.result _ _ (λ indices m. closure_of c.args.self.now.targets c.args.targets.now c.as_slice-2.result.now indices.items marks m) c.marked.ensures;
      within = IfOk-weaker c.marked.result _ _ (λ indices m. indices_within c.args.self.now.targets c.args.targets.now c.as_slice-2.result.now indices.items marks m) c.marked.ensures;
    }
